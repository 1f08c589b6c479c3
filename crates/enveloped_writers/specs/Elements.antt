-- Recipients as elements, and the version of enveloped data (RFC 5652, 6.1 and 6.2).
use Rattle.std.specs.Prelude.{◌≡◌, ◌⊎◌, ◌||◌, ℕ, Bool, true, false, List, ◌∷◌, Option, None}
use Rattle.std.specs.List.{AllByRecursion}
use Rattle.asn1_core.specs.Der.{ElementOctets, IsElement, IsTagByte, Octets, element}
use Rattle.pkcs7_verifier.specs.KeyIdentifiers.{has_tag}
use Rattle.signed_writers.specs.Versions.{any_tagged}

-- contents that begin with the INTEGER n, which is below 128
abbrev pub Begins : ℕ → List ℕ → Type 0
Begins n c = (rest : List ℕ) × (c ≡ 0x02 ∷ 0x01 ∷ n ∷ rest)

-- a SEQUENCE that begins with the version n
abbrev pub IsOfVersion : ℕ → ElementOctets → Type 0
IsOfVersion n e = (c : List ℕ) × (e ≡ element 0x30 c) × Begins n c

-- the tag of kari, kekri, pwri or ori
abbrev pub is_other : ElementOctets → Bool
is_other e = has_tag 0xA1 e || (has_tag 0xA2 e || (has_tag 0xA3 e || has_tag 0xA4 e))

-- an element that is a recipient by its tag, of ktri also by its version. What follows isn't looked at
abbrev pub IsRecipient : ElementOctets → Type 0
IsRecipient e = IsElement IsTagByte e × ((is_other e ≡ true) ⊎ (IsOfVersion 0 e ⊎ IsOfVersion 2 e))

-- there is a pwri or an ori
abbrev pub has_password_or_other : List ElementOctets → Bool
has_password_or_other recipients = any_tagged 0xA3 recipients || any_tagged 0xA4 recipients

-- there are no unprotected attributes, and all recipients are ktri of version 0
abbrev pub IsPlain : Option Octets → List ElementOctets → Type 0
IsPlain attributes recipients = (attributes ≡ None) × AllByRecursion (IsOfVersion 0) recipients

-- 3 with a pwri or an ori, else 0 where it is plain, else 2 (RFC 5652, 6.1, without originatorInfo)
abbrev pub IsVersionBy : Bool → Type 0 → ℕ → Type 0
IsVersionBy true Plain n = n ≡ 3
IsVersionBy false Plain n = (Plain × (n ≡ 0)) ⊎ ((Plain → ⊥) × (n ≡ 2))

abbrev pub IsVersion : Option Octets → List ElementOctets → ℕ → Type 0
IsVersion attributes recipients n = IsVersionBy (has_password_or_other recipients) (IsPlain attributes recipients) n
