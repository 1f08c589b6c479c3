-- What the MAC covers, and the same in DER: AuthenticatedSafe ::= SEQUENCE OF ContentInfo (RFC 7292, 4.1), whose data are
-- octet strings around SafeContents, in BER as well.
use Rattle.std.specs.Prelude.{◌≡◌, ℕ, List, [], ◌∷◌, ◌++◌}
use Rattle.std.specs.List.{flat_map}
use Rattle.std.proofs.Common.{inl, inr}
use Rattle.asn1_core.specs.Der.{Format, Octets, sequence, sequence_of}
use Rattle.ber_der.specs.Ber.{IsBer}
use Rattle.ber_der.specs.declared.contexts.Role.TheVariants.{Whole}
use Rattle.x509_pkcs12.specs.AuthSafes.{AuthSafeValue}
use Rattle.pkcs12_ber.specs.ContentInfos.{content_info}

abbrev pub info : Format (AuthSafeValue Octets)
info = sequence content_info.format

abbrev pub safe : Format (List (AuthSafeValue Octets))
safe = sequence_of info

-- of data the DER of its octets; any other content as it is, encrypted content too
abbrev pub IsInfoInDer : AuthSafeValue Octets → AuthSafeValue Octets → Type 0
IsInfoInDer (inl octets) (inl der) = IsBer 64 Whole octets der
IsInfoInDer (inl octets) (inr other) = ⊥
IsInfoInDer (inr other) (inl der) = ⊥
IsInfoInDer (inr other) (inr same) = other ≡ same

-- of each content that of the other list
abbrev pub AreInDer : List (AuthSafeValue Octets) → List (AuthSafeValue Octets) → Type 0
AreInDer [] [] = Unit {0}
AreInDer [] (d ∷ ds) = ⊥
AreInDer (c ∷ cs) [] = ⊥
AreInDer (c ∷ cs) (d ∷ ds) = IsInfoInDer c d × AreInDer cs ds

-- the octets are an AuthenticatedSafe in BER, and der is the same with DER in all its data too
pub record IsSafeInDer (octets der : List ℕ) : Type 0 where
  pub outer : List ℕ
  pub outer_is : IsBer 64 Whole octets outer
  pub contents : List (AuthSafeValue Octets)
  pub reads : safe.Reads 64 outer contents
  pub ders : List (AuthSafeValue Octets)
  pub each : AreInDer contents ders
  pub is : der ≡ safe.text ders

-- the octets are no such
abbrev pub HasNoSafe : List ℕ → Type 0
HasNoSafe octets = (der : List ℕ) → IsSafeInDer octets der → ⊥

-- the encodings of the contents in DER were appended
pub record HasAppended (contents : List (AuthSafeValue Octets)) (old new : List ℕ) : Type 0 where
  pub ders : List (AuthSafeValue Octets)
  pub each : AreInDer contents ders
  pub out : new ≡ old ++ flat_map info.text ders

-- the contents have no DER
abbrev pub HaveNoDer : List (AuthSafeValue Octets) → Type 0
HaveNoDer contents = (ders : List (AuthSafeValue Octets)) → AreInDer contents ders → ⊥
