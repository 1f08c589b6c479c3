-- Encodings of BER (ITU-T X.690, 8.1), and what each is in DER as far as lengths (10.1) and OCTET STRINGs (10.2) go.
use Rattle.std.specs.Prelude.{◌≡◌, ◌≢◌, ℕ, Bool, IsTrue, true, false, zero, suc, ◌+◌, ◌/◌, ◌%◌, ◌<◌, ◌≤◌, List, [], ◌∷◌, ◌++◌, length, take, drop, get_or, ◌⊎◌, Option, Some, None}
use Rattle.std.specs.List.{flat_map}
use Rattle.std.specs.Int.Digits.{number_from_digits}
use Rattle.asn1_core_element.specs.Element.{element, IsTagByte}
use Rattle.asn1_core_element.specs.declared.error.Error.{Error}
use Rattle.asn1_core_element.specs.declared.error.Error.TheVariants.{Memory}
use Rattle.ber_der.specs.Contexts.{role_in, context_after, context_inside, der_tag, may_be_constructed, may_be_primitive}
use Rattle.ber_der.specs.declared.contexts.Role.{Role}
use Rattle.ber_der.specs.declared.contexts.Role.TheVariants.{Whole, Segment, Implicit}
use Rattle.ber_der.specs.declared.contexts.Context.{Context}

-- 8.1.3.5: 128 and the number of the octets that follow, at most 8 here, and these, the highest first, leading zeros or not
pub record IsLong (first : ℕ) (more : List ℕ) (n : ℕ) : Type 0 where
  pub count : first ≡ 128 + length more
  pub some : 1 ≤ length more
  pub few : length more ≤ 8
  pub number : n ≡ number_from_digits 256 more

-- 8.1.3.3: the octets of a length n in the definite form
abbrev pub IsLength : List ℕ → ℕ → Type 0
IsLength [] n = ⊥
IsLength (first ∷ more) n = ((first < 128) × (more ≡ []) × (n ≡ first)) ⊎ IsLong first more n

-- an encoding with that tag and these contents, whose length is definite
pub record IsDefinite (b : List ℕ) (tag : ℕ) (contents : List ℕ) : Type 0 where
  pub length_octets : List ℕ
  pub length_is : IsLength length_octets (length contents)
  pub is : b ≡ tag ∷ length_octets ++ contents

-- 8.1.3.6: the length is indefinite, and two zero octets follow the contents (8.1.5)
abbrev pub IsIndefinite : List ℕ → ℕ → List ℕ → Type 0
IsIndefinite b tag contents = b ≡ tag ∷ 128 ∷ contents ++ 0 ∷ 0 ∷ []

-- 8.1.2: a tag of one octet, and not that of the end of contents
abbrev pub IsTag : ℕ → Type 0
IsTag tag = IsTagByte tag × (1 ≤ tag)

-- What a role asks of the tag, where an OCTET STRING of the form has the tag own. An encoding under the implicit tag has two
-- readings, and is allowed only where such are joined.
abbrev pub Allows : Bool → Role → ℕ → ℕ → Type 0
Allows joins Whole tag own = Unit {0}
Allows joins Segment tag own = tag ≡ own
Allows joins Implicit tag own = (tag ≡ 160) × IsTrue joins

-- what is kept of contents in DER: of a segment the octets alone
abbrev pub der_of : Role → ℕ → List ℕ → List ℕ
der_of Whole tag contents = element tag contents
der_of Segment tag contents = contents
der_of Implicit tag contents = element tag contents

-- 8.1.4: the contents are encodings one after another, from a context on, and these are the DER of each
abbrev pub Holds : (Role → List ℕ → List ℕ → Type 0) → Context → List ℕ → List (List ℕ) → Type 0
Holds R context c [] = c ≡ []
Holds R context c (d ∷ ds) = (a : List ℕ) × (b : List ℕ) × (c ≡ a ++ b) × R (role_in context a) a d × Holds R (context_after context (get_or a 0 0)) b ds

abbrev pub joined : List (List ℕ) → List ℕ
joined ds = flat_map (λ d. d) ds

-- 8.1.2.5: the contents of a primitive encoding are kept, of which only their number is asked, and that of few types
pub record IsPrimitive (joins : Bool) (role : Role) (b d : List ℕ) : Type 0 where
  pub tag : ℕ
  pub contents : List ℕ
  pub is_tag : IsTag tag
  pub form : tag / 32 % 2 ≡ 0
  pub primitive : may_be_primitive tag (length contents) ≡ true
  pub allowed : Allows joins role tag 4
  pub is : IsDefinite b tag contents
  pub der : d ≡ der_of role tag contents

-- 8.1.2.5, 8.7.3: those of a constructed one are encodings, and its DER has their DER
pub record IsConstructed (joins : Bool) (R : Role → List ℕ → List ℕ → Type 0) (role : Role) (b d : List ℕ) : Type 0 where
  pub tag : ℕ
  pub contents : List ℕ
  pub ders : List (List ℕ)
  pub is_tag : IsTag tag
  pub form : tag / 32 % 2 ≡ 1
  pub constructed : may_be_constructed tag ≡ true
  pub allowed : Allows joins role tag 36
  pub is : IsDefinite b tag contents ⊎ IsIndefinite b tag contents
  pub holds : Holds R (context_inside role tag) contents ders
  pub der : d ≡ der_of role (der_tag role tag) (joined ders)

-- b is an encoding with at most k levels of constructed ones, and d is what it is in DER
unfoldable pub IsBerWith : Bool → ℕ → Role → List ℕ → List ℕ → Type 0
IsBerWith joins zero role b d = IsPrimitive joins role b d
IsBerWith joins (suc k) role b d = IsPrimitive joins role b d ⊎ IsConstructed joins (IsBerWith joins k) role b d

-- where an element of two readings is an OCTET STRING
abbrev pub IsBer : ℕ → Role → List ℕ → List ℕ → Type 0
IsBer = IsBerWith true

-- where none is such an element
abbrev pub IsUnambiguousBer : ℕ → Role → List ℕ → List ℕ → Type 0
IsUnambiguousBer = IsBerWith false

-- the bytes begin with an encoding, and its DER was appended
pub record Converted (R : List ℕ → List ℕ → Type 0) (bytes rest old new : List ℕ) : Type 0 where
  pub encoding : List ℕ
  pub der : List ℕ
  pub is : R encoding der
  pub split : bytes ≡ encoding ++ rest
  pub out : new ≡ old ++ der

-- the contents are encodings, and the DER of each was appended
pub record ConvertedContents (R : Role → List ℕ → List ℕ → Type 0) (context : Context) (contents old new : List ℕ) : Type 0 where
  pub ders : List (List ℕ)
  pub holds : Holds R context contents ders
  pub out : new ≡ old ++ joined ders

-- the bytes begin with contents and their end
pub record ConvertedToEnd (R : Role → List ℕ → List ℕ → Type 0) (context : Context) (bytes rest old new : List ℕ) : Type 0 where
  pub contents : List ℕ
  pub all : ConvertedContents R context contents old new
  pub split : bytes ≡ contents ++ 0 ∷ 0 ∷ rest

-- the bytes begin with contents, of that length or up to their end
abbrev pub ConvertedBody : (Role → List ℕ → List ℕ → Type 0) → Context → Option ℕ → List ℕ → List ℕ → List ℕ → List ℕ → Type 0
ConvertedBody R context None after rest old new = ConvertedToEnd R context after rest old new
ConvertedBody R context (Some n) after rest old new = (rest ≡ drop n after) × ConvertedContents R context (take n after) old new

-- no encoding begins the bytes
abbrev pub BeginsNone : (List ℕ → List ℕ → Type 0) → List ℕ → Type 0
BeginsNone R bytes = (encoding der rest : List ℕ) → R encoding der → bytes ≡ encoding ++ rest → ⊥

-- the contents are not encodings
abbrev pub HoldsNone : (Role → List ℕ → List ℕ → Type 0) → Context → List ℕ → Type 0
HoldsNone R context contents = (ders : List (List ℕ)) → Holds R context contents ders → ⊥

-- no encodings and their end begin the bytes
abbrev pub EndsNone : (Role → List ℕ → List ℕ → Type 0) → Context → List ℕ → Type 0
EndsNone R context bytes = (contents rest : List ℕ) (ders : List (List ℕ)) → Holds R context contents ders → bytes ≡ contents ++ 0 ∷ 0 ∷ rest → ⊥

-- no such contents begin the bytes
abbrev pub BodyNone : (Role → List ℕ → List ℕ → Type 0) → Context → Option ℕ → List ℕ → Type 0
BodyNone R context None after = EndsNone R context after
BodyNone R context (Some n) after = HoldsNone R context (take n after)

-- converting gave no DER: there is none, or memory was refused
abbrev pub HasNoDer : Bool → ℕ → List ℕ → Error → Type 0
HasNoDer joins k b e = e ≢ Memory → (der : List ℕ) → IsBerWith joins k Whole b der → ⊥
