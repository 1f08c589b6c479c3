-- Encodings of BER that are DER in two things: definite lengths in the fewest octets (ITU-T X.690, 10.1), and OCTET
-- STRINGs in one piece (10.2). Nothing else of X.690's sections 10 and 11 is asked.
use Rattle.std.specs.Prelude.{◌≡◌, ℕ, true, zero, suc, ◌/◌, ◌%◌, List, ◌++◌, length, ◌⊎◌}
use Rattle.std.specs.List.{AllByRecursion}
use Rattle.asn1_core_element.specs.Element.{element}
use Rattle.ber_der.specs.Contexts.{may_be_constructed, may_be_primitive}
use Rattle.ber_der.specs.Ber.{IsTag, joined}

-- contents of elements, one after another
pub record AreDer (D : List ℕ → Type 0) (contents : List ℕ) : Type 0 where
  pub parts : List (List ℕ)
  pub each : AllByRecursion D parts
  pub is : contents ≡ joined parts

-- 10.1: an element, and so a length in the fewest octets
pub record IsDerPrimitive (b : List ℕ) : Type 0 where
  pub tag : ℕ
  pub contents : List ℕ
  pub is_tag : IsTag tag
  pub form : tag / 32 % 2 ≡ 0
  pub primitive : may_be_primitive tag (length contents) ≡ true
  pub is : b ≡ element tag contents

pub record IsDerConstructed (D : List ℕ → Type 0) (b : List ℕ) : Type 0 where
  pub tag : ℕ
  pub contents : List ℕ
  pub is_tag : IsTag tag
  pub form : tag / 32 % 2 ≡ 1
  pub constructed : may_be_constructed tag ≡ true
  -- 10.2
  pub no_string : tag ≡ 36 → ⊥
  pub holds : AreDer D contents
  pub is : b ≡ element tag contents

-- with at most k levels of constructed ones
unfoldable pub IsDer : ℕ → List ℕ → Type 0
IsDer zero b = IsDerPrimitive b
IsDer (suc k) b = IsDerPrimitive b ⊎ IsDerConstructed (IsDer k) b

-- DER is at the front
pub record BeginsDer (k : ℕ) (bytes rest : List ℕ) : Type 0 where
  pub der : List ℕ
  pub is : IsDer k der
  pub split : bytes ≡ der ++ rest

abbrev pub BeginsNoDer : ℕ → List ℕ → Type 0
BeginsNoDer k bytes = (der rest : List ℕ) → IsDer k der → bytes ≡ der ++ rest → ⊥
