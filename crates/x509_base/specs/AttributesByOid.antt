-- Attributes by their object identifier. A signer has one of a kind at most, with one value (RFC 5652, 11).
use Rattle.std.specs.Prelude.{◌≡◌, ◌≢◌, ◌↔◌, IsTrue, Bool, List, [], ◌∷◌, Option, None, Some, Result, MatchResult}
use Rattle.std.specs.List.{filter}
use Rattle.std.specs.Str.{bytes_eq}
use Rattle.asn1_core.specs.Der.{Format, OidOctets, ElementOctets, option_value}
use Rattle.asn1_core_element.specs.declared.error.Error.{Error}
use Rattle.asn1_core_element.specs.declared.error.Error.TheVariants.{TooLong, Memory}
use Rattle.x509_base.specs.Names.{attribute}

-- those with that object identifier, in their order
abbrev pub with_oid : OidOctets → List attribute.Value → List attribute.Value
with_oid oid all = filter (λ a. bytes_eq a.0 oid) all

-- the first of some attributes, and whether it is the only one
abbrev pub IsFirst : List attribute.Value → attribute.Value → Bool → Type 0
IsFirst found first only = (later : List attribute.Value) × (found ≡ first ∷ later) × (IsTrue only ↔ (later ≡ []))

-- the one value of the only attribute among some, or nothing where there are none
abbrev pub IsOnly : List attribute.Value → Option ElementOctets → Type 0
IsOnly found None = found ≡ []
IsOnly found (Some value) = (oid : OidOctets) × (found ≡ (oid, (value ∷ [], tt)) ∷ [])

-- the same, read as F
abbrev pub IsOnlyOf : {V : Type 0} → Format V → List attribute.Value → Option V → Type 0
IsOnlyOf F found None = found ≡ []
IsOnlyOf F found (Some v) = (value : ElementOctets) × IsOnly found (Some value) × F.Reads 64 value v

-- why there is none: the attributes are several, or have no value or several, or F doesn't read it; or memory was refused
pub record HasNoOnly {V : Type 0} (F : Format V) (found : List attribute.Value) (e : Error) : Type 0 where
  pub kind : e ≢ TooLong
  pub none : e ≢ Memory → (v : Option V) → IsOnlyOf F found v → ⊥

abbrev pub GivesOnly : {T V : Type 0} → (T → V) → Format V → List attribute.Value → Result (Option T) Error → Type 0
GivesOnly value F found r = MatchResult r (λ x. IsOnlyOf F found (option_value value x)) (λ e. HasNoOnly F found e)
