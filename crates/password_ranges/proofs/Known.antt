-- Parameters of an algorithm with a known object identifier, or of a kind.
use Rattle.std.specs.Prelude.{◌≡◌, Option, None, Some, Result, Ok, Err, MatchResult}
use Rattle.std.proofs.Common.{ap, sym, ◌∙◌}
use Rattle.asn1_choices.specs.Tables.{IsTable, Table}
use Rattle.asn1_core.specs.Der.{Format, OidOctets, option_value}
use Rattle.asn1_core_element.specs.declared.error.Error.{Error}
use Rattle.asn1_core_element.specs.declared.error.Error.TheVariants.{Memory}
use Rattle.password_ranges.specs.Parameters.{AlgorithmValue, AreKnownOrNone, AreOfKindOrNone, AreParametersOrNone, oid_in}

module _ {P : Type 0} (oid : OidOctets) (G : Format P) (w : AlgorithmValue) (is : oid_in w ≡ oid) where
  known : (o : Option P) → AreParametersOrNone G w o → AreKnownOrNone oid G w o
  known None none = λ p k. none p k.1
  known (Some p) are = (is, are)

  pub known_result : {A : Type 0} (value : A → P) (r : Result (Option A) Error) → MatchResult r (λ p. AreParametersOrNone G w (option_value value p)) (λ e. e ≡ Memory) → MatchResult r (λ p. AreKnownOrNone oid G w (option_value value p)) (λ e. e ≡ Memory)
  known_result {A} value (Ok o) h = known (option_value value o) h
  known_result {A} value (Err e) h = h

module _ {A P : Type 0} (T : Table A) (G : Format P) (w : AlgorithmValue) where
  of_kind : (kind : A) → T.oid_of kind ≡ oid_in w → (o : Option P) → AreParametersOrNone G w o → AreOfKindOrNone T G w o
  of_kind kind is None none = λ p k. none p k.2
  of_kind kind is (Some p) are = (kind, is, are)

  pub kind_result : {B : Type 0} (value : B → P) (r : Result (Option B) Error) (kind : A) → T.oid_of kind ≡ oid_in w → MatchResult r (λ p. AreParametersOrNone G w (option_value value p)) (λ e. e ≡ Memory) → MatchResult r (λ p. AreOfKindOrNone T G w (option_value value p)) (λ e. e ≡ Memory)
  kind_result {B} value (Ok o) kind is h = of_kind kind is (option_value value o) h
  kind_result {B} value (Err e) kind is h = h

  pub no_kind : IsTable T → T.alternative_of (oid_in w) ≡ None → AreOfKindOrNone T G w None
  no_kind is none = λ p k. (let f : Some k.0 ≡ None = sym (is.there k.0) ∙ ap T.alternative_of k.1 ∙ none in cc)
