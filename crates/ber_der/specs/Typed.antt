-- Values that are read of BER.
use Rattle.std.specs.Prelude.{◌≢◌, ℕ, List, Result, MatchResult}
use Rattle.asn1_core_element.specs.declared.error.Error.{Error}
use Rattle.asn1_core_element.specs.declared.error.Error.TheVariants.{Memory}
use Rattle.asn1_core_format.specs.Format.{Format}
use Rattle.asn1_core_format.specs.Whole.{IsValueOf}
use Rattle.ber_der.specs.Ber.{IsBer}
use Rattle.ber_der.specs.declared.contexts.Role.TheVariants.{Whole}

-- the input has a DER, and v is its value
pub record IsBerValueOf {V : Type 0} (F : Format V) (b : List ℕ) (v : V) : Type 0 where
  pub der : List ℕ
  pub is_der : IsBer 64 Whole b der
  pub is_value : IsValueOf F 64 der v

-- no DER of the input has a value, or memory was refused
abbrev pub HasNoBerValue : {V : Type 0} → Format V → List ℕ → Error → Type 0
HasNoBerValue {V} F b e = e ≢ Memory → (der : List ℕ) (v : V) → IsBer 64 Whole b der → F.Reads 64 der v → ⊥

abbrev pub AnswersBer : {T V : Type 0} → (T → V) → Format V → List ℕ → Result T Error → Type 0
AnswersBer value F b r = MatchResult r (λ x. IsBerValueOf F b (value x)) (λ e. HasNoBerValue F b e)
