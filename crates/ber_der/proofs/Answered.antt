-- Values that are read of a DER, and of what it was converted from.
use Rattle.std.proofs.Common.{◌≡◌, ◌≢◌, ℕ, true, ◌^◌, ◌<◌, List, length, refl, sym, subst, Result, Ok, Err}
use Rattle.asn1_core_element.specs.declared.error.Error.{Error}
use Rattle.asn1_core_element.specs.declared.error.Error.TheVariants.{Malformed, Missing, Invalid, TooDeep, TooLong, Memory}
use Rattle.asn1_core_format.specs.Format.{Format}
use Rattle.asn1_core_format.specs.Whole.{HasNoValue, AnswersInput}
use Rattle.ber_der.specs.Ber.{IsBer, HasNoDer}
use Rattle.ber_der.specs.laws.BerLaws.{one_der}
use Rattle.ber_der.specs.Der.{IsDer}
use Rattle.ber_der.specs.laws.DerLaws.{der_is_fixed}
use Rattle.ber_der.specs.Typed.{AnswersBer, HasNoBerValue}
use Rattle.ber_der.specs.declared.contexts.Role.TheVariants.{Whole}

pub answers_ber : {T V : Type 0} (value : T → V) (F : Format V) (b d : List ℕ) (r : Result T Error) → IsBer 64 Whole b d → AnswersInput value F 64 d r → AnswersBer value F b r
answers_ber value F b d (Ok x) p h = record { der = d; is_der = p; is_value = h }
answers_ber value F b d (Err e) p h = λ m der v q reads. h.none m v (subst (λ z. F.Reads 64 z v) (one_der true 64 Whole b der d q p) reads)

pub answers_der : {T V : Type 0} (value : T → V) (F : Format V) (b d : List ℕ) (r : Result T Error) → length b < 2 ^ 64 → IsBer 64 Whole b d → AnswersInput value F 64 d r → IsDer 64 b → AnswersInput value F 64 b r
answers_der value F b d r l p h i = subst (λ z. AnswersInput value F 64 z r) (one_der true 64 Whole b d b p (der_is_fixed true 64 b l i)) h

pub refused_ber : {V : Type 0} (F : Format V) (b : List ℕ) (e : Error) → HasNoDer true 64 b e → HasNoBerValue F b e
refused_ber F b e h = λ m der v p reads. h m der p

is_memory : (e : Error) → (e ≢ Memory → ⊥) → e ≡ Memory
is_memory Malformed h = absurd (h (λ p. cc))
is_memory Missing h = absurd (h (λ p. cc))
is_memory Invalid h = absurd (h (λ p. cc))
is_memory TooDeep h = absurd (h (λ p. cc))
is_memory TooLong h = absurd (h (λ p. cc))
is_memory Memory h = refl

-- DER is refused for want of memory alone
pub refused_der : {V : Type 0} (F : Format V) (b : List ℕ) (e : Error) → length b < 2 ^ 64 → HasNoDer true 64 b e → IsDer 64 b → HasNoValue F 64 b e
refused_der F b e l h i =
    let m : e ≡ Memory = is_memory e (λ n. h n b (der_is_fixed true 64 b l i)) in
    record { kind = subst (λ x. x ≢ TooLong) (sym m) (λ p. cc); none = λ n v reads. absurd (n m) }
