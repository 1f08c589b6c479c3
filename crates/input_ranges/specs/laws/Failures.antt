-- Laws of `Failures.antt`.
use Rattle.std.specs.Prelude.{◌≡◌, ℕ, List}
use Rattle.std.proofs.Common.{arith, refl, subst, sym}
use Rattle.asn1_core.specs.Der.{Format}
use Rattle.asn1_core_element.specs.declared.error.Error.{Error}
use Rattle.asn1_core_element.specs.declared.error.Error.TheVariants.{Malformed, Missing, Invalid, TooDeep, TooLong, Memory}
use Rattle.input_ranges.specs.declared.ranges.Refusal.{Refusal}
use Rattle.input_ranges.specs.Failures.{IsFailure, IsRefusalOf, refusal_of}

pub failure_of : {A B : Type 0} (e : Error) → (A → B) → IsFailure A e → IsFailure B e
failure_of e f x = record { says = λ n. f (x.says n) }

pub memory_fails : (Says : Type 0) (e : Error) → e ≡ Memory → IsFailure Says e
memory_fails Says e m = record { says = λ n. absurd (n m) }

module _ {V : Type 0} (F : Format V) (b : List ℕ) (Says : Type 0) where
  answered : (e : Error) → IsFailure Says e → IsRefusalOf F b Says (refusal_of e)
  answered Malformed f = f.says (λ m. (let x : Malformed ≡ Memory = m in cc))
  answered Missing f = f.says (λ m. (let x : Missing ≡ Memory = m in cc))
  answered Invalid f = f.says (λ m. (let x : Invalid ≡ Memory = m in cc))
  answered TooDeep f = f.says (λ m. (let x : TooDeep ≡ Memory = m in cc))
  answered TooLong f = f.says (λ m. (let x : TooLong ≡ Memory = m in cc))
  answered Memory f = (record { kind = λ m. (let x : Memory ≡ TooLong = m in cc); none = λ n. absurd (n refl) }, omega arith)

  pub is_refusal : (e : Error) (r : Refusal) → r ≡ refusal_of e → IsFailure Says e → IsRefusalOf F b Says r
  is_refusal e r g f = subst (IsRefusalOf F b Says) (sym g) (answered e f)
