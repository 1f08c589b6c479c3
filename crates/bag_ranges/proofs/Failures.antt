-- Why nothing is found.
use Rattle.std.specs.Prelude.{◌≢◌, ℕ, List}
use Rattle.asn1_core.specs.Der.{Format, HasNoValue}
use Rattle.asn1_core_element.specs.declared.error.Error.{Error}
use Rattle.asn1_core_element.specs.declared.error.Error.TheVariants.{Memory}
use Rattle.input_ranges.specs.declared.ranges.Refusal.{Refusal}
use Rattle.input_ranges.specs.declared.ranges.Refusal.TheVariants.{Refused}
use Rattle.bag_ranges.specs.Failures.{HasNone}

-- what has something that isn't there isn't there either
pub without : {A B : Type 0} {P : A → Type 0} {Q : B → Type 0} {e : Refusal} → ((y : B) → Q y → (x : A) × P x) → HasNone P e → HasNone Q e
without f n = record { none = λ d y q. (let p = f y q in n.none d p.0 p.1) }

pub not_read : {V : Type 0} (F : Format V) (b : List ℕ) (error : Error) (e : Refusal) → HasNoValue F 64 b error → (e ≢ Refused Memory 0 → error ≢ Memory) → HasNone (F.Reads 64 b) e
not_read F b error e n m = record { none = λ d. n.none (m d) }
