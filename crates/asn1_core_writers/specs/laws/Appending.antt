-- Laws of `Appending.antt`.
use Rattle.std.specs.Prelude.{◌≡◌, ℕ, ◌≤◌, List, ◌++◌, length, Result, Ok, Err}
use Rattle.std.proofs.Common.{ap, ◌∙◌, arith, append_assoc, length-append}
use Rattle.asn1_core_writers.specs.Writers.{IsForward}
use Rattle.asn1_core_writers.specs.declared.writer.WriteError.{WriteError}
use Rattle.asn1_core_writers.specs.Appending.{AppendingTakes}

appending_goes_on : (a b x y z : List ℕ) (l m n : ℕ) (r : Result (Unit {0}) WriteError) → y ≡ x ++ a → l ≤ m → AppendingTakes b y m z n r → AppendingTakes (a ++ b) x l z n r
appending_goes_on a b x y z l m n (Ok u) e g h = (h.0 ∙ ap (λ t. t ++ b) e ∙ append_assoc x a b, omega (arith, g, h.1))
appending_goes_on a b x y z l m n (Err _) e g h = λ k. omega (arith, g, length-append a b, h (omega (arith, k, g, ap length e, length-append x a, length-append a b)))

pub appending_forward : {W : Type 0} (received : W → List ℕ) (room : W → ℕ) → IsForward (λ t w x r. AppendingTakes t (received w) (room w) (received x) (room x) r)
appending_forward received room = record {
  stops = λ a b w x e s k. omega (arith, length-append a b, s (omega (arith, k, length-append a b)));
  goes_on = λ a b w x y u r h s. appending_goes_on a b (received w) (received x) (received y) (room w) (room x) (room y) r h.0 h.1 s;
  too_long = λ a w l k. l;
}
