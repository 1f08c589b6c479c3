-- Laws of `Writers.antt`.
use Rattle.std.specs.Prelude.{◌≡◌, ℕ, ◌+◌, List, ◌++◌, length, Result, Ok, Err}
use Rattle.std.proofs.Common.{sym, ap, ◌∙◌, arith, append_assoc, length-append}
use Rattle.asn1_core_writers.specs.declared.writer.WriteError.{WriteError}
use Rattle.asn1_core_writers.specs.Writers.{Filled, Filling, FillingTakes, IsBackward, MeasureTakes}

measure_goes_on : (a b : List ℕ) (w x y : ℕ) (r : Result (Unit {0}) WriteError) → x ≡ w + length b → MeasureTakes a x y r → MeasureTakes (a ++ b) w y r
measure_goes_on a b w x y (Ok u) p q = grind (arith, length-append)
measure_goes_on a b w x y (Err e) p q = (q.0, grind (arith, length-append))

pub measure_backward : {W : Type 0} (count : W → ℕ) → IsBackward (λ t w x r. MeasureTakes t (count w) (count x) r) count
measure_backward count = record {
  stops = λ a b w x e p. (p.0, grind (arith, length-append));
  goes_on = λ a b w x y u r. measure_goes_on a b (count w) (count x) (count y) r;
  counts = λ a w x u p. p;
}

filled_more : (a b : List ℕ) {w x y : Filling} → Filled b w x → Filled a x y → Filled (a ++ b) w y
filled_more a b {w} {x} {y} p q = record {
  gap = q.gap ++ p.gap;
  front = p.front ∙ ap (λ l. l ++ p.gap) q.front ∙ append_assoc y.front q.gap p.gap;
  size = omega (arith, length-append q.gap p.gap, length-append a b, p.size, q.size);
  text = q.text ∙ ap (λ l. a ++ l) p.text ∙ sym (append_assoc a b w.text);
  capacity = q.capacity ∙ p.capacity;
}

filling_goes_on : (a b : List ℕ) (w x y : Filling) (r : Result (Unit {0}) WriteError) → Filled b w x → FillingTakes a x y r → FillingTakes (a ++ b) w y r
filling_goes_on a b w x y (Ok u) p q = filled_more a b p q
filling_goes_on a b w x y (Err e) p q = omega (arith, length-append a b, ap length p.front, length-append x.front p.gap, p.size, q)

pub filling_backward : IsBackward FillingTakes (λ w. length w.text)
filling_backward = record {
  stops = λ a b w x e p. omega (arith, length-append a b, p);
  goes_on = λ a b w x y u r. filling_goes_on a b w x y r;
  counts = λ a w x u p. omega (arith, ap length p.text, length-append a w.text);
}
