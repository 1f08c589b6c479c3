-- The octets in the ranges of rows.
use Rattle.std.specs.Prelude.{◌≡◌, ◌-◌, ℕ, List, length, min, take, drop, slice_range}
use Rattle.std.specs.declared.ops.Range.{Range}
use Rattle.std.proofs.Common.{sym, ap, arith, ⊎_elim, ◌∙◌}
use Rattle.std.proofs.lemmas.Bool.{cases_lt}
use Rattle.std.proofs.lemmas.List.{length-drop, take_min}
use Rattle.container_parts.specs.StoreParts.{octets_in}

module _ (b : List ℕ) where
  pub as_far : (r : Range ℕ) (start end : ℕ) → end ≡ min r.end (length b) → start ≡ min r.start end → slice_range b start end ≡ octets_in b r
  as_far r start end e s =
      let rest = length-drop r.start b in
      let n : end - start ≡ min (r.end - r.start) (length (drop r.start b)) = omega (arith, e, s, rest) in
      ap (λ m. take m (drop start b)) n
      ∙ ⊎_elim
      (λ past. (let none : min (r.end - r.start) (length (drop r.start b)) ≡ 0 = omega (arith, e, past, rest) in ap (λ m. take m (drop start b)) none ∙ sym (ap (λ m. take m (drop r.start b)) none)))
      (λ within. ap (λ m. take (min (r.end - r.start) (length (drop r.start b))) (drop m b)) (let same : start ≡ r.start = omega (arith, s, within) in same))
      (cases_lt end r.start)
      ∙ take_min (r.end - r.start) (drop r.start b)
