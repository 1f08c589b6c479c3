-- Bytes that are put before those that a buffer is filled with.
use Rattle.std.proofs.Common.{◌≡◌, ℕ, ◌+◌, ◌-◌, ◌≤◌, List, ◌++◌, length, take, drop, refl, sym, ap, ◌∙◌, arith, length-append, length-take, length-drop}
use Rattle.std.proofs.Math.Seq.{take-add}
use Rattle.std.proofs.lemmas.List.{drop_at}
use Rattle.std.proofs.lemmas.Slice.{take-put_mid_below}
use Rattle.std.proofs.lemmas.Grind.{common_steps}
use borrow.Rule.Slice.PartMut.{put_mid}
use Rattle.asn1_core_writers.specs.Writers.{Filling, Filled}

take_split : (xs : List ℕ) (at n : ℕ) → n ≤ at → at ≤ length xs → take at xs ≡ take (at - n) xs ++ take n (drop (at - n) xs)
take_split xs at n h l =
    let e : at ≡ at - n + n = omega (arith, h) in
    ap (λ k. take k xs) e ∙ take-add (at - n) n xs

drop_split : (xs : List ℕ) (at n k : ℕ) → n ≤ at → k ≡ at - (at - n) → drop k (drop (at - n) xs) ≡ drop at xs
drop_split xs at n k h l = grind (arith, common_steps)

pub filled : (xs ys t : List ℕ) (at capacity : ℕ) (w : Filling) → record { front = take at xs; text = drop at xs; capacity = capacity } ≡ w → at ≤ length xs → length t ≤ at → ys ≡ t → Filled t w (record { front = take (at - length t) (put_mid (at - length t) (at - (at - length t)) xs ys); text = drop (at - length t) (put_mid (at - length t) (at - (at - length t)) xs ys); capacity = capacity })
filled xs ys t at capacity w v l h e = record {
  gap = take (length t) (drop (at - length t) xs);
  front = sym (ap (λ f. f.front) v) ∙ take_split xs at (length t) h l ∙ ap (λ x. x ++ take (length t) (drop (at - length t) xs)) (sym (take-put_mid_below (at - length t) (at - (at - length t)) xs ys (at - length t) (omega arith) (omega (arith, l))));
  size = omega (arith, length-take (length t) (drop (at - length t) xs), length-drop (at - length t) xs, l, h);
  text = drop_at (take (at - length t) xs) (ys ++ drop (at - (at - length t)) (drop (at - length t) xs)) _ (omega (arith, length-take (at - length t) xs, l))
      ∙ ap (λ y. y ++ drop (at - (at - length t)) (drop (at - length t) xs)) e ∙ ap (λ y. t ++ y) (drop_split xs at (length t) (at - (at - length t)) h refl ∙ ap (λ f. f.text) v);
  capacity = ap (λ f. f.capacity) v;
}

pub placed_length : (xs ys t : List ℕ) (at : ℕ) → at ≤ length xs → length t ≤ at → ys ≡ t → length (put_mid (at - length t) (at - (at - length t)) xs ys) ≡ length xs
placed_length xs ys t at l h e =
    omega (arith, length-append (take (at - length t) xs) (ys ++ drop (at - (at - length t)) (drop (at - length t) xs)), length-append ys (drop (at - (at - length t)) (drop (at - length t) xs)), length-take (at - length t) xs, length-drop (at - (at - length t)) (drop (at - length t) xs), length-drop (at - length t) xs, ap length e, l, h)
