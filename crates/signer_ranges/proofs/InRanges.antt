-- Octets in ranges of an input.
use Rattle.std.specs.Prelude.{◌≡◌, ◌+◌, ◌-◌, ℕ, List, ◌++◌, length, take, drop, slice_range}
use Rattle.std.proofs.Common.{sym, ap, ◌∙◌, arith, length-append, take-append-drop}
use Rattle.std.proofs.lemmas.List.{append_assoc, drop-drop, take_at}
use Rattle.std.proofs.lemmas.List.Edits.{length-between}
use Rattle.asn1_core.specs.Der.{Format}
use Rattle.asn1_located.specs.Places.{Reading, Route}
use Rattle.asn1_located.specs.Routes.{as_is}
use Rattle.input_ranges.specs.Ranges.{IsAt}
use Rattle.located_rows.specs.Rows.{IsRangeOf}
use Rattle.signer_ranges.proofs.Exact.{IsExact}

-- the octets of a part are in its range
pub octets_at : {V : Type 0} {R : Reading V} (route : Route R as_is) (k : ℕ) (b : List ℕ) (v : V) (w : List ℕ) (start end : ℕ) → IsRangeOf route k b v w start end → IsAt b w start end
octets_at route k b v w start end r = record { is = r.place.reads; inside = r.inside.1; ordered = r.inside.0 }

-- its encoding is, of a type that is read from one encoding of each value only
pub text_at : {V W : Type 0} {R : Reading V} (F : Format W) → IsExact F → (route : Route R F.Reads) (k : ℕ) (b : List ℕ) (v : V) (w : W) (start end : ℕ) → IsRangeOf route k b v w start end → IsAt b (F.text w) start end
text_at F exact route k b v w start end r = record { is = exact k (slice_range b start end) w r.place.reads; inside = r.inside.1; ordered = r.inside.0 }

module _ (b x y : List ℕ) (start mid end : ℕ) (at : IsAt b x start mid) (next : IsAt b y mid end) where
  size_x : length x ≡ mid - start
  size_x = let long : length (slice_range b start mid) ≡ mid - start = length-between b start mid at.inside in omega (arith, long, ap length at.is)

  size_y : length y ≡ end - mid
  size_y = let long : length (slice_range b mid end) ≡ end - mid = length-between b mid end next.inside in omega (arith, long, ap length next.is)

  -- the input, from one place on
  from_start : drop start b ≡ x ++ (y ++ drop end b)
  from_start =
      let first : drop start b ≡ x ++ drop (mid - start) (drop start b) = sym (take-append-drop (mid - start) (drop start b)) ∙ ap (λ t. t ++ drop (mid - start) (drop start b)) at.is in
      let on : drop (mid - start) (drop start b) ≡ drop mid b = drop-drop (mid - start) start b ∙ ap (λ n. drop n b) (let n : start + (mid - start) ≡ mid = omega (arith, at.ordered) in n) in
      let second : drop mid b ≡ y ++ drop (end - mid) (drop mid b) = sym (take-append-drop (end - mid) (drop mid b)) ∙ ap (λ t. t ++ drop (end - mid) (drop mid b)) next.is in
      let rest : drop (end - mid) (drop mid b) ≡ drop end b = drop-drop (end - mid) mid b ∙ ap (λ n. drop n b) (let n : mid + (end - mid) ≡ end = omega (arith, next.ordered) in n) in
      first ∙ ap (λ t. x ++ t) (on ∙ second ∙ ap (λ t. y ++ t) rest)

  -- what follows octets in the input, and they, are in one range
  pub joined : IsAt b (x ++ y) start end
  joined = record {
    is = ap (take (end - start)) (from_start ∙ sym (append_assoc x y (drop end b))) ∙ take_at (x ++ y) (drop end b) (end - start) (omega (arith, size_x, size_y, length-append x y, at.ordered, next.ordered));
    inside = next.inside;
    ordered = omega (arith, at.ordered, next.ordered);
  }
