-- Octets in ranges of an input, and parts of them.
use Rattle.std.specs.Prelude.{◌≡◌, ◌≤◌, ◌+◌, ◌-◌, ℕ, List, ◌++◌, length, take, drop, slice_range}
use Rattle.std.specs.declared.ops.Range.{Range}
use Rattle.std.proofs.Common.{refl, sym, ap, subst, ◌∙◌, arith, length-append, take-append-drop}
use Rattle.std.proofs.lemmas.List.{append_assoc, drop-drop, drop_at, take_at}
use Rattle.std.proofs.lemmas.List.Edits.{length-between}
use Rattle.asn1_located.specs.Places.{Reading, Route, Walk}
use Rattle.asn1_located.specs.laws.WalkLaws.{walk_lies_in}
use Rattle.bag_ranges.specs.Bags.{IsIn, IsPartIn}
use Rattle.located_rows.specs.Rows.{LeadsTo}

-- octets among those between two places
module _ (b p y q : List ℕ) (m n : ℕ) (ordered : m ≤ n) (inside : n ≤ length b) (is : slice_range b m n ≡ p ++ (y ++ q)) where
  after : List ℕ
  after = q ++ drop (n - m) (drop m b)

  size : length p + (length y + length q) ≡ n - m
  size = let long : length (slice_range b m n) ≡ n - m = length-between b m n inside in omega (arith, long, ap length is, length-append p (y ++ q), length-append y q)

  from_y : drop (m + length p) b ≡ y ++ after
  unfolding after
  from_y =
      let whole : drop m b ≡ p ++ (y ++ after) =
      sym (take-append-drop (n - m) (drop m b))
      ∙ ap (λ t. t ++ drop (n - m) (drop m b)) is
      ∙ append_assoc p (y ++ q) (drop (n - m) (drop m b))
      ∙ ap (λ t. p ++ t) (append_assoc y q (drop (n - m) (drop m b))) in
      sym (drop-drop (length p) m b) ∙ ap (drop (length p)) whole ∙ drop_at p (y ++ after) (length p) refl

  -- they are those between their places
  pub cut : (k l : ℕ) → k ≡ m + length p → l ≡ k + length y → slice_range b k l ≡ y
  cut k l e f = ap (take (l - k)) (ap (λ i. drop i b) e ∙ from_y) ∙ take_at y after (l - k) (omega (arith, e, f))

  pub within : (k l : ℕ) → k ≡ m + length p → l ≡ k + length y → (m ≤ k) × (k ≤ l) × (l ≤ n)
  within k l e f = (omega (arith, e), omega (arith, f), omega (arith, e, f, size, ordered))

module _ {V W : Type 0} {R : Reading V} {S : Reading W} (route : Route R S) (b : List ℕ) (m n : ℕ) (v : V) (is : IsIn R b m n v) (w : W) (is_part : route.IsPart v w) where
  -- where the steps of a route lead from a value is its part
  pub part_is : (r : Range ℕ) → LeadsTo route.steps m (slice_range b m n) r.start r.end → IsPartIn route b m n v w r
  part_is r leads =
      let a = route.found 64 v w is_part m (slice_range b m n) is.reads in
      let e = leads a.0 a.1 a.2 in
      let l = walk_lies_in route.steps m (slice_range b m n) a.0 a.1 a.2 in
      let start : r.start ≡ m + length l.before = e.0 ∙ l.place in
      let end : r.end ≡ r.start + length a.1 = omega (arith, e.0, e.1) in
      let here : slice_range b r.start r.end ≡ a.1 = cut b l.before a.1 l.after m n is.inside.0 is.inside.1 l.is r.start r.end start end in
      let bounds = within b l.before a.1 l.after m n is.inside.0 is.inside.1 l.is r.start r.end start end in
      record {
        walk = subst (λ i. Walk route.steps m (slice_range b m n) i (slice_range b r.start r.end)) (sym e.0) (subst (λ y. Walk route.steps m (slice_range b m n) a.0 y) (sym here) a.2);
        is_part = is_part;
        is = record { reads = subst (λ y. S 64 y w) (sym here) a.3; inside = (bounds.1, omega (arith, bounds.2, is.inside.1)) };
      }
