-- Items that are written one after another, from either end.
use Rattle.std.proofs.Common.{◌≡◌, ℕ, ◌<◌, suc, zero, List, [], ◌∷◌, ◌++◌, length, take, drop, get_or, map, Ok, Err, sym, ap, ◌∙◌, subst, arith, append_assoc}
use Rattle.std.specs.List.{flat_map}
use Rattle.asn1_core_writers.specs.Writers.{Outcome, IsForward, IsBackward}
use Rattle.asn1_core_writers.specs.declared.writer.WriteError.{WriteError}

-- the encoding of some items
abbrev pub texts : {T V : Type 0} → (V → List ℕ) → (T → V) → List T → List ℕ
texts text value xs = flat_map text (map value xs)

module _ {T V : Type 0} (text : V → List ℕ) (value : T → V) where
  pub texts_parts : (xs : List T) (i : ℕ) (x : T) → i < length xs → x ≡ get_or xs i x → texts text value xs ≡ texts text value (take i xs) ++ (text (value x) ++ texts text value (drop (suc i) xs))
  texts_parts [] i x l e = absurd (omega arith)
  texts_parts (y ∷ ys) zero x l e = ap (λ z. text (value z) ++ texts text value ys) (sym e)
  texts_parts (y ∷ ys) (suc i) x l e = ap (λ t. text (value y) ++ t) (texts_parts ys i x (omega arith) e) ∙ sym (append_assoc (text (value y)) (texts text value (take i ys)) (text (value x) ++ texts text value (drop (suc i) ys)))

  module _ {W : Type 0} (Takes : Outcome W) (f : IsForward Takes) where
    pub forward_refused : (xs : List T) (i : ℕ) (x : T) (w y z : W) (u : Unit {0}) (r : WriteError) → i < length xs → x ≡ get_or xs i x → Takes (texts text value (take i xs)) w y (Ok u) → Takes (text (value x)) y z (Err r) → Takes (texts text value xs) w z (Err r)
    forward_refused xs i x w y z u r l e p q =
        subst (λ t. Takes t w z (Err r)) (sym (texts_parts xs i x l e)) (f.goes_on _ _ w y z u (Err r) p (f.stops _ _ y z r q))

  module _ {W : Type 0} (Takes : Outcome W) (count : W → ℕ) (b : IsBackward Takes count) where
    pub backward_refused : (xs : List T) (j i : ℕ) (x : T) (w y z : W) (u : Unit {0}) (r : WriteError) → j ≡ suc i → i < length xs → x ≡ get_or xs i x → Takes (texts text value (drop j xs)) w y (Ok u) → Takes (text (value x)) y z (Err r) → Takes (texts text value xs) w z (Err r)
    backward_refused xs j i x w y z u r k l e p q =
        subst (λ t. Takes t w z (Err r)) (sym (texts_parts xs i x l e))
        (b.stops (texts text value (take i xs)) _ w z r (b.goes_on _ _ w y z u (Err r) (subst (λ n. Takes (texts text value (drop n xs)) w y (Ok u)) k p) q))
