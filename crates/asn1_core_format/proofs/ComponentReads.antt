-- Reading components.
use Rattle.std.proofs.Common.{◌≡◌, ◌≢◌, ℕ, ◌-◌, ◌<◌, Bool, List, [], ◌++◌, length, take, drop, Option, None, Some, refl, sym, ap, ◌∙◌, subst, arith, inl, inr, append-nil, length-append}
use Rattle.std.proofs.lemmas.List.{take_at, drop_at}
use Rattle.asn1_core_element.specs.Element.{element}
use Rattle.asn1_core_element.specs.laws.ElementLaws.{element_cut, element_long}
use Rattle.asn1_core_element.specs.Position.{Position}
use Rattle.asn1_core_element.specs.Reading.{OpenedElement, Closed}
use Rattle.asn1_core_element.specs.declared.error.Error.{Error}
use Rattle.asn1_core_element.specs.declared.error.Error.TheVariants.{Memory, Malformed}
use Rattle.asn1_core_format.specs.Format.{Format, IsLawful, IsLawfulComponents, HasRead, HasRefused}
use Rattle.asn1_core_format.specs.Nexts.{NextIs}
use Rattle.asn1_core_format.specs.laws.Formats.{texts_cut, next_distinct, begins_next}
use Rattle.asn1_core_format.specs.Components.{part, optional, within, HasReadComponents, HasRefusedComponents}
use Rattle.asn1_core_format.specs.Omitted.{omitted, IsDefault, HasNoDefault, least_unless}
use Rattle.asn1_core_format.specs.laws.Omitted.{omitted_is}

module _ {V W : Type 0} (F : Format V) (R : Format W) (f : IsLawful F) (k : ℕ) where
  -- where the rest is refused, the whole is
  pub rest_refused : {old mid new : Position} {v : V} {e : Error} → HasRead F k old mid v → HasRefusedComponents R k mid new e → HasRefusedComponents (part F R) k old new e
  rest_refused {old} {mid} {new} {v} t g = record {
    kind = g.kind;
    none = λ m p s.
        let e = texts_cut F f k t.taken s.0 mid.left s.1 v p.0 t.reads s.3 (sym t.split ∙ s.2) in
        g.none m p.1 (subst (λ c. R.Reads k c p.1) (sym e.1) s.4);
    counts = omega (arith, g.counts, t.at_least);
    at_most = omega (arith, g.at_most, t.at_most, ap length t.split, length-append t.taken mid.left);
  }

  pub first_refused : {old new : Position} {e : Error} → HasRefused F k old new e → HasRefusedComponents (part F R) k old new e
  first_refused {old} g = record { kind = g.kind; none = λ m p s. g.none m s.0 s.1 p.0 s.2 s.3; counts = g.counts; at_most = g.at_most }

  pub part_has_read : {old mid new : Position} {v : V} {w : W} → HasRead F k old mid v → HasReadComponents R k mid new w → HasReadComponents (part F R) k old new (v, w)
  part_has_read {old} {mid} t g = record {
    reads = (t.taken, mid.left, t.split, t.reads, g.reads);
    done = g.done;
    beyond = g.beyond ∙ t.beyond;
    end = g.end ∙ t.end;
    refused = g.refused;
    at_least = omega (arith, g.at_least, t.at_least);
    at_most = omega (arith, g.at_most, t.at_most, ap length t.split, length-append t.taken mid.left);
  }

module _ {V W : Type 0} (F : Format V) (R : Format W) (f : IsLawful F) (r : IsLawfulComponents R) (distinct : (t : ℕ) → F.IsTag t → R.IsTag t → ⊥) (k : ℕ) where
  -- where the next tag is one of F's, the part is there
  no_rest : {l : List ℕ} → NextIs F.IsTag l → (w : W) → R.Reads k l w → ⊥
  no_rest {l} n w s = next_distinct F.IsTag R.IsTag l distinct n (r.begins k l w s)

  -- and where it isn't, it's absent
  no_part : {l : List ℕ} → (NextIs F.IsTag l → ⊥) → (p : V × W) → (part F R).Reads k l p → ⊥
  no_part {l} n p s = n (begins_next F.IsTag s.0 s.1 l (f.element k s.0 p.0 s.3) s.2)

  there : {l : List ℕ} {e : Error} → NextIs F.IsTag l → (e ≢ Memory → (p : V × W) → (part F R).Reads k l p → ⊥) → e ≢ Memory → (p : Option V × W) → (optional F R).Reads k l p → ⊥
  there n g m (None, w) s = no_rest n w s
  there n g m (Some v, w) s = g m (v, w) s

  absent : {l : List ℕ} {e : Error} → (NextIs F.IsTag l → ⊥) → (e ≢ Memory → (w : W) → R.Reads k l w → ⊥) → e ≢ Memory → (p : Option V × W) → (optional F R).Reads k l p → ⊥
  absent n g m (None, w) s = g m w s
  absent n g m (Some v, w) s = no_part n (v, w) s

  pub part_refused : {old new : Position} {e : Error} → NextIs F.IsTag old.left → HasRefusedComponents (part F R) k old new e → HasRefusedComponents (optional F R) k old new e
  part_refused {old} {new} {e} n g = record { kind = g.kind; none = there {e = e} n g.none; counts = g.counts; at_most = g.at_most }

  pub absent_refused : {old new : Position} {e : Error} → (NextIs F.IsTag old.left → ⊥) → HasRefusedComponents R k old new e → HasRefusedComponents (optional F R) k old new e
  absent_refused {old} {new} {e} n g = record { kind = g.kind; none = absent {e = e} n g.none; counts = g.counts; at_most = g.at_most }

module _ {V W : Type 0} (o : V → Bool) (d : List ℕ) (F : Format V) (R : Format W) (f : IsLawful F) (r : IsLawfulComponents R) (n : IsDefault o d F) (distinct : (t : ℕ) → F.IsTag t → R.IsTag t → ⊥) (k : ℕ) where
  left_out : {l : List ℕ} {e : Error} → NextIs F.IsTag l → (e ≢ Memory → (p : V × W) → (part F R).Reads k l p → ⊥) → e ≢ Memory → (p : V × W) → (omitted o d F R).Reads k l p → ⊥
  left_out x g m p (inl s) = no_rest F R f r distinct k x p.1 s.1
  left_out x g m p (inr s) = g m p s

  default_then : {l : List ℕ} {e : Error} → (NextIs F.IsTag l → ⊥) → (e ≢ Memory → (w : W) → R.Reads k l w → ⊥) → e ≢ Memory → (p : V × W) → (omitted o d F R).Reads k l p → ⊥
  default_then x g m p (inl s) = g m p.1 s.1
  default_then x g m p (inr s) = no_part F R f r distinct k x p s

  no_default_value : {l : List ℕ} {e : Error} → (NextIs F.IsTag l → ⊥) → (e ≢ Memory → (k : ℕ) (v : V) → F.Reads k d v → ⊥) → e ≢ Memory → (p : V × W) → (omitted o d F R).Reads k l p → ⊥
  no_default_value x g m p (inl s) = g m k p.0 s.0
  no_default_value x g m p (inr s) = no_part F R f r distinct k x p s

  pub there_refused : {old new : Position} {e : Error} → NextIs F.IsTag old.left → HasRefusedComponents (part F R) k old new e → HasRefusedComponents (omitted o d F R) k old new e
  there_refused {old} {new} {e} x g = record { kind = g.kind; none = left_out {e = e} x g.none; counts = g.counts; at_most = g.at_most }

  pub omitted_refused : {old new : Position} {e : Error} → (NextIs F.IsTag old.left → ⊥) → HasRefusedComponents R k old new e → HasRefusedComponents (omitted o d F R) k old new e
  omitted_refused {old} {new} {e} x g = record { kind = g.kind; none = default_then {e = e} x g.none; counts = g.counts; at_most = g.at_most }

  pub no_default : (p : Position) {e : Error} → (NextIs F.IsTag p.left → ⊥) → HasNoDefault F d e → HasRefusedComponents (omitted o d F R) k p p e
  no_default p {e} x g = record { kind = g.kind; none = no_default_value {e = e} x g.none; counts = omega arith; at_most = omega arith }

  pub has_read_default : {old new : Position} {v : V} {w : W} → F.Reads k d v → HasReadComponents R k old new w → HasReadComponents (omitted o d F R) k old new (v, w)
  has_read_default {old} {new} {v} {w} s t = record {
    reads = inl (s, t.reads);
    done = t.done;
    beyond = t.beyond;
    end = t.end;
    refused = t.refused;
    at_least = omega (arith, t.at_least, ap (λ x. least_unless x (F.least v)) (omitted_is o d F R f r n distinct k v s));
    at_most = t.at_most;
  }

module _ {V : Type 0} (R : Format V) (k tag : ℕ) where
  pub within_refused : {old mid new : Position} {outer : ℕ} {e : Error} → OpenedElement tag old mid outer → HasRefusedComponents R k mid new e → HasRefused (within tag R) k old new e
  within_refused {old} {mid} {new} o g = record {
    kind = g.kind;
    none = λ m taken rest v s r.
        let e = element_cut tag tag mid.left r.0 o.rest rest (sym o.split ∙ s ∙ ap (λ t. t ++ rest) r.1) in
        g.none m v (subst (λ c. R.Reads k c v) (sym e.1) r.2);
    counts = omega (arith, g.counts, o.headers);
    at_most = omega (arith, g.at_most, o.headers, ap length o.split, length-append (element tag mid.left) o.rest, element_long tag mid.left);
  }

  pub within_has_read : {old mid late new : Position} {outer : ℕ} {v : V} → OpenedElement tag old mid outer → HasReadComponents R k mid late v → Closed late new outer → HasRead (within tag R) k old new v
  within_has_read {old} {mid} {late} {new} {outer} {v} o a c =
      let n : outer - late.end ≡ length o.rest = omega (arith, o.outer_is, o.end, a.end) in
      let b : late.beyond ≡ o.rest ++ old.beyond = a.beyond ∙ o.beyond in
      let l : new.left ≡ o.rest = c.left ∙ ap (λ i. take i late.beyond) n ∙ ap (take (length o.rest)) b ∙ take_at o.rest old.beyond (length o.rest) refl in
      let d : new.beyond ≡ old.beyond = c.beyond ∙ ap (λ i. drop i late.beyond) n ∙ ap (drop (length o.rest)) b ∙ drop_at o.rest old.beyond (length o.rest) refl in
      record {
        taken = element tag mid.left;
        split = o.split ∙ ap (λ x. element tag mid.left ++ x) (sym l);
        reads = (mid.left, refl, a.reads);
        beyond = d;
        end = c.end ∙ o.outer_is;
        refused = c.refused;
        at_least = omega (arith, a.at_least, o.headers, c.headers);
        at_most = omega (arith, a.at_most, o.headers, c.headers, element_long tag mid.left);
      }

module _ {V : Type 0} (F : Format V) (k : ℕ) where
  pub alone_refused : {old new : Position} {e : Error} → HasRefused F k old new e → HasRefusedComponents F k old new e
  alone_refused {old} g = record {
    kind = g.kind;
    none = λ m v s. g.none m old.left [] v (sym (append-nil old.left)) s;
    counts = g.counts;
    at_most = g.at_most;
  }

  pub alone_left : {old new : Position} {v : V} → IsLawful F → HasRead F k old new v → 0 < length new.left → HasRefusedComponents F k old new Malformed
  alone_left {old} {new} {v} f t more = record {
    kind = λ p. cc;
    none = λ m u s.
        let e = texts_cut F f k t.taken old.left new.left [] v u t.reads s (sym t.split ∙ sym (append-nil old.left)) in
        omega (arith, more, ap length e.1);
    counts = omega (arith, t.at_least);
    at_most = omega (arith, t.at_most, ap length t.split, length-append t.taken new.left);
  }
