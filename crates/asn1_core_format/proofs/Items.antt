-- Reading items one after another.
use Rattle.std.proofs.Common.{◌≡◌, ◌≢◌, ℕ, ◌+◌, ◌<◌, List, [], ◌∷◌, ◌++◌, length, refl, sym, ap, ◌∙◌, subst, arith, append_assoc, append-nil, length-append}
use Rattle.asn1_core_element.specs.Position.{Position}
use Rattle.asn1_core_element.specs.declared.error.Error.{Error}
use Rattle.asn1_core_element.specs.declared.error.Error.TheVariants.{Memory}
use Rattle.asn1_core_format.specs.Format.{Format, IsLawful, HasRead, HasRefused}
use Rattle.asn1_core_format.specs.laws.Formats.{text_some, texts_cut}
use Rattle.asn1_core_format.specs.Lists.{ReadsAll, least_all, each, HasReadItems}
use Rattle.asn1_core_format.specs.Components.{HasReadComponents, HasRefusedComponents}

pub least_push : {V : Type 0} (f : V → ℕ) (vs : List V) (v : V) → least_all f (vs ++ v ∷ []) ≡ least_all f vs + f v
least_push f [] v = omega arith
least_push f (u ∷ us) v = omega (arith, least_push f us v)

module _ {V : Type 0} (R : List ℕ → V → Type 0) where
  pub reads_push : (a b : List ℕ) (vs : List V) (v : V) → ReadsAll R a vs → R b v → ReadsAll R (a ++ b) (vs ++ v ∷ [])
  reads_push a b [] v r s = (b, [], ap (λ x. x ++ b) r ∙ sym (append-nil b), s, refl)
  reads_push a b (u ∷ us) v r s = (r.0, r.1 ++ b, ap (λ x. x ++ b) r.2 ∙ append_assoc r.0 r.1 b, r.3, reads_push r.1 b us v r.4 s)

module _ {V : Type 0} (F : Format V) (f : IsLawful F) where
  -- what is read further is read of the rest
  pub reads_rest : (k : ℕ) (a l : List ℕ) (vs us : List V) → ReadsAll (F.Reads k) a vs → ReadsAll (F.Reads k) (a ++ l) us → (xs : List V) × ReadsAll (F.Reads k) l xs
  reads_rest k a l [] us r s = (us, subst (λ c. ReadsAll (F.Reads k) c us) (ap (λ x. x ++ l) r) s)
  reads_rest k a l (v ∷ vs) [] r s = absurd (omega (arith, ap length s, length-append a l, ap length r.2, length-append r.0 r.1, text_some F f k r.0 v r.3))
  reads_rest k a l (v ∷ vs) (u ∷ us) r s =
      let e = texts_cut F f k r.0 s.0 (r.1 ++ l) s.1 v u r.3 s.3 (sym (append_assoc r.0 r.1 l) ∙ ap (λ x. x ++ l) (sym r.2) ∙ s.2) in
      reads_rest k r.1 l vs us r.4 (subst (λ c. ReadsAll (F.Reads k) c us) (sym e.1) s.4)

  pub has_read_more : (k : ℕ) {old mid new : Position} {vs : List V} {v : V} → HasReadItems F k old mid vs → HasRead F k mid new v → HasReadItems F k old new (vs ++ v ∷ [])
  has_read_more k {old} {mid} {new} {vs} {v} i t = record {
    taken = i.taken ++ t.taken;
    split = i.split ∙ ap (λ x. i.taken ++ x) t.split ∙ sym (append_assoc i.taken t.taken new.left);
    reads = reads_push (F.Reads k) i.taken t.taken vs v i.reads t.reads;
    beyond = t.beyond ∙ i.beyond;
    end = t.end ∙ i.end;
    refused = t.refused;
    at_least = omega (arith, i.at_least, t.at_least, least_push F.least vs v);
    at_most = omega (arith, i.at_most, t.at_most, length-append i.taken t.taken);
  }

  pub has_read_shortens : (k : ℕ) {mid new : Position} {v : V} → HasRead F k mid new v → length new.left < length mid.left
  has_read_shortens k {mid} {new} {v} t = omega (arith, ap length t.split, length-append t.taken new.left, text_some F f k t.taken v t.reads)

  none_left : (k : ℕ) {l : List ℕ} {e : Error} → 0 < length l → (e ≢ Memory → (taken rest : List ℕ) (v : V) → l ≡ taken ++ rest → F.Reads k taken v → ⊥) → e ≢ Memory → (xs : List V) → ReadsAll (F.Reads k) l xs → ⊥
  none_left k some g m [] r = omega (arith, ap length r)
  none_left k some g m (x ∷ xs) r = g m r.0 r.1 x r.2 r.3

  pub has_refused_items : (k : ℕ) {old mid new : Position} {vs : List V} {e : Error} → 0 < length mid.left → HasReadItems F k old mid vs → HasRefused F k mid new e → HasRefusedComponents (each F) k old new e
  has_refused_items k {old} {mid} {new} {vs} {e} some i g = record {
    kind = g.kind;
    none = λ m us r.
        let x = reads_rest k i.taken mid.left vs us i.reads (subst (λ c. ReadsAll (F.Reads k) c us) i.split r) in
        none_left k some g.none m x.0 x.1;
    counts = omega (arith, i.at_least, g.counts);
    at_most = omega (arith, i.at_most, g.at_most, ap length i.split, length-append i.taken mid.left);
  }

  pub no_memory_items : (k : ℕ) {old new : Position} {vs : List V} → HasReadItems F k old new vs → HasRefusedComponents (each F) k old new Memory
  no_memory_items k {old} {new} {vs} i = record {
    kind = λ p. cc;
    none = λ m us r. m refl;
    counts = omega (arith, i.at_least);
    at_most = omega (arith, i.at_most, ap length i.split, length-append i.taken new.left);
  }

  pub has_read_all : (k : ℕ) {old new : Position} {vs : List V} → HasReadItems F k old new vs → new.left ≡ [] → HasReadComponents (each F) k old new vs
  has_read_all k {old} {new} {vs} i done =
      let e : old.left ≡ i.taken = i.split ∙ ap (λ x. i.taken ++ x) done ∙ append-nil i.taken in
      record {
        reads = subst (λ c. ReadsAll (F.Reads k) c vs) (sym e) i.reads;
        done = done;
        beyond = i.beyond;
        end = i.end;
        refused = i.refused;
        at_least = i.at_least;
        at_most = omega (arith, i.at_most, ap length e);
      }
