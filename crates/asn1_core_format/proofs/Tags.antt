-- Another tag in place of a type's own, read.
use Rattle.std.proofs.Common.{◌≡◌, ℕ, List, ◌++◌, Result, Ok, Err, sym, ap, ◌∙◌, subst, refl, arith}
use Rattle.asn1_core_element.specs.Element.{element, retag}
use Rattle.asn1_core_element.specs.laws.ElementLaws.{element_same, retag_element}
use Rattle.asn1_core_element.specs.Position.{Position}
use Rattle.asn1_core_element.specs.Reading.{RefusedElement, OpenedElement, Closed}
use Rattle.asn1_core_element.specs.declared.error.Error.{Error}
use Rattle.asn1_core_format.specs.Format.{Format, IsLawful, HasRead, HasRefused}
use Rattle.asn1_core_format.specs.Components.{HasReadComponents, HasRefusedComponents, GivesComponents, within}
use Rattle.asn1_core_format.specs.Tagged.{IsTagged, inside, implicit}
use Rattle.asn1_core_format.proofs.ComponentReads.{within_refused, within_has_read}

module _ {V : Type 0} (F : Format V) (k tag inner : ℕ) where
  pub implicit_refused : {old mid new : Position} {outer : ℕ} {e : Error} → OpenedElement tag old mid outer → HasRefusedComponents (inside inner F) k mid new e → HasRefused (implicit tag inner F) k old new e
  implicit_refused {old} {mid} {new} {outer} {e} o g =
      let h = within_refused (inside inner F) k tag o g in
      record { kind = h.kind; none = h.none; counts = h.counts; at_most = h.at_most }

  pub implicit_has_read : {old mid late new : Position} {outer : ℕ} {v : V} → OpenedElement tag old mid outer → HasReadComponents (inside inner F) k mid late v → Closed late new outer → HasRead (implicit tag inner F) k old new v
  implicit_has_read {old} {mid} {late} {new} {outer} {v} o a c =
      let h = within_has_read (inside inner F) k tag o a c in
      record { taken = h.taken; split = h.split; reads = h.reads; beyond = h.beyond; end = h.end; refused = h.refused; at_least = h.at_least; at_most = h.at_most }

module _ {T V : Type 0} (value : T → V) (R : Format V) (k tag : ℕ) where
  pub components_contents : (old new : Position) (r : Result T Error) → GivesComponents value R k old new r → GivesComponents value (inside tag (within tag R)) k old new r
  components_contents old new (Ok x) t = record { reads = (old.left, refl, t.reads); done = t.done; beyond = t.beyond; end = t.end; refused = t.refused; at_least = omega (arith, t.at_least); at_most = t.at_most }
  components_contents old new (Err e) g = record {
    kind = g.kind;
    none = λ m v s. g.none m v (subst (λ c. R.Reads k c v) (sym (element_same tag tag old.left s.0 s.1).1) s.2);
    counts = g.counts;
    at_most = g.at_most;
  }

module _ {V : Type 0} (F : Format V) (f : IsLawful F) (tag t : ℕ) (same : t ≡ tag) (g : IsTagged tag F) (k : ℕ) where
  -- what a type of one tag reads is an element with that tag
  own : (b : List ℕ) (v : V) → F.Reads k b v → (c : List ℕ) × (b ≡ element tag c)
  own b v r = let e = f.element k b v r in (e.contents, e.is ∙ ap (λ t. element t e.contents) ((g.tags e.tag).0 e.allowed))

  pub own_unopened : {old new : Position} {e : Error} → RefusedElement t old new e → HasRefused F k old new e
  own_unopened {old} {new} {e} o = record {
    kind = o.long;
    none = λ m taken rest v s p.
        let c = own taken v p in
        o.none c.0 rest (s ∙ ap (λ b. b ++ rest) (c.1 ∙ ap (λ u. element u c.0) (sym same)));
    counts = omega (arith, o.headers);
    at_most = omega (arith, o.headers);
  }

  pub own_refused : {old mid new : Position} {outer : ℕ} {e : Error} → OpenedElement t old mid outer → HasRefusedComponents (inside tag F) k mid new e → HasRefused F k old new e
  own_refused {old} {mid} {new} {outer} {e} o h =
      let r = implicit_refused F k tag tag (subst (λ u. OpenedElement u old mid outer) same o) h in
      record {
        kind = r.kind;
        none = λ m taken rest v s p. let c = own taken v p in r.none m taken rest v s (c.0, c.1, subst (λ b. F.Reads k b v) c.1 p);
        counts = r.counts;
        at_most = r.at_most;
      }

  pub own_has_read : {old mid late new : Position} {outer : ℕ} {v : V} → OpenedElement t old mid outer → HasReadComponents (inside tag F) k mid late v → Closed late new outer → HasRead F k old new v
  own_has_read {old} {mid} {late} {new} {outer} {v} o a c =
      let h = implicit_has_read F k tag tag (subst (λ u. OpenedElement u old mid outer) same o) a c in
      record {
        taken = h.taken;
        split = h.split;
        reads = subst (λ b. F.Reads k b v) (sym h.reads.1) h.reads.2;
        beyond = h.beyond;
        end = h.end;
        refused = h.refused;
        at_least = omega (arith, h.at_least);
        at_most = h.at_most;
      }

-- under its own tag an encoding is what it was
pub own_text : {V : Type 0} (F : Format V) (tag : ℕ) → IsTagged tag F → (v : V) → retag tag (F.text v) ≡ F.text v
own_text F tag g v = let w = g.written v in ap (retag tag) w.1 ∙ retag_element tag tag w.0 ∙ sym w.1
