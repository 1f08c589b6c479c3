-- One element, read as it is.
use Rattle.std.proofs.Common.{◌≡◌, ◌↔◌, ℕ, ◌+◌, List, [], ◌++◌, length, drop, sym, ap, ◌∙◌, arith, length-append, length-drop}
use Rattle.std.proofs.lemmas.List.{append-nil}
use Rattle.asn1_core_element.specs.Element.{element, head, IsElement, IsTagByte, IsFront, HasNoFront}
use Rattle.asn1_core_element.specs.laws.ElementLaws.{head_cut, element_long}
use Rattle.asn1_core_element.specs.Position.{Position}
use Rattle.asn1_core_format.specs.Format.{HasRead}
use Rattle.asn1_core_element.specs.Reading.{HasReadWholeElement}
use Rattle.asn1_core.specs.Raw.{raw}

pub raw_has_read : (k : ℕ) {old new : Position} {bytes text : List ℕ} → HasReadWholeElement old new bytes → text ≡ bytes → HasRead raw k old new text
raw_has_read k {old} {new} {bytes} {text} w e = record {
  taken = bytes;
  split = w.split;
  reads = (sym e, w.is_element);
  beyond = w.beyond;
  end = w.end;
  refused = w.refused;
  at_least = omega (arith, w.headers);
  at_most = omega (arith, w.headers, ap length w.is_element.is, element_long w.is_element.tag w.is_element.contents);
}

pub whole_front : {b : List ℕ} {tag n size : ℕ} → IsFront b tag n size → (size + n ≡ length b) ↔ IsElement IsTagByte b
whole_front {b} {tag} {n} {size} f = (
  λ e.
      let l : length (drop size b) ≡ n = omega (arith, e, length-drop size b) in
      record { tag = tag; contents = drop size b; is_tag = f.is_tag; is = f.header ∙ ap (λ i. head tag i ++ drop size b) (sym l); allowed = f.is_tag },
  λ (i : IsElement IsTagByte b).
      let r = head_cut tag i.tag n (length i.contents) (drop size b) i.contents (sym f.header ∙ i.is) in
      omega (arith, r.1, f.size, ap length r.2, ap length f.header, length-append (head tag n) (drop size b)),
)

pub no_front : {b : List ℕ} → HasNoFront b → IsElement IsTagByte b → ⊥
no_front {b} h i = h i.tag i.contents [] i.is_tag (i.is ∙ sym (append-nil (element i.tag i.contents)))
