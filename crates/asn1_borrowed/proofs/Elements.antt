-- Whether bytes are one element, by the header at their front.
use Rattle.std.proofs.Common.{◌≡◌, ◌↔◌, ℕ, ◌+◌, List, [], ◌++◌, length, drop, sym, ap, ◌∙◌, arith, length-append, length-drop}
use Rattle.std.proofs.lemmas.List.{append-nil}
use Rattle.asn1_core_element.specs.Element.{element, head, IsElement, IsTagByte, IsFront, HasNoFront}
use Rattle.asn1_core_element.specs.laws.ElementLaws.{head_cut}

pub whole_front : {b : List ℕ} {tag n size : ℕ} → IsFront b tag n size → (size + n ≡ length b) ↔ IsElement IsTagByte b
whole_front {b} {tag} {n} {size} f = (
  λ e.
      let l : length (drop size b) ≡ n = omega (arith, e, length-drop size b) in
      record { tag = tag; contents = drop size b; is_tag = f.is_tag; is = f.header ∙ ap (λ i. head tag i ++ drop size b) (sym l); allowed = f.is_tag },
  λ (i : IsElement IsTagByte b).
      let r = head_cut tag i.tag n (length i.contents) (drop size b) i.contents (sym f.header ∙ i.is) in
      omega (arith, r.1, f.size, ap length r.2, ap length f.header, length-append (head tag n) (drop size b)),
)

pub no_front : {b : List ℕ} → HasNoFront b → IsElement IsTagByte b → ⊥
no_front {b} h i = h i.tag i.contents [] i.is_tag (i.is ∙ sym (append-nil (element i.tag i.contents)))
