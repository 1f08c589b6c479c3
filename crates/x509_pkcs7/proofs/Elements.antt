-- Whether bytes are one element, by the header at their front.
use Rattle.std.specs.Prelude.{◌≡◌, ◌≢◌, ℕ, List, ◌+◌, ◌++◌, length, drop}
use Rattle.std.proofs.Common.{sym, ap, ◌∙◌, arith}
use Rattle.std.proofs.lemmas.List.{length-append}
use Rattle.asn1_core.specs.Der.{head, IsElement, IsTagByte}
use Rattle.asn1_core_element.specs.Element.{IsFront}
use Rattle.asn1_core_element.specs.laws.ElementLaws.{head_cut}

-- something follows the element
pub not_one_element : (b : List ℕ) (tag n size : ℕ) → IsFront b tag n size → size + n ≢ length b → IsElement IsTagByte b → ⊥
not_one_element b tag n size f e o =
    let h : head o.tag (length o.contents) ++ o.contents ≡ head tag n ++ drop size b = sym o.is ∙ f.header in
    let r = head_cut o.tag tag (length o.contents) n o.contents (drop size b) h in
    let s : head o.tag (length o.contents) ≡ head tag n = ap (λ t. head t (length o.contents)) r.0 ∙ ap (head tag) r.1 in
    e (omega (arith, ap length s, r.1, ap length o.is, length-append (head o.tag (length o.contents)) o.contents, f.size))
