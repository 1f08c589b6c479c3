-- Laws of `Hashed.antt`.
use Rattle.std.specs.Prelude.{◌≡◌, ℕ, List, [], ◌++◌, length, drop}
use Rattle.std.proofs.Common.{refl, sym, ◌∙◌, subst, append-nil, inl, inr, arith}
use Rattle.asn1_core.specs.Der.{element, head, IsElement, IsTagByte}
use Rattle.asn1_core_element.specs.Element.{IsFront, HasNoFront}
use Rattle.asn1_core_element.specs.laws.ElementLaws.{head_cut}
use Rattle.pkcs7_content.specs.Contents.{ContentValues, content_values}
use Rattle.pkcs7_verifier.specs.Hashed.{AreContentsOf}

pub content_is_element : (content : ContentValues) → IsElement IsTagByte (content_values.text content)
content_is_element (inl c) = record { tag = 0x30; is_tag = omega arith; contents = _; is = refl; allowed = omega arith }
content_is_element (inr (inl c)) = record { tag = 0x04; is_tag = omega arith; contents = _; is = refl; allowed = omega arith }
content_is_element (inr (inr (inl c))) = record { tag = 0x04; is_tag = omega arith; contents = _; is = refl; allowed = omega arith }
content_is_element (inr (inr (inr c))) = record { tag = 0x30; is_tag = omega arith; contents = _; is = refl; allowed = omega arith }

-- what follows the header
pub contents_after_header : (b : List ℕ) (tag n size : ℕ) → IsElement IsTagByte b → IsFront b tag n size → AreContentsOf (drop size b) b
contents_after_header b tag n size o f =
    let e : head o.tag (length o.contents) ++ o.contents ≡ head tag n ++ drop size b = sym o.is ∙ f.header in
    let r = head_cut o.tag tag (length o.contents) n o.contents (drop size b) e in
    record { tag = o.tag; is_tag = o.is_tag; is = subst (λ c. b ≡ element o.tag c) r.2 o.is }

-- an element begins by itself
pub front_is_there : (b : List ℕ) → IsElement IsTagByte b → HasNoFront b → ⊥
front_is_there b o n = n o.tag o.contents [] o.is_tag (o.is ∙ sym (append-nil (element o.tag o.contents)))
