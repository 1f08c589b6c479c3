-- The laws of types under another tag.
use Rattle.std.specs.Prelude.{◌≡◌, ◌↔◌, ℕ, ◌<◌, List}
use Rattle.std.proofs.Common.{refl, sym, ap, ◌∙◌, subst, arith}
use Rattle.asn1_core_element.specs.Element.{element, retag, IsElement, IsTagByte}
use Rattle.asn1_core_element.specs.laws.ElementLaws.{element_same, retag_element}
use Rattle.asn1_core_format.specs.Format.{Format, IsLawful}
use Rattle.asn1_core_format.specs.laws.Formats.{begins_alone}
use Rattle.asn1_core_format.specs.Components.{within}
use Rattle.asn1_core_format.specs.Leaf.{Spelling, leaf}
use Rattle.asn1_core_format.specs.Tagged.{IsTagged, implicit, context_tag}

pub context_tag_is : (n inner : ℕ) → n < 31 → IsTagByte (context_tag n inner)
context_tag_is n inner h = omega (arith, h)

module _ {V : Type 0} (tag inner : ℕ) (F : Format V) (f : IsLawful F) (g : IsTagged inner F) (is_tag : IsTagByte tag) where
  text_is : (v : V) (c : List ℕ) → F.text v ≡ element inner c → (implicit tag inner F).text v ≡ element tag c
  text_is v c e = ap (retag tag) e ∙ retag_element tag inner c

  same : (b c d : List ℕ) → b ≡ element tag c → b ≡ element tag d → c ≡ d
  same b c d p q = (element_same tag tag c d (sym p ∙ q)).1

  implicit_fixed : (k : ℕ) (b : List ℕ) (v : V) → (implicit tag inner F).Reads k b v → ((implicit tag inner F).text v ≡ b) ↔ (implicit tag inner F).IsNormal k b
  implicit_fixed k b v s = (
    λ e.
        let w = g.written v in
        let d : w.0 ≡ s.0 = same b w.0 s.0 (sym e ∙ text_is v w.0 w.1) s.1 in
        (s.0, s.1, (f.components.fixed k (element inner s.0) v s.2).0 (w.1 ∙ ap (element inner) d)),
    λ n.
        let d : n.0 ≡ s.0 = same b n.0 s.0 n.1 s.1 in
        text_is v s.0 ((f.components.fixed k (element inner s.0) v s.2).1 (subst (λ c. F.IsNormal k (element inner c)) d n.2)) ∙ sym s.1,
  )

  implicit_element : (k : ℕ) (b : List ℕ) (v : V) → (implicit tag inner F).Reads k b v → IsElement (λ t. t ≡ tag) b
  implicit_element k b v s = record { tag = tag; contents = s.0; is_tag = is_tag; is = s.1; allowed = refl }

  pub lawful_implicit : IsLawful (implicit tag inner F)
  lawful_implicit = record {
    components = record {
      begins = λ k b v s. begins_alone (λ t. t ≡ tag) b (implicit_element k b v s);
      one_value = λ k b v w s t. f.components.one_value k (element inner s.0) v w s.2 (subst (λ c. F.Reads k (element inner c) w) (same b t.0 s.0 t.1 s.1) t.2);
      text_reads = λ k v h. let w = g.written v in (w.0, text_is v w.0 w.1, subst (λ x. F.Reads k x (F.normal v)) w.1 (f.components.text_reads k v h));
      text_normal = λ k v h. let w = g.written v in (w.0, text_is v w.0 w.1, subst (F.IsNormal k) w.1 (f.components.text_normal k v h));
      normal_reads = λ k b n. let v = f.components.normal_reads k (element inner n.0) n.2 in (v.0, (n.0, n.1, v.1));
      fixed = implicit_fixed;
      well_formed = λ k b v s. f.components.well_formed k (element inner s.0) v s.2;
      deeper = λ k b v s. (s.0, s.1, f.components.deeper k (element inner s.0) v s.2);
    };
    element = implicit_element;
  }

pub implicit_tagged : {V : Type 0} (tag inner : ℕ) (F : Format V) → IsTagged inner F → IsTagByte tag → IsTagged tag (implicit tag inner F)
implicit_tagged tag inner F g t = record {
  is_tag = t;
  tags = λ u. (λ e. e, λ e. e);
  written = λ v. let w = g.written v in (w.0, ap (retag tag) w.1 ∙ retag_element tag inner w.0);
}

pub leaf_tagged : {V : Type 0} (tag : ℕ) → IsTagByte tag → (S : Spelling V) → IsTagged tag (leaf tag S)
leaf_tagged tag t S = record { is_tag = t; tags = λ u. (λ e. e, λ e. e); written = λ v. (S.spell v, refl) }

pub within_tagged : {V : Type 0} (tag : ℕ) → IsTagByte tag → (R : Format V) → IsTagged tag (within tag R)
within_tagged tag t R = record { is_tag = t; tags = λ u. (λ e. e, λ e. e); written = λ v. (R.text v, refl) }
