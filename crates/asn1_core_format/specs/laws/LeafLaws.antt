-- A lawful spelling makes a lawful type.
use Rattle.std.specs.Prelude.{◌≡◌, ℕ, List}
use Rattle.std.proofs.Common.{refl, sym, ap, ◌∙◌}
use Rattle.asn1_core_element.specs.Element.{element, IsElement, IsTagByte}
use Rattle.asn1_core_element.specs.laws.ElementLaws.{element_same}
use Rattle.asn1_core_format.specs.Format.{IsLawful}
use Rattle.asn1_core_format.specs.laws.Formats.{begins_alone}
use Rattle.asn1_core_format.specs.Leaf.{Spelling, IsLawfulSpelling, leaf, verbatim}

module _ {V : Type 0} (tag : ℕ) (is_tag : IsTagByte tag) (S : Spelling V) (s : IsLawfulSpelling S) where
  leaf_element : (b c : List ℕ) → b ≡ element tag c → IsElement (λ t. t ≡ tag) b
  leaf_element b c e = record { tag = tag; contents = c; is_tag = is_tag; is = e; allowed = refl }

  pub lawful_leaf : IsLawful (leaf tag S)
  lawful_leaf = record {
    components = record {
      begins = λ k b v r. begins_alone (λ t. t ≡ tag) b (leaf_element b (S.spell v) r.0);
      one_value = λ k b v w r q. s.one_value v w r.1 q.1 (element_same tag tag (S.spell v) (S.spell w) (sym r.0 ∙ q.0)).1;
      text_reads = λ k v h. (refl, h);
      text_normal = λ k v h. (S.spell v, refl, s.spelled v h);
      normal_reads = λ k b n. let w = s.has_value n.0 n.2 in (w.0, (n.1 ∙ ap (element tag) w.1, w.2));
      fixed = λ k b v r. (λ e. (S.spell v, r.0, s.spelled v r.1), λ n. sym r.0);
      well_formed = λ k b v r. r.1;
      deeper = λ k b v r. r;
    };
    element = λ k b v r. leaf_element b (S.spell v) r.0;
  }

pub lawful_verbatim : (IsContents : List ℕ → Type 0) → IsLawfulSpelling (verbatim IsContents)
lawful_verbatim IsContents = record {
  one_value = λ v w h i e. e;
  spelled = λ v h. h;
  has_value = λ c h. (c, refl, h);
}
