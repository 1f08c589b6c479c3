-- Laws of `DefinedByLaws.antt`.
use Rattle.std.specs.Prelude.{◌≡◌, ◌↔◌, ℕ, List, ◌++◌}
use Rattle.std.proofs.Common.{refl, sym, ap, ◌∙◌, subst}
use Rattle.asn1_core.specs.Der.{element, element_cut, heads_begin, Format, IsLawfulComponents}
use Rattle.asn1_choices.specs.DefinedBy.{DefinedBy, any_defined_by, Alternative, alternative, by_itself, no_alternative}
use Rattle.asn1_choices.specs.DefinedByLaws.{IsAlternative, IsDefinedBy}

module _ {V : Type 0} (P : DefinedBy V) (p : IsDefinedBy P) where
  same : (b o c q d : List ℕ) → b ≡ element 0x06 o ++ c → b ≡ element 0x06 q ++ d → (o ≡ q) × (c ≡ d)
  same b o c q d e f = let s = element_cut 0x06 0x06 o q c d (sym e ∙ f) in (s.1, s.2)

  picked_one : (k : ℕ) (b : List ℕ) (x y : List ℕ × V) → (any_defined_by P).Reads k b x → (any_defined_by P).Reads k b y → x ≡ y
  picked_one k b (o, v) (q, w) s t =
      let e = same b o s.0 q t.0 s.1 t.1 in
      let r : (P.components o).Reads k s.0 w = subst (λ c. (P.components o).Reads k c w) (sym e.1) (subst (λ a. (P.components a).Reads k t.0 w) (sym e.0) t.3) in
      ap (λ z. (o, z)) ((p.lawful o).one_value k s.0 v w s.3 r) ∙ ap (λ a. (a, w)) e.0

  picked_fixed : (k : ℕ) (b : List ℕ) (x : List ℕ × V) → (any_defined_by P).Reads k b x → ((any_defined_by P).text x ≡ b) ↔ (any_defined_by P).IsNormal k b
  picked_fixed k b (o, v) s = (
    λ e.
        let t : (P.components o).text v ≡ s.0 = p.alike o v ∙ (same b o (P.text v) o s.0 (sym e) s.1).1 in
        (o, s.0, s.1, s.2, ((p.lawful o).fixed k s.0 v s.3).0 t),
    λ n.
        let e = same b n.0 n.1 o s.0 n.2 s.1 in
        let m : (P.components o).IsNormal k s.0 = subst ((P.components o).IsNormal k) e.1 (subst (λ a. (P.components a).IsNormal k n.1) e.0 n.4) in
        ap (λ c. element 0x06 o ++ c) (sym (p.alike o v) ∙ ((p.lawful o).fixed k s.0 v s.3).1 m) ∙ sym s.1,
  )

  pub lawful_any_defined_by : IsLawfulComponents (any_defined_by P)
  lawful_any_defined_by = record {
    begins = λ k b x s. heads_begin x.0 b (s.0, s.1);
    one_value = picked_one;
    text_reads = λ k x h. (P.text x.1, refl, h.0, subst (λ c. (P.components x.0).Reads k c ((P.components x.0).normal x.1)) (p.alike x.0 x.1) ((p.lawful x.0).text_reads k x.1 h.1));
    text_normal = λ k x h. (x.0, P.text x.1, refl, h.0, subst ((P.components x.0).IsNormal k) (p.alike x.0 x.1) ((p.lawful x.0).text_normal k x.1 h.1));
    normal_reads = λ k b n. let v = (p.lawful n.0).normal_reads k n.1 n.4 in ((n.0, v.0), (n.1, n.2, n.3, v.1));
    fixed = picked_fixed;
    well_formed = λ k b x s. (s.2, (p.lawful x.0).well_formed k s.0 x.1 s.3);
    deeper = λ k b x s. (s.0, s.1, s.2, (p.lawful x.0).deeper k s.0 x.1 s.3);
  }

module _ {A V : Type 0} (W : Format V) (m : Alternative A V) (F : Format A) (l : IsAlternative W m F) (f : IsLawfulComponents F) where
  text_of : (v : V) (a : A) → m.put a ≡ m.brought v → F.text a ≡ W.text v
  text_of v a e = sym (l.text a) ∙ ap W.text e ∙ l.alike v

  text_put : (v : V) (a : A) → m.put a ≡ v → F.text a ≡ W.text v
  text_put v a e = sym (l.text a) ∙ ap W.text e

  pub lawful_alternative : IsLawfulComponents (alternative W m F)
  lawful_alternative = record {
    begins = λ k b v s. f.begins k b s.0 s.2;
    one_value = λ k b v w s t. sym s.1 ∙ ap m.put (f.one_value k b s.0 t.0 s.2 t.2) ∙ t.1;
    text_reads = λ k v h. (F.normal h.0, sym (l.normal h.0) ∙ ap W.normal h.1, subst (λ b. F.Reads k b (F.normal h.0)) (text_of v h.0 h.1) (f.text_reads k h.0 h.2));
    text_normal = λ k v h. subst (F.IsNormal k) (text_of v h.0 h.1) (f.text_normal k h.0 h.2);
    normal_reads = λ k b n. let a = f.normal_reads k b n in (m.put a.0, (a.0, refl, a.1));
    fixed = λ k b v s. (
      λ e. (f.fixed k b s.0 s.2).0 (text_put v s.0 s.1 ∙ e),
      λ n. sym (text_put v s.0 s.1) ∙ (f.fixed k b s.0 s.2).1 n,
    );
    well_formed = λ k b v s. (s.0, sym (l.still s.0) ∙ ap m.brought s.1, f.well_formed k b s.0 s.2);
    deeper = λ k b v s. (s.0, s.1, f.deeper k b s.0 s.2);
  }

-- an alternative into which no value of another is converted
module _ {A V : Type 0} {W : Format V} {put : A → V} {F : Format A} where
  pub itself : ((a : A) → W.text (put a) ≡ F.text a) → ((a : A) → W.normal (put a) ≡ put (F.normal a)) → ((a : A) → W.least (put a) ≡ F.least a) → IsAlternative W (by_itself put) F
  itself text normal least = record { text = text; normal = normal; least = least; alike = λ v. refl; still = λ a. refl }

pub lawful_no_alternative : {V : Type 0} (W : Format V) → IsLawfulComponents (no_alternative W)
lawful_no_alternative W = record {
  begins = λ k b v s. absurd s;
  one_value = λ k b v w s t. absurd s;
  text_reads = λ k v h. h;
  text_normal = λ k v h. h;
  normal_reads = λ k b n. absurd n;
  fixed = λ k b v s. absurd s;
  well_formed = λ k b v s. s;
  deeper = λ k b v s. s;
}
