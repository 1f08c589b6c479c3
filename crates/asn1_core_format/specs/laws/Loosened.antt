-- Laws of `Loosened.antt`.
use Rattle.std.specs.Prelude.{◌≡◌, ◌↔◌, ℕ, List}
use Rattle.std.proofs.Common.{refl, sym, ap, ◌∙◌, subst}
use Rattle.asn1_core_format.specs.Format.{Format, IsLawfulComponents, IsLawful}
use Rattle.asn1_core_format.specs.Loosened.{IsLoosening, Loosening, loosened}

module _ {A V : Type 0} (P : Format A) (p : IsLawfulComponents P) (L : Loosening A V) (l : IsLoosening P L) where
  -- what is read is well-formed as it is written
  rewritten : (k : ℕ) (b : List ℕ) (v : V) → (loosened P L).Reads k b v → P.IsWellFormed k (L.written v)
  rewritten k b v h = subst (λ x. P.IsWellFormed k (L.written x)) h.2 (l.preserved k h.0 (p.well_formed k b h.0 h.1))

  is_proper : (k : ℕ) (b : List ℕ) (v : V) → (loosened P L).Reads k b v → L.IsProper v
  is_proper k b v h = subst L.IsProper h.2 (l.proper h.0)

  text_is_written : (k : ℕ) (v : V) → P.IsWellFormed k (L.written v) → L.IsProper v → L.IsWritten (P.text (L.written v))
  text_is_written k v h i = (l.chosen k (P.text (L.written v)) (P.normal (L.written v)) (p.text_reads k (L.written v) h)).1 (l.settled k v h i)

  loosened_fixed : (k : ℕ) (b : List ℕ) (v : V) → (loosened P L).Reads k b v → ((loosened P L).text v ≡ b) ↔ (loosened P L).IsNormal k b
  loosened_fixed k b v h = (
    λ e. (
      subst (P.IsNormal k) e (p.text_normal k (L.written v) (rewritten k b v h)),
      subst L.IsWritten e (text_is_written k v (rewritten k b v h) (is_proper k b v h)),
    ),
    λ n. ap (λ x. P.text (L.written x)) (sym h.2) ∙ ap P.text ((l.chosen k b h.0 h.1).0 n.1) ∙ (p.fixed k b h.0 h.1).1 n.0,
  )

  pub lawful_loosened_components : IsLawfulComponents (loosened P L)
  lawful_loosened_components = record {
    begins = λ k b v h. p.begins k b h.0 h.1;
    one_value = λ k b v w h i. sym h.2 ∙ ap L.read (p.one_value k b h.0 i.0 h.1 i.1) ∙ i.2;
    text_reads = λ k v h. (P.normal (L.written v), p.text_reads k (L.written v) h.0, l.reread k v h.0 h.1);
    text_normal = λ k v h. (p.text_normal k (L.written v) h.0, text_is_written k v h.0 h.1);
    normal_reads = λ k b n. let a = p.normal_reads k b n.0 in (L.read a.0, (a.0, a.1, refl));
    fixed = loosened_fixed;
    well_formed = λ k b v h. (rewritten k b v h, is_proper k b v h);
    deeper = λ k b v h. (h.0, p.deeper k b h.0 h.1, h.2);
  }

pub lawful_loosened : {A V : Type 0} (P : Format A) → IsLawful P → (L : Loosening A V) → IsLoosening P L → IsLawful (loosened P L)
lawful_loosened P p L l = record {
  components = lawful_loosened_components P p.components L l;
  element = λ k b v h. p.element k b h.0 h.1;
}
