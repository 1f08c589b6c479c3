-- Laws of `Mapped.antt`.
use Rattle.std.specs.Prelude.{◌≡◌}
use Rattle.std.proofs.Common.{sym, ap, ◌∙◌, subst}
use Rattle.asn1_core_format.specs.Format.{Format, IsLawful}
use Rattle.asn1_core_format.specs.Mapped.{mapped}

module _ {V W : Type 0} (out : V → W) (into : W → V) (there : (w : W) → out (into w) ≡ w) (back : (v : V) → into (out v) ≡ v) (F : Format W) (f : IsLawful F) where
  pub lawful_mapped : IsLawful (mapped out into F)
  lawful_mapped = record {
    components = record {
      begins = λ k b v r. f.components.begins k b (out v) r;
      one_value = λ k b v w r q. sym (back v) ∙ ap into (f.components.one_value k b (out v) (out w) r q) ∙ back w;
      text_reads = λ k v h. subst (λ w. F.Reads k (F.text (out v)) w) (sym (there (F.normal (out v)))) (f.components.text_reads k (out v) h);
      text_normal = λ k v h. f.components.text_normal k (out v) h;
      normal_reads = λ k b n. let w = f.components.normal_reads k b n in (into w.0, subst (λ u. F.Reads k b u) (sym (there w.0)) w.1);
      fixed = λ k b v r. f.components.fixed k b (out v) r;
      well_formed = λ k b v r. f.components.well_formed k b (out v) r;
      deeper = λ k b v r. f.components.deeper k b (out v) r;
    };
    element = λ k b v r. f.element k b (out v) r;
  }
