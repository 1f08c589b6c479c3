-- What a comparison tells.
use Rattle.std.proofs.Common.{◌≡◌, ◌≢◌, ◌↔◌, List, [], ◌++◌, ℕ, refl, ap, ◌∙◌, arith}
use Rattle.std.specs.Prelude.{None, Some, Ok}
use Rattle.asn1_core_format.specs.Format.{Format, IsLawful}
use Rattle.asn1_core_format.specs.Whole.{IsValueOf}
use Rattle.asn1_core_writers.specs.Comparing.{Comparison, Compared, before_of, place_of}
use Rattle.der_engine.specs.Engine.{rewriting_at}
use Rattle.der_engine.specs.Steps.{IsRewritten}
use Rattle.der_engine.specs.Verdicts.{IsLocated}

-- an input has one encoding
only_text : {V : Type 0} (F : Format V) (k : ℕ) {b : List ℕ} {v : V} → ((w : V) → F.Reads k b w → w ≡ v) → (t : List ℕ) → (rewriting_at F k).To b t → t ≡ F.text v
only_text F k only t r = r.text ∙ ap F.text (only r.value r.reads)

module _ {V : Type 0} (F : Format V) (k : ℕ) {b : List ℕ} {v : V} {x : Comparison} (f : IsLawful F) (r : IsValueOf F k b v) (h : Compared (F.text v) (record { before = Ok b; total = 0 }) x) where
  -- nothing of the input is before the encoding exactly where both are the same
  same_text : (before_of x.before ≡ Some []) ↔ (F.text v ≡ b)
  same_text = (λ s. let e = (h.before []).0 s in cc, λ s. (h.before []).1 cc)

  pub located_same : before_of x.before ≡ Some [] → IsLocated (rewriting_at F k) b None x.total
  located_same s =
      let e = same_text.0 s in
      record {
        text = F.text v;
        to = record { value = v; reads = r.reads; text = refl };
        only = only_text F k r.only;
        long = omega (arith, h.total);
        same = (λ _. e, λ _. refl);
        normal = (λ _. (f.components.fixed k b v r.reads).0 e, λ _. refl);
        end = tt;
      }

  pub located_other : before_of x.before ≢ Some [] → IsLocated (rewriting_at F k) b (Some (place_of x.before)) x.total
  located_other s = record {
    text = F.text v;
    to = record { value = v; reads = r.reads; text = refl };
    only = only_text F k r.only;
    long = omega (arith, h.total);
    same = (λ e. cc, λ e. absurd (s (same_text.1 e)));
    normal = (λ e. cc, λ n. absurd (s (same_text.1 ((f.components.fixed k b v r.reads).1 n))));
    end = h.place;
  }

pub rewritten : {V : Type 0} (F : Format V) (k : ℕ) {b old new : List ℕ} {v : V} → IsValueOf F k b v → new ≡ old ++ F.text v → IsRewritten (rewriting_at F k) b old new
rewritten F k {v = v} r e = record {
  text = F.text v;
  to = record { value = v; reads = r.reads; text = refl };
  only = only_text F k r.only;
  appended = e;
}
