-- Laws of `NeedsLevel.antt`.
use Rattle.std.specs.Prelude.{◌≡◌, ◌↔◌, ℕ, zero, suc, ◌+◌, List}
use Rattle.std.proofs.Common.{subst, arith}
use Rattle.asn1_core_element.specs.Element.{IsElement}
use Rattle.asn1_core_format.specs.Format.{Format, IsLawful}
use Rattle.asn1_core_format.specs.laws.Formats.{begins_alone}
use Rattle.asn1_core_format.specs.NeedsLevel.{needs_level}

module _ {V : Type 0} (F : Format V) (f : IsLawful F) where
  element_at : (k : ℕ) (b : List ℕ) (v : V) → (needs_level F).Reads k b v → IsElement F.IsTag b
  element_at zero b v r = absurd r
  element_at (suc k) b v r = f.element (suc k) b v r

  one_at : (k : ℕ) (b : List ℕ) (v w : V) → (needs_level F).Reads k b v → (needs_level F).Reads k b w → v ≡ w
  one_at zero b v w r q = absurd r
  one_at (suc k) b v w r q = f.components.one_value (suc k) b v w r q

  text_reads_at : (k : ℕ) (v : V) → (needs_level F).IsWellFormed k v → (needs_level F).Reads k (F.text v) (F.normal v)
  text_reads_at zero v h = absurd h
  text_reads_at (suc k) v h = f.components.text_reads (suc k) v h

  text_normal_at : (k : ℕ) (v : V) → (needs_level F).IsWellFormed k v → (needs_level F).IsNormal k (F.text v)
  text_normal_at zero v h = absurd h
  text_normal_at (suc k) v h = f.components.text_normal (suc k) v h

  normal_reads_at : (k : ℕ) (b : List ℕ) → (needs_level F).IsNormal k b → (v : V) × (needs_level F).Reads k b v
  normal_reads_at zero b n = absurd n
  normal_reads_at (suc k) b n = f.components.normal_reads (suc k) b n

  fixed_at : (k : ℕ) (b : List ℕ) (v : V) → (needs_level F).Reads k b v → (F.text v ≡ b) ↔ (needs_level F).IsNormal k b
  fixed_at zero b v r = absurd r
  fixed_at (suc k) b v r = f.components.fixed (suc k) b v r

  well_formed_at : (k : ℕ) (b : List ℕ) (v : V) → (needs_level F).Reads k b v → (needs_level F).IsWellFormed k v
  well_formed_at zero b v r = absurd r
  well_formed_at (suc k) b v r = f.components.well_formed (suc k) b v r

  deeper_at : (k : ℕ) (b : List ℕ) (v : V) → (needs_level F).Reads k b v → (needs_level F).Reads (suc k) b v
  deeper_at zero b v r = absurd r
  deeper_at (suc k) b v r = let e : suc k + 1 ≡ suc (suc k) = omega arith in subst (λ j. F.Reads j b v) e (f.components.deeper (suc k) b v r)

  pub lawful_needs_level : IsLawful (needs_level F)
  lawful_needs_level = record {
    components = record {
      begins = λ k b v r. begins_alone F.IsTag b (element_at k b v r);
      one_value = one_at;
      text_reads = text_reads_at;
      text_normal = text_normal_at;
      normal_reads = normal_reads_at;
      fixed = fixed_at;
      well_formed = well_formed_at;
      deeper = λ k b v r. let e : suc k ≡ k + 1 = omega arith in subst (λ j. (needs_level F).Reads j b v) e (deeper_at k b v r);
    };
    element = element_at;
  }
