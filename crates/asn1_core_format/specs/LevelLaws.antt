-- What types that hold themselves are made by.
use Rattle.std.specs.Prelude.{◌≡◌, ◌↔◌, ℕ, List}
use Rattle.asn1_core_format.specs.Format.{Format, IsLawful}
use Rattle.asn1_core_format.specs.Levels.{Grammar, at_level, LevelInvariant, by_levels, always}

-- Types outside, made of the types inside. All laws but `lawful` hold by computation.
pub record IsStep {I : Type 0} {V : I → Type 0} (s : (i : I) → LevelInvariant (V i)) (step : ((i : I) → Format (V i)) → (i : I) → Format (V i)) : Type 1 where
  pub lawful : (F : (i : I) → Format (V i)) → ((i : I) → IsLawful (F i)) → (i : I) → IsLawful (step F i)
  -- what is outside has the same encoding and normal value, and the same tags
  pub text : (g : ℕ → (i : I) → Grammar (V i)) (i : I) (v : V i) → (step (λ j. by_levels (s j) (λ k. g k j)) i).text v ≡ (s i).text v
  pub normal : (g : ℕ → (i : I) → Grammar (V i)) (i : I) (v : V i) → (step (λ j. by_levels (s j) (λ k. g k j)) i).normal v ≡ (s i).normal v
  pub tags : (g : ℕ → (i : I) → Grammar (V i)) (i : I) (t : ℕ) → (step (λ j. by_levels (s j) (λ k. g k j)) i).IsTag t → (s i).IsTag t
  pub least : (g : ℕ → (i : I) → Grammar (V i)) (i : I) (v : V i) → (step (λ j. by_levels (s j) (λ k. g k j)) i).least v ≡ (s i).least v
  -- the grammar outside at a level depends on the one inside at that level alone
  pub reads : (F : (i : I) → Format (V i)) (k : ℕ) (i : I) (b : List ℕ) (v : V i) → (step (λ j. always (s j) (at_level k (F j))) i).Reads k b v ↔ (step F i).Reads k b v
  pub formed : (F : (i : I) → Format (V i)) (k : ℕ) (i : I) (v : V i) → (step (λ j. always (s j) (at_level k (F j))) i).IsWellFormed k v ↔ (step F i).IsWellFormed k v
