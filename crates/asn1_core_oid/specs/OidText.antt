-- The text of an object identifier: its arcs (X.660) in decimal, joined by dots.
use Rattle.std.specs.Prelude.{◌≡◌, ◌≢◌, ℕ, ◌+◌, ◌*◌, ◌^◌, ◌<◌, ◌≤◌, List, [], ◌∷◌, map, All, Any}
use Rattle.std.specs.List.{flat_map, join_with_byte}
use Rattle.std.specs.Fmt.{decimal}
use Rattle.asn1_core_oid.specs.Oid.{base128}

-- At least two arcs, of which the first is 0, 1 or 2, and under 0 and 1 the second is below 40.
abbrev pub IsArcs : List ℕ → Type 0
IsArcs [] = ⊥
IsArcs (first ∷ []) = ⊥
IsArcs (first ∷ second ∷ further) = (first ≤ 2) × (first < 2 → second < 40)

-- one group for each arc, but for the first two, which share one
abbrev pub groups_of_arcs : List ℕ → List ℕ
groups_of_arcs [] = []
groups_of_arcs (first ∷ []) = first ∷ []
groups_of_arcs (first ∷ second ∷ further) = (40 * first + second) ∷ further

-- `.`
abbrev pub dot : ℕ
dot = 46

-- numerals without leading zeros, joined by dots
abbrev pub arcs_text : List ℕ → List ℕ
arcs_text arcs = join_with_byte dot (map decimal arcs)

-- an arc that follows others
abbrev pub dotted : ℕ → List ℕ
dotted n = dot ∷ decimal n

-- the text spells these numbers, each of which fits 64 bits
pub record SpellsArcs (text arcs : List ℕ) : Type 0 where
  pub some : arcs ≢ []
  pub fit : All (λ n. n < 2 ^ 64) arcs
  pub spelled : text ≡ arcs_text arcs

-- the text spells the arcs of these contents octets, and each group fits 64 bits
pub record IsTextOf (text octets : List ℕ) : Type 0 where
  pub arcs : List ℕ
  pub allowed : IsArcs arcs
  pub fits : All (λ n. n < 2 ^ 64) (groups_of_arcs arcs)
  pub spelled : text ≡ arcs_text arcs
  pub octets_are : octets ≡ flat_map base128 (groups_of_arcs arcs)

-- the octets spell these groups, each of which fits 64 bits
pub record SpellsGroups (octets groups : List ℕ) : Type 0 where
  pub some : groups ≢ []
  pub fit : All (λ n. n < 2 ^ 64) groups
  pub spelled : octets ≡ flat_map base128 groups

-- some group doesn't fit 64 bits
pub record HasLongGroup (octets : List ℕ) : Type 0 where
  pub groups : List ℕ
  pub spelled : octets ≡ flat_map base128 groups
  pub long : Any (λ n. 2 ^ 64 ≤ n) groups
