-- From walks to the ranges of parts.
use Rattle.std.specs.Prelude.{◌++◌, ℕ, List, [], ◌∷◌, slice_range}
use Rattle.std.specs.declared.ops.Range.{Range}
use Rattle.std.proofs.Common.{refl}
use Rattle.asn1_core_format.specs.Format.{Format}
use Rattle.asn1_core_format.specs.Whole.{IsValueOf}
use Rattle.asn1_located.specs.laws.LocatedLaws.{place_of}
use Rattle.asn1_located.specs.Places.{IsRangeAt, Reading, Route, Walk}
use Rattle.asn1_located.specs.declared.walks.Step.{Step}
use Rattle.certificate_ranges.specs.Ranges.{IsPartAt, IsRangeIf}

pub somewhere : (steps : List Step) (b : List ℕ) (r : Range ℕ) → IsRangeAt steps b r.start r.end → IsRangeIf steps b r
somewhere steps b r at = λ n y w. at

pub nowhere : (steps : List Step) (b : List ℕ) (r : Range ℕ) → ((n : ℕ) (y : List ℕ) → Walk steps 0 b n y → ⊥) → IsRangeIf steps b r
nowhere steps b r none = λ n y w. absurd (none n y w)

-- where a value has a part, the range to which its steps lead is that of the part
pub part_at : {V W : Type 0} {F : Format V} {S : Reading W} (route : Route F.Reads S) {b : List ℕ} {v : V} {r : Range ℕ} (w : W) → route.IsPart v w → IsValueOf F 64 b v → IsRangeIf route.steps b r → IsPartAt route b v r
part_at {V} {W} {F} {S} route {b} {v} {r} w o is at =
    let a = route.found 64 v w o 0 b is.reads in
    let f = at a.0 a.1 a.2 in
    record { part = w; place = place_of route 64 b v is.reads w o r.start (slice_range b r.start r.end) f.walk; inside = f.inside }

-- a walk by some steps and then by others, in two
pub walk_apart : (p q : List Step) (m : ℕ) (x : List ℕ) (n : ℕ) (y : List ℕ) → Walk (p ++ q) m x n y → (k : ℕ) × (z : List ℕ) × Walk p m x k z × Walk q k z n y
walk_apart [] q m x n y w = (m, x, (refl, refl), w)
walk_apart (s ∷ p) q m x n y (l, u, f, w) = let a = walk_apart p q l u n y w in (a.0, a.1, (l, u, f, a.2), a.3)
