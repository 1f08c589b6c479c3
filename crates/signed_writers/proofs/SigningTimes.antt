-- Times of signing.
use Rattle.std.specs.Prelude.{◌≡◌, ◌&&◌, cond, leb, Bool, true, false}
use Rattle.std.proofs.Common.{ap, inl, inr, refl, sym, ◌∙◌, ⊎_elim}
use Rattle.std.proofs.lemmas.Bool.{and_parts, cases_Bool, le-leb, leb-true}
use Rattle.asn1_leaves_times.specs.TimeContents.{IsGeneralized, IsUtc}
use Rattle.asn1_leaves_times.specs.declared.calendar.Moment.{Moment}
use Rattle.signed_writers.specs.GivenAttributes.{signing_time}
use Rattle.x509_base.specs.Times.{time}

abbrev is_utc : Moment → Bool
is_utc m = leb 1950 m.year && leb m.year 2049

utc : (m : Moment) → IsGeneralized m → is_utc m ≡ true → IsUtc m
utc m g t = let p = and_parts (leb 1950 m.year) (leb m.year 2049) t in record { real = g.real; first_year = leb-true 1950 m.year p.0; last_year = leb-true m.year 2049 p.1 }

in_years : (a b : Bool) → a ≡ true → b ≡ true → (a && b) ≡ true
in_years true true e f = refl
in_years true false e f = f
in_years false b e f = e

not_utc : (m : Moment) → (IsUtc m → ⊥) → IsGeneralized m → is_utc m ≡ false
not_utc m n g = ⊎_elim (λ t. absurd (n (utc m g t))) (λ f. f) (cases_Bool (is_utc m))

is_in_years : (m : Moment) → IsUtc m → is_utc m ≡ true
is_in_years m u = in_years (leb 1950 m.year) (leb m.year 2049) (le-leb 1950 m.year u.first_year) (le-leb m.year 2049 u.last_year)

pub as_utc : (m : Moment) → IsUtc m → signing_time m ≡ inl m
as_utc m u = ap (λ b. cond b (inl m) (inr m)) (is_in_years m u)

pub as_generalized : (m : Moment) → (IsUtc m → ⊥) → IsGeneralized m → signing_time m ≡ inr m
as_generalized m n g = ap (λ b. cond b (inl m) (inr m)) (not_utc m n g)

formed_at : (m : Moment) → IsGeneralized m → (b : Bool) → is_utc m ≡ b → time.format.IsWellFormed 64 (cond b (inl m) (inr m))
formed_at m g true e = utc m g e
formed_at m g false e = g

pub time_formed : (m : Moment) → IsGeneralized m → time.format.IsWellFormed 64 (signing_time m)
time_formed m g = formed_at m g (is_utc m) refl

pub time_normal : (m : Moment) → time.format.normal (signing_time m) ≡ signing_time m
time_normal m =
    ⊎_elim
    (λ t. ap (λ b. time.format.normal (cond b (inl m) (inr m))) t ∙ ap (λ b. cond b (inl m) (inr m)) (sym t))
    (λ f. ap (λ b. time.format.normal (cond b (inl m) (inr m))) f ∙ ap (λ b. cond b (inl m) (inr m)) (sym f))
    (cases_Bool (is_utc m))
