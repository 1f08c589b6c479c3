-- Laws of `Views.antt`.
use Rattle.std.specs.Prelude.{◌≡◌, ◌↔◌, Bool, true, false, ◌&&◌, List, [], ◌∷◌, map, Option, None, Some}
use Rattle.std.specs.Option.{option_eq}
use Rattle.std.proofs.Common.{refl, ap, ◌∙◌}
use lib.Pointwise.{pointwise}
use Rattle.asn1_core_format.specs.Components.{option_value}
use Rattle.asn1_core_format.specs.Views.{SeesEqual}

both_true : (p q : Bool) → (p && q) ≡ true → (p ≡ true) × (q ≡ true)
both_true true q e = (refl, e)
both_true false q e = cc

true_both : (p q : Bool) → p ≡ true → q ≡ true → (p && q) ≡ true
true_both true q e f = f
true_both false q e f = cc

pair_same : {A B : Type 0} (a c : A) (b d : B) → a ≡ c → b ≡ d → ◌≡◌ {A = A × B} (a, b) (c, d)
pair_same a c b d e f = ap (λ x. (x, b)) e ∙ ap (λ y. (c, y)) f

-- two fields, each with its test
pub two_equal : {A B : Type 0} {p q : Bool} {a c : A} {b d : B} → (p ≡ true) ↔ (a ≡ c) → (q ≡ true) ↔ (b ≡ d) → ((p && q) ≡ true) ↔ (◌≡◌ {A = A × B} (a, b) (c, d))
two_equal {A} {B} {p} {q} {a} {c} {b} {d} f g = (
  λ e. let t = both_true p q e in pair_same a c b d (f.0 t.0) (g.0 t.1),
  λ e. true_both p q (f.1 (ap (λ x. x.0) e)) (g.1 (ap (λ x. x.1) e)),
)

pub list_equal : {T V : Type 0} (eq : T → T → Bool) (view : T → V) → SeesEqual eq view → (xs ys : List T) → (pointwise eq xs ys ≡ true) ↔ (map view xs ≡ map view ys)
list_equal eq view s [] [] = (λ e. refl, λ e. refl)
list_equal eq view s [] (y ∷ ys) = (λ e. cc, λ e. cc)
list_equal eq view s (x ∷ xs) [] = (λ e. cc, λ e. cc)
list_equal eq view s (x ∷ xs) (y ∷ ys) = (
  λ e.
      let t = both_true (eq x y) (pointwise eq xs ys) e in
      ap (λ v. v ∷ map view xs) ((s x y).0 t.0) ∙ ap (λ vs. view y ∷ vs) ((list_equal eq view s xs ys).0 t.1),
  λ e.
      let h : view x ≡ view y = cc in
      let t : map view xs ≡ map view ys = cc in
      true_both (eq x y) (pointwise eq xs ys) ((s x y).1 h) ((list_equal eq view s xs ys).1 t),
)

pub option_equal : {T V : Type 0} (eq : T → T → Bool) (view : T → V) → SeesEqual eq view → (x y : Option T) → (option_eq eq x y ≡ true) ↔ (option_value view x ≡ option_value view y)
option_equal eq view s None None = (λ e. refl, λ e. refl)
option_equal eq view s None (Some y) = (λ e. cc, λ e. cc)
option_equal eq view s (Some x) None = (λ e. cc, λ e. cc)
option_equal eq view s (Some x) (Some y) = (λ e. ap Some ((s x y).0 e), λ e. (let h : view x ≡ view y = cc in (s x y).1 h))
