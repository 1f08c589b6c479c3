-- Contents are taken apart two digits at a time, and what is read is a time or none.
use Rattle.std.proofs.Common.{◌≡◌, ℕ, List, ◌∷◌, Option, Some, None, MatchOption, sym, ap, ◌∙◌, subst}
use Rattle.asn1_leaves_times.specs.declared.calendar.Moment.{Moment}

-- what follows the first two bytes
pub same_rest : {a b p q : ℕ} {c x y : List ℕ} → c ≡ a ∷ b ∷ x → c ≡ p ∷ q ∷ y → x ≡ y
same_rest d e = cc

-- What is answered where the bytes spell m: the time that is m, or none where m is no time of the kind.
pub answer_spelled : {T : Type 0} (moment : T → Moment) (IsTime : Moment → Type 0) (spell : Moment → List ℕ) (contents : List ℕ) (m : Moment) (r : Option T)
    → contents ≡ spell m
    → ((v : Moment) → IsTime v → spell m ≡ spell v → m ≡ v)
    → MatchOption r (¬ IsTime m) (λ t. moment t ≡ m)
    → MatchOption r ((v : Moment) → IsTime v → contents ≡ spell v → ⊥) (λ t. contents ≡ spell (moment t))
answer_spelled moment IsTime spell contents m None e same none =
    λ v is f. none (subst IsTime (sym (same v is (sym e ∙ f))) is)
answer_spelled moment IsTime spell contents m (Some t) e same some = e ∙ ap spell (sym some)
