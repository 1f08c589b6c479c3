-- Values of different alternatives differ.
use Rattle.std.specs.Prelude.{◌≡◌, ◌↔◌, ℕ, nat_eq, true, false}
use Rattle.std.proofs.Common.{sym, ap, ◌∙◌}
use Rattle.std.proofs.lemmas.Bool.Decides.{Decides-eqb}

pub differ : {V : Type 0} {x y : V} {n m : ℕ} (which : V → ℕ) → which x ≡ n → which y ≡ m → nat_eq n m ≡ false → (false ≡ true) ↔ (x ≡ y)
differ {V} {x} {y} {n} {m} which p q d = (
  λ e. cc,
  λ e. sym d ∙ (Decides-eqb n m).1 (sym p ∙ ap which e ∙ q),
)
