-- What `==` and a clone say of what values contain.
use Rattle.std.specs.Prelude.{◌≡◌, ◌↔◌, Bool, true, Result, MatchResult}
use Rattle.asn1_core_element.specs.declared.error.Error.{Error}
use Rattle.asn1_core_element.specs.declared.error.Error.TheVariants.{Memory}

-- the test is true exactly of the values of which the same is seen
abbrev pub SeesEqual : {T V : Type 0} → (T → T → Bool) → (T → V) → Type 0
SeesEqual {T} eq view = (x y : T) → (eq x y ≡ true) ↔ (view x ≡ view y)

-- the clone has the value, or memory was refused
abbrev pub Clones : {T V : Type 0} → (T → V) → T → Result T Error → Type 0
Clones view old r = MatchResult r (λ x. view x ≡ view old) (λ e. e ≡ Memory)
