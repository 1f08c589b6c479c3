-- Where `==` is equality of one view, it is equality of each that tells the same values apart.
use Rattle.asn1_core.specs.Der.{SeesEqual}
use Rattle.std.specs.Prelude.{◌≡◌, ◌↔◌, Bool}

pub seen_as : {T V W : Type 0} {eq : T → T → Bool} {view : T → V} {value : T → W} → SeesEqual eq view → ((x y : T) → (view x ≡ view y) ↔ (value x ≡ value y)) → SeesEqual eq value
seen_as s e x y = (λ h. (e x y).0 ((s x y).0 h), λ h. (s x y).1 ((e x y).1 h))
