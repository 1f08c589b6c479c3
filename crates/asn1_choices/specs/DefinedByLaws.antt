-- What makes what an object identifier picks lawful, and its alternatives.
use Rattle.std.specs.Prelude.{◌≡◌, ℕ, List}
use Rattle.asn1_core.specs.Der.{Format, IsLawfulComponents}
use Rattle.asn1_choices.specs.DefinedBy.{DefinedBy, Alternative}

-- the body that each object identifier picks is lawful, and encodes a value as all others do
pub record IsDefinedBy {V : Type 0} (P : DefinedBy V) : Type 0 where
  pub lawful : (o : List ℕ) → IsLawfulComponents (P.components o)
  pub alike : (o : List ℕ) (v : V) → (P.components o).text v ≡ P.text v

-- W says of the alternative's values what F says of the values that are put into it
pub record IsAlternative {A V : Type 0} (W : Format V) (m : Alternative A V) (F : Format A) : Type 0 where
  pub text : (a : A) → W.text (m.put a) ≡ F.text a
  pub normal : (a : A) → W.normal (m.put a) ≡ m.put (F.normal a)
  pub least : (a : A) → W.least (m.put a) ≡ F.least a
  -- converting into the alternative keeps the encoding, and leaves the alternative's own values as they are
  pub alike : (v : V) → W.text (m.brought v) ≡ W.text v
  pub still : (a : A) → m.brought (m.put a) ≡ m.put a
