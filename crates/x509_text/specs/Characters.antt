-- A text as its characters.
use Rattle.std.specs.Prelude.{◌≡◌, ℕ, List, ◌++◌, string_bytes, String}
use Rattle.std.specs.Str.{chars}

abbrev pub characters : {Z : Type 0} → String Z → List ℕ
characters text = chars (string_bytes text)

-- the new text is the old one and then one of which P holds
abbrev pub Appends : {Z : Type 0} → String Z → String Z → (List ℕ → Type 0) → Type 0
Appends old new P = (t : List ℕ) × P t × (characters new ≡ characters old ++ t)
