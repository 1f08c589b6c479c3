-- A value of a name as text (RFC 4514, 2.4), by its characters.
use Rattle.std.specs.Prelude.{ℕ, List, [], ◌∷◌, ◌++◌, Bool, true, false, eqb, if◌then◌else◌, ◌&&◌, ◌||◌}

-- `"`, `+`, `,`, `;`, `<`, `>` and `\`, which are escaped wherever they are
abbrev pub is_special : ℕ → Bool
is_special c = eqb c 34 || (eqb c 43 || (eqb c 44 || (eqb c 59 || (eqb c 60 || (eqb c 62 || eqb c 92)))))

-- a blank or `#` at the beginning, and a blank at the end
abbrev pub is_edge : Bool → Bool → ℕ → Bool
is_edge is_first is_last c = (is_first && (eqb c 32 || eqb c 35)) || (is_last && eqb c 32)

-- `\00` for NUL, `\` before another character that is escaped, and any other as it is
abbrev pub escaped : Bool → Bool → ℕ → List ℕ
escaped is_first is_last c =
    if eqb c 0 then 92 ∷ 48 ∷ 48 ∷ [] else if is_special c || is_edge is_first is_last c then 92 ∷ c ∷ [] else c ∷ []

abbrev pub is_nil : List ℕ → Bool
is_nil [] = true
is_nil (c ∷ cs) = false

-- the characters from one on, which is the first or not
abbrev pub escape_from : Bool → List ℕ → List ℕ
escape_from is_first [] = []
escape_from is_first (c ∷ cs) = escaped is_first (is_nil cs) c ++ escape_from false cs

abbrev pub escape : List ℕ → List ℕ
escape cs = escape_from true cs

-- the characters that escapes spell: the state is 0 outside of them, 1 after `\`, and 2 after `\0`
abbrev pub unescape_from : ℕ → List ℕ → List ℕ
unescape_from state [] = []
unescape_from state (c ∷ cs) =
    if eqb state 2 then 0 ∷ unescape_from 0 cs else if eqb state 1 then (if eqb c 48 then unescape_from 2 cs else c ∷ unescape_from 0 cs) else if eqb c 92 then unescape_from 1 cs else c ∷ unescape_from 0 cs

abbrev pub unescape : List ℕ → List ℕ
unescape cs = unescape_from 0 cs
