-- The lines that are written in place of an encoding.
use Rattle.std.specs.Prelude.{ℕ, List, [], ◌++◌, codes, decimal}
use Rattle.asn1_core_element.specs.Words.{word_of}
use Rattle.asn1_core_element.specs.declared.error.Error.{Error}
use Rattle.der_engine.specs.declared.outcome.Mode.{Mode}
use Rattle.der_engine.specs.declared.outcome.Mode.TheVariants.{Check, Rewrite}

-- of an input of n bytes that is the encoding of its value
abbrev pub normal_line : ℕ → List ℕ
normal_line n = codes "normal " ++ decimal n ++ codes "\n"

-- of an input of n bytes whose value has another encoding, of m bytes
abbrev pub loose_line : ℕ → ℕ → List ℕ
loose_line n m = codes "loose " ++ decimal n ++ codes " -> " ++ decimal m ++ codes "\n"

-- what is written of a refusal
abbrev pub refusal_line : Mode → Error → List ℕ
refusal_line Check e = codes "refused: " ++ word_of e ++ codes "\n"
refusal_line Rewrite e = []
