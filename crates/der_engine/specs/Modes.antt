-- The words that name modes.
use Rattle.std.specs.Prelude.{ℕ, List, codes}
use Rattle.der_engine.specs.declared.outcome.Mode.{Mode}
use Rattle.der_engine.specs.declared.outcome.Mode.TheVariants.{Check, Rewrite}

abbrev pub word_of_mode : Mode → List ℕ
word_of_mode Check = codes "check"
word_of_mode Rewrite = codes "rewrite"
