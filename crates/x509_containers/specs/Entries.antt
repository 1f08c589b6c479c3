-- What is said of a kind: the word that names it, and what inputs of it are written as, at each limit of nesting levels.
use Rattle.std.specs.Prelude.{ℕ, List}
use Rattle.asn1_core.specs.Der.{Format}
use Rattle.der_engine.specs.Engine.{Rewriting, rewriting_at}

pub record Entry : Type 1 where
  pub word : List ℕ
  pub rewriting : ℕ → Rewriting

abbrev pub entry : {V : Type 0} → List ℕ → Format V → Entry
entry word F = record { word = word; rewriting = rewriting_at F }
