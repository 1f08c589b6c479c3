use Rattle.std.proofs.Common.{refl}
use Rattle.der_engine.proofs.Running.{refused, no_memory, some_input}
use Rattle.der_engine.proofs.runs.run.Goals as goal

pub returns-in-Err-Failed-clause-answer : goal.returns-in-Err-Failed-clause-answer
returns-in-Err-Failed-clause-answer g c = record { input = _; is_all = some_input _; leaves = refl }

pub returns-in-Err-Memory-clause-answer : goal.returns-in-Err-Memory-clause-answer
returns-in-Err-Memory-clause-answer g c =
    let told = refused (g.K.KindOfInput.rewriting_at c.args.kind 64) _ _ _ _ _ _ _ _ _ (no_memory _ _) c.refuse.ensures in
    record { input = _; is_all = some_input _; leaves = told.leaves }
