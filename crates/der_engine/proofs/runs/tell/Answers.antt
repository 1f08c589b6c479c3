use Rattle.der_engine.proofs.Running.{refused}
use Rattle.der_engine.proofs.runs.tell.Goals as goal

pub returns-in-Err : goal.returns-in-Err
returns-in-Err g c =
    refused (g.K.KindOfInput.rewriting_at c.args.kind 64) _ _ _ _ _ _ _ _ _ c.in-Err.ensures c.refuse.ensures
