use Rattle.part_calls.proofs.SignerRows.{signers_refused}
use Rattle.part_calls.proofs.signers.der_signer_rows.Goals as goal

pub returns-in-Err : goal.returns-in-Err
returns-in-Err c = signers_refused c.args.input.now c.args.first c.args.out.now c.in-Err.refusal c.place_of.result c.status_of_refusal.result c.place_of.ensures c.status_of_refusal.ensures c.in-Err.ensures
