use Rattle.signer_ranges.proofs.FoundParts.{signer_rows_are}
use Rattle.signer_ranges.proofs.parts.signer_rows.Goals as goal

pub returns : goal.returns
returns c = λ v is. signer_rows_are c.args.input.now v is (λ rows. rows.items) c.rows_by.result c.rows_by.ensures
