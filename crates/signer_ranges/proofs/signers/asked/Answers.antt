use Rattle.signer_ranges.proofs.Rows.{past_the_end, to_the_end, in_the_middle}
use Rattle.signer_ranges.proofs.signers.asked.Goals as goal

pub returns-then-first-signers : goal.returns-then-first-signers
returns-then-first-signers c = past_the_end c.args.signers.now c.args.first c.args.most c.if-first-signers.true

pub returns-then-most-rest : goal.returns-then-most-rest
returns-then-most-rest c = to_the_end c.args.signers.now c.args.first c.args.most c.if-most-rest.true

pub returns : goal.returns
returns c = in_the_middle c.args.signers.now c.args.first c.args.most
