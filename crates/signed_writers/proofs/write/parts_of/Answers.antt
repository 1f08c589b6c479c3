use Rattle.std.proofs.Common.{rules}
use Rattle.signed_writers.proofs.Unwritten.{without_algorithms, without_signers}
use Rattle.signed_writers.specs.Signed.{given_parts}
use Rattle.signed_writers.proofs.write.parts_of.Goals as goal

pub returns-in_err-algorithm_texts : goal.returns-in_err-algorithm_texts
returns-in_err-algorithm_texts c =
    let given = given_parts c.args.info.now c.args.certificates.now c.args.crls.now c.args.signers.now in
    let r = without_algorithms given c.in_err-algorithm_texts.field-0.0 c.in_err-algorithm_texts.ensures in
    search rules

pub returns-in_err-encoded_in_order : goal.returns-in_err-encoded_in_order
returns-in_err-encoded_in_order c =
    let given = given_parts c.args.info.now c.args.certificates.now c.args.crls.now c.args.signers.now in
    let r = without_signers given c.in_err-encoded_in_order.field-0.0 c.in_err-encoded_in_order.ensures in
    search rules
