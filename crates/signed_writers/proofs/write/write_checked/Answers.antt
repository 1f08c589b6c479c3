use Rattle.signed_writers.proofs.Signed.{signed_result}
use Rattle.signed_writers.specs.Signed.{given_parts}
use Rattle.signed_writers.proofs.write.write_checked.Goals as goal

pub returns : goal.returns
returns c =
    let given = given_parts c.args.info.now c.args.certificates.now c.args.crls.now c.args.signers.now in
    signed_result given c.requires c.in_ok-parts_of.field-0 c.in_ok-parts_of.ensures (λ v. v.items) c.write.result c.write.ensures
