use Rattle.asn1_core.specs.Der.{option_value}
use Rattle.password_writers.proofs.Texts.{info_result}
use Rattle.password_writers.specs.Values.{algorithm_value}
use Rattle.password_writers.proofs.write.write_encrypted_contents.Goals as goal

pub returns : goal.returns
returns c =
    let contents = c.args.contents.now in
    info_result (λ v. v.items) (algorithm_value contents.algorithm) c.write.result (option_value (λ o. o.now) contents.encrypted) c.write.ensures
