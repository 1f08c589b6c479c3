use Rattle.password_writers.proofs.Texts.{key_result}
use Rattle.password_writers.specs.Values.{algorithm_value}
use Rattle.password_writers.proofs.write.write_encrypted_key.Goals as goal

pub returns : goal.returns
returns c = key_result (λ v. v.items) (algorithm_value c.args.key.now.algorithm) c.write.result c.args.key.now.encrypted.now c.write.ensures
