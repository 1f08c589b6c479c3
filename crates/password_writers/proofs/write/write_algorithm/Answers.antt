use Rattle.password_writers.proofs.Texts.{algorithm_result}
use Rattle.password_writers.specs.Values.{algorithm_value}
use Rattle.password_writers.proofs.write.write_algorithm.Goals as goal

pub returns : goal.returns
returns c = algorithm_result (λ v. v.items) (algorithm_value c.args.algorithm.now) c.write.result c.write.ensures
