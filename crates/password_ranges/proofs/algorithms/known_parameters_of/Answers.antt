use Rattle.std.proofs.Common.{rules, ◌≡◌}
use Rattle.password_ranges.proofs.Known.{known_result}
use Rattle.password_ranges.specs.Parameters.{oid_in}
use Rattle.x509_base.specs.AlgorithmParts.{algorithm_identifier_value}
use Rattle.password_ranges.proofs.algorithms.known_parameters_of.Goals as goal

pub returns : goal.returns
returns g c =
    let w = algorithm_identifier_value c.args.algorithm.now in
    let is : oid_in w ≡ c.args.oid.now = search rules in
    known_result c.args.oid.now g.P.DerSerialize.format w is g.P.DerSerialize.value c.parameters_of.result c.parameters_of.ensures
