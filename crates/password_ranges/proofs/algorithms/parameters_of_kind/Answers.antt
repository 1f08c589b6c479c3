use Rattle.std.proofs.Common.{ap, ◌∙◌}
use Rattle.asn1_core.specs.Der.{octets_of}
use Rattle.password_ranges.proofs.Known.{kind_result}
use Rattle.x509_base.specs.AlgorithmParts.{algorithm_identifier_value}
use Rattle.password_ranges.proofs.algorithms.parameters_of_kind.Goals as goal

pub returns-in-Some : goal.returns-in-Some
returns-in-Some g c =
    kind_result g.K.OidTable.table g.P.DerSerialize.format (algorithm_identifier_value c.args.algorithm.now) g.P.DerSerialize.value c.parameters_of.result c.in-Some.field-0
    (c.in-Some.ensures ∙ c.octets.ensures.value ∙ ap octets_of c.algorithm.ensures) c.parameters_of.ensures
