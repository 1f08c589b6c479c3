use Rattle.std.proofs.Common.{rules}
use Rattle.asn1_core_format.specs.Components.{within}
use Rattle.asn1_core_format.specs.TagNumbers.{explicit_tag}
use Rattle.asn1_core_format.specs.laws.TagNumbers.{numbered_is_refused}
use Rattle.asn1_core.proofs.explicit.ExplicitDerDeserialize.read.Goals as goal

pub returns-in_err-value : goal.returns-in_err-value
returns-in_err-value g c =
    let r = numbered_is_refused g.row.N (within (explicit_tag g.row.N) g.T.DerSerialize.format) c.in_err-value.ensures in
    search rules
