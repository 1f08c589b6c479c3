use Rattle.std.proofs.Common.{rules}
use Rattle.asn1_core_format.specs.laws.TaggedDefaults.{explicit_no_default}
use Rattle.asn1_core.proofs.explicit.ExplicitHasDefault.absent.Goals as goal

pub returns-in_err-value : goal.returns-in_err-value
returns-in_err-value g c =
    let r = explicit_no_default g.row.N g.T.DerSerialize.format g.T.HasDefault.DEFAULT c.in_err-value.ensures in
    search rules
