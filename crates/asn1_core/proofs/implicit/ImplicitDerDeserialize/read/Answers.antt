use Rattle.std.proofs.Common.{rules, ◌%◌}
use Rattle.asn1_core_format.specs.Tagged.{implicit, context_tag}
use Rattle.asn1_core_format.specs.laws.TagNumbers.{numbered_is_refused}
use Rattle.asn1_core.proofs.implicit.ImplicitDerDeserialize.read.Goals as goal

pub returns-in_err-value : goal.returns-in_err-value
returns-in_err-value g c =
    let s = rw (c.context_tag_of.ensures.same) at c.in_err-value.ensures in
    let r = numbered_is_refused g.row.N (implicit (context_tag (g.row.N % 31) g.T.DerTagged.TAG) g.T.DerTagged.TAG g.T.DerSerialize.format) s in
    search rules
