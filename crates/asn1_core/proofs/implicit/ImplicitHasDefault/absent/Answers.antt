use Rattle.std.proofs.Common.{rules, arith}
use Rattle.asn1_core_format.specs.laws.TaggedDefaults.{implicit_absent_value, implicit_no_default}
use Rattle.asn1_core.proofs.implicit.ImplicitHasDefault.absent.Goals as goal

pub returns-in_err-value : goal.returns-in_err-value
returns-in_err-value g c =
    let r = implicit_no_default g.row.N g.T.DerTagged.TAG g.T.HasDefault.INSIDE g.T.DerSerialize.format g.T.HasDefault.DEFAULT g.met.T.DerTagged.tagged g.met.T.HasDefault.left_out c.in_err-value.ensures in
    search rules

pub returns : goal.returns
returns g c =
    implicit_absent_value g.row.N g.T.DerTagged.TAG g.T.HasDefault.INSIDE g.T.DerSerialize.format g.T.HasDefault.DEFAULT (g.T.DerSerialize.value c.in_ok-value.value) g.met.T.DerTagged.tagged g.met.T.HasDefault.left_out (omega (arith, c.if-this-gt30.false)) c.in_ok-value.ensures
