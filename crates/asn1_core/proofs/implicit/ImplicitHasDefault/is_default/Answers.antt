use Rattle.std.proofs.Common.{◌∙◌}
use Rattle.asn1_core_format.specs.laws.TaggedDefaults.{implicit_default_same}
use Rattle.asn1_core.proofs.implicit.ImplicitHasDefault.is_default.Goals as goal

pub returns : goal.returns
returns g c = c.is_default.ensures ∙ implicit_default_same g.row.N g.T.DerTagged.TAG g.T.HasDefault.INSIDE g.T.DerSerialize.format g.T.HasDefault.DEFAULT g.met.T.DerTagged.tagged g.met.T.HasDefault.left_out (g.T.DerSerialize.value c.args.self.now.0)
