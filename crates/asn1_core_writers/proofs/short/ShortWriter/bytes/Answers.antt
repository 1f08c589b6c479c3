use Rattle.std.proofs.Common.{arith}
use Rattle.asn1_core_writers.proofs.Filled.{filled}
use Rattle.asn1_core_writers.proofs.short.ShortWriter.bytes.Goals as goal

pub returns : goal.returns
returns c = filled c.self.inside.bytes c.copy_from_slice.new.self c.args.bytes.now c.self.inside.at 16384 c.args.self.now c.self.view_is (omega (arith, c.self.invariant, c.self.told)) (omega (arith, c.if-size-self.false)) c.copy_from_slice.ensures.after
