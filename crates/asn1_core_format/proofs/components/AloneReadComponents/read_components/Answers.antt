use Rattle.std.proofs.Common.{arith, rules}
use Rattle.asn1_core_format.proofs.ComponentReads.{alone_refused, alone_left}
use Rattle.asn1_core_format.proofs.components.AloneReadComponents.read_components.Goals as goal

pub returns-in_err-value : goal.returns-in_err-value
returns-in_err-value g c =
    let r = alone_refused g.T.DerSerialize.format c.args.nest c.in_err-value.ensures in
    search rules

pub returns-then-left-gt0 : goal.returns-then-left-gt0
returns-then-left-gt0 g c =
    alone_left g.T.DerSerialize.format c.args.nest g.met.T.DerDeserialize.lawful c.in_ok-value.ensures (omega (arith, c.left.ensures, c.if-left-gt0.true))
