use Rattle.std.proofs.Common.{arith, rules}
use Rattle.asn1_core.specs.Der.{element_some}
use Rattle.asn1_core_format.proofs.ComponentReads.{alone_refused, alone_left}
use Rattle.asn1_sets.proofs.ones.OnlyReadComponents.read_components.Goals as goal

pub returns-then-left-eq0 : goal.returns-then-left-eq0
returns-then-left-eq0 g c = record {
  kind = λ p. cc;
  none = λ m v s.
      let e = g.met.T.DerDeserialize.lawful.element c.args.nest c.args.r.now.left v s in
      omega (arith, c.left.ensures, c.if-left-eq0.true, element_some g.T.DerSerialize.format.IsTag c.args.r.now.left e);
  counts = omega arith;
  at_most = omega arith;
}

pub returns-in_err-value : goal.returns-in_err-value
returns-in_err-value g c =
    let r = alone_refused g.T.DerSerialize.format c.args.nest c.in_err-value.ensures in
    search rules

pub returns-then-left-gt0 : goal.returns-then-left-gt0
returns-then-left-gt0 g c =
    let r = alone_left g.T.DerSerialize.format c.args.nest g.met.T.DerDeserialize.lawful c.in_ok-value.ensures (omega (arith, c.left-2.ensures, c.if-left-gt0.true)) in
    record { kind = λ p. cc; none = λ m. r.none (λ p. cc); counts = r.counts; at_most = r.at_most }
