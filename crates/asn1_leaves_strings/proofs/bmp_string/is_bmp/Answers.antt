use Rattle.std.proofs.Common.{arith}
use Rattle.asn1_leaves_strings.proofs.BmpReads.{Split, one_more, none, only}
use Rattle.asn1_leaves_strings.proofs.bmp_string.is_bmp.Goals as goal

pub loop-pair-preserved : goal.loop-pair-preserved
loop-pair-preserved c =
    one_more _ _ _ _ _ (omega arith) c.from_be_bytes.ensures c.is_surrogate-has_surrogate.ensures c.loop-pair.invariant

pub returns-then-not-has_surrogate : goal.returns-then-not-has_surrogate
returns-then-not-has_surrogate c =
    let a = c.as_chunks in
    let s : Split c.args.octets.now a.result.0.now a.result.1.now = record { bytes = λ i. omega (arith, c.type_inv.octets i); front = a.ensures.front; back = a.ensures.back_len } in
    only _ _ _ s _ _ _ c.if-not-has_surrogate.true c.loop-pair-test.false c.loop-pair.invariant c.is_empty.ensures

pub returns-else-not-has_surrogate : goal.returns-else-not-has_surrogate
returns-else-not-has_surrogate c =
    let a = c.as_chunks in
    let s : Split c.args.octets.now a.result.0.now a.result.1.now = record { bytes = λ i. omega (arith, c.type_inv.octets i); front = a.ensures.front; back = a.ensures.back_len } in
    none _ _ _ s _ _ c.if-not-has_surrogate.false c.loop-pair.invariant
