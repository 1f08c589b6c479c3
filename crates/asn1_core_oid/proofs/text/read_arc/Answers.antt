use Rattle.std.proofs.Common.{arith}
use Rattle.std.proofs.lemmas.Bool.{both_ways}
use Rattle.std.proofs.lemmas.Str.Pattern.{starts_char}
use Rattle.asn1_core_oid.proofs.Numerals.{zero_alone, long_zero, plus_first, parsed}
use Rattle.asn1_core_oid.proofs.text.read_arc.Goals as goal

pub returns-then-numeral-eq1 : goal.returns-then-numeral-eq1
returns-then-numeral-eq1 c =
    let s = starts_char 48 c.args.numeral.now c.starts_with.result c.starts_with.ensures.cases (omega arith) (omega arith) in
    (omega arith, zero_alone c.args.numeral.now (s.0 c.if-starts_with.true) c.if-numeral-eq1.true)

pub returns-else-numeral-eq1 : goal.returns-else-numeral-eq1
returns-else-numeral-eq1 c =
    let s = starts_char 48 c.args.numeral.now c.starts_with.result c.starts_with.ensures.cases (omega arith) (omega arith) in
    long_zero c.args.numeral.now (s.0 c.if-starts_with.true) c.if-numeral-eq1.false

pub returns-then-starts_with-2 : goal.returns-then-starts_with-2
returns-then-starts_with-2 c =
    let s = starts_char 43 c.args.numeral.now c.starts_with-2.result c.starts_with-2.ensures.cases (omega arith) (omega arith) in
    plus_first c.args.numeral.now (s.0 c.if-starts_with-2.true)

pub returns : goal.returns
returns c =
    let s = starts_char 48 c.args.numeral.now c.starts_with.result c.starts_with.ensures.cases (omega arith) (omega arith) in
    let t = starts_char 43 c.args.numeral.now c.starts_with-2.result c.starts_with-2.ensures.cases (omega arith) (omega arith) in
    parsed c.args.numeral.now c.parse.result c.ok.result (λ e. both_ways c.starts_with.result c.if-starts_with.false (s.1 e)) (λ e. both_ways c.starts_with-2.result c.if-starts_with-2.false (t.1 e)) c.parse.ensures.value.0 c.ok.ensures.value
