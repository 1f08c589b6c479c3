use Rattle.std.proofs.Common.{rules, arith}
use Rattle.std.proofs.lemmas.List.{nil_from_length}
use Rattle.asn1_core_format.proofs.Wholes.{refused_input, left_over, whole_input, refused_headers, left_over_headers}
use Rattle.asn1_core_format.proofs.whole.whole.Goals as goal

pub returns-in_err-value-clause-answer : goal.returns-in_err-value-clause-answer
returns-in_err-value-clause-answer g c =
    let r = refused_input g.T.DerSerialize.format c.args.limit c.in_err-value.ensures in
    search rules

pub returns-in_err-value-clause-headers : goal.returns-in_err-value-clause-headers
returns-in_err-value-clause-headers g c =
    let r = refused_headers g.T.DerSerialize.format c.args.limit c.requires.start c.in_err-value.ensures in
    search rules

pub returns-then-left-gt0-clause-answer : goal.returns-then-left-gt0-clause-answer
returns-then-left-gt0-clause-answer g c =
    left_over g.T.DerSerialize.format c.args.limit g.met.T.DerDeserialize.lawful c.in_ok-value.ensures (omega (arith, c.if-left-gt0.true, c.left.ensures))

pub returns-then-left-gt0-clause-headers : goal.returns-then-left-gt0-clause-headers
returns-then-left-gt0-clause-headers g c =
    left_over_headers g.T.DerSerialize.format c.args.limit g.met.T.DerDeserialize.lawful c.requires.start c.in_ok-value.ensures

pub returns-clause-answer : goal.returns-clause-answer
returns-clause-answer g c =
    whole_input g.T.DerSerialize.format c.args.limit g.met.T.DerDeserialize.lawful c.in_ok-value.ensures (nil_from_length _ (omega (arith, c.if-left-gt0.false, c.left.ensures)))
