use Rattle.std.proofs.Common.{rules}
use Rattle.asn1_core_format.specs.Whole.{HasNoValue}
use Rattle.ber_der.specs.Der.{IsDer}
use Rattle.ber_der.proofs.Answered.{answers_ber, answers_der, refused_der}
use Rattle.ber_der.proofs.typed.from_ber.Goals as goal

pub returns-in_err-der-clause-der : goal.returns-in_err-der-clause-der
returns-in_err-der-clause-der g c =
    let r : IsDer 64 c.args.bytes.now → HasNoValue g.T.DerSerialize.format 64 c.args.bytes.now c.in_err-der.field-0.0 = refused_der g.T.DerSerialize.format c.args.bytes.now c.in_err-der.field-0.0 (search rules) c.in_err-der.ensures in
    search rules

pub returns-clause-ber : goal.returns-clause-ber
returns-clause-ber g c = answers_ber g.T.DerSerialize.value g.T.DerSerialize.format c.args.bytes.now c.in_ok-der.der.items c.from_bytes.result c.in_ok-der.ensures (rw (← c.as_slice.ensures.value) c.from_bytes.ensures)

pub returns-clause-der : goal.returns-clause-der
returns-clause-der g c = answers_der g.T.DerSerialize.value g.T.DerSerialize.format c.args.bytes.now c.in_ok-der.der.items c.from_bytes.result (search rules) c.in_ok-der.ensures (rw (← c.as_slice.ensures.value) c.from_bytes.ensures)
