use Rattle.std.proofs.lemmas.Bool.{iff_false}
use Rattle.std.proofs.lemmas.Result.{err_from_is_err_and}
use Rattle.asn1_choices.specs.KnownOrRaw.{known_or_raw}
use Rattle.asn1_choices.proofs.ByTagReads.{known_refused, raw_refused, raw_has_read, has_refused}
use Rattle.asn1_choices.proofs.known_or_raw.KnownOrRawDerDeserialize.read.Goals as goal

pub returns-in_err-value : goal.returns-in_err-value
returns-in_err-value g c =
    has_refused _ (known_or_raw g.T.DerSerialize.format) c.args.nest (err_from_is_err_and c.from_residual.result c.from_residual.ensures.1)
    (known_refused g.T.DerSerialize.format g.met.T.DerDeserialize.lawful c.args.nest (c.next_is.ensures.0 c.if-next_is.true) c.in_err-value.ensures)

pub returns-in_err-element : goal.returns-in_err-element
returns-in_err-element g c =
    has_refused _ (known_or_raw g.T.DerSerialize.format) c.args.nest (err_from_is_err_and c.from_residual-in_err-element.result c.from_residual-in_err-element.ensures.1)
    (raw_refused g.T.DerSerialize.format g.met.T.DerDeserialize.lawful c.args.nest (iff_false c.next_is.ensures c.if-next_is.false) c.in_err-element.ensures)

pub returns : goal.returns
returns g c = raw_has_read g.T.DerSerialize.format c.args.nest (iff_false c.next_is.ensures c.if-next_is.false) c.in_ok-element.ensures
