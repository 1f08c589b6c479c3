use Rattle.x509_text.specs.Encodings.{HasNoNameText}
use Rattle.call_values.proofs.Statuses.{error_written, short_error}
use Rattle.text_calls.specs.Names.{IsUtf8OfName}
use Rattle.call_values.specs.Statuses.{refusing}
use Rattle.text_calls.proofs.texts.der_name_text.Goals as goal

pub returns-in-Err : goal.returns-in-Err
returns-in-Err c =
    let W = refusing (HasNoNameText c.args.input.now) in
    error_written (IsUtf8OfName c.args.input.now) W c.args.out.now c.in-Err.error c.status_of.result c.status_of.ensures (short_error W c.in-Err.error tt c.in-Err.ensures.kind c.in-Err.ensures.none)
