use Rattle.x509_text.proofs.Strings.{ascii_read}
use Rattle.x509_text.proofs.values.text_of_ascii.Goals as goal

pub returns : goal.returns
returns c = ascii_read _ c.text_of_utf8.result (c.is_ia5.ensures.0 c.if-not-is_ia5.false) c.text_of_utf8.ensures
