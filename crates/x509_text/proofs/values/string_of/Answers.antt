use Rattle.x509_text.proofs.Strings.{no_string, not_whole, string_read}
use Rattle.x509_text.proofs.values.string_of.Goals as goal

pub returns-then-size-len : goal.returns-then-size-len
returns-then-size-len c = string_read _ _ _ _ c.in-Some.ensures.found c.text_of_contents.result c.if-size-len.true c.text_of_contents.ensures

pub returns-else-size-len : goal.returns-else-size-len
returns-else-size-len c = not_whole _ _ _ _ c.in-Some.ensures.found c.if-size-len.false

pub returns-in-None : goal.returns-in-None
returns-in-None c = no_string _ c.in-None.ensures.none
