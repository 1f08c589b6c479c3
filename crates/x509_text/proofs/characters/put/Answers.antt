use Rattle.std.proofs.lemmas.Str.{IsUtf8-string_bytes}
use Rattle.x509_text.proofs.Texts.{pushed}
use Rattle.x509_text.proofs.characters.put.Goals as goal

pub returns : goal.returns
returns c = pushed _ _ c.args.character (IsUtf8-string_bytes c.args.text.now) c.ranges.character.0 c.in_ok-push.ensures.bytes
