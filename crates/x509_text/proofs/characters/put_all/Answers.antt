use Rattle.std.proofs.lemmas.Str.{IsUtf8-string_bytes}
use Rattle.x509_text.proofs.Texts.{all_pushed}
use Rattle.x509_text.proofs.characters.put_all.Goals as goal

pub returns : goal.returns
returns c = all_pushed _ _ _ (IsUtf8-string_bytes c.args.text.now) c.in_ok-push_str.ensures.bytes
