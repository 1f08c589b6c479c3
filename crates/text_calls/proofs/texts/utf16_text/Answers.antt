use Rattle.std.proofs.Common.{rules}
use Rattle.std.proofs.lemmas.Str.{IsUtf8-string_bytes}
use Rattle.text_calls.proofs.texts.utf16_text.Goals as goal

pub returns : goal.returns
returns c = search (rules, IsUtf8-string_bytes)
