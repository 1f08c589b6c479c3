use Rattle.std.proofs.Common.{◌≡◌, ◌++◌}
use Rattle.std.specs.Str.{chars, IsUtf8}
use Rattle.std.specs.Str.Iter.{chars_rest}
use Rattle.x509_text.specs.Characters.{characters}
use Rattle.x509_text.specs.Escapes.{escape_from, escape}
use Rattle.x509_text.proofs.escapes.write_escaped.Given as goal

abbrev pub invariant-loop-character : goal.invariant-loop-character
invariant-loop-character l =
    record {
      valid : IsUtf8 (chars_rest l.rest);
      text : characters l.text ++ escape_from l.is_first (chars (chars_rest l.rest)) ≡ characters l.fn.text ++ escape (chars l.value);
    }
