use Rattle.x509_text.proofs.Escaping.{one_more, at_end, last_is}
use Rattle.x509_text.proofs.escapes.write_escaped.Goals as goal

pub loop-character-preserved : goal.loop-character-preserved
loop-character-preserved c =
    let left = rw c.as_str.ensures at c.is_empty-is_last.ensures in
    let valid = rw c.as_str.ensures at c.as_str.utf8 in
    record {
      valid = valid;
      text = one_more _ _ _ _ _ _ _ c.in-Some.character c.loop-character.invariant.valid valid c.in-Some.ensures.steps.0 (last_is _ _ valid left) c.in_ok-write_character.ensures c.loop-character.invariant.text;
    }

pub returns : goal.returns
returns c = at_end _ _ _ _ c.in_default.ensures.steps.0.0 c.loop-character.invariant.text
