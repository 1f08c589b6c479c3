use Rattle.std.proofs.Common.{rules}
use Rattle.std.proofs.lemmas.Iterator.{YieldsList-from_chars}
use Rattle.std.proofs.lemmas.Iterator.Consumers.{YieldsList-turn, YieldsList-end}
use Rattle.asn1_leaves_strings.proofs.BmpTextReads.{no_unit, units_held}
use Rattle.asn1_leaves_strings.proofs.bmp_string.units.Goals as goal

pub returns-in_default : goal.returns-in_default
returns-in_default c =
    let at = YieldsList-turn (YieldsList-from_chars c.args.text.now c.utf8.text cc) c.loop-character.yielded _ c.loop-character.yielded_by _ _ c.in-Some.character c.in-Some.is c.next.ensures.steps in
    no_unit _ _ _ at (search rules)

pub returns : goal.returns
returns c =
    let all = YieldsList-end (YieldsList-from_chars c.args.text.now c.utf8.text cc) c.loop-character.yielded _ c.loop-character.yielded_by _ _ c.in-None.is c.next.ensures.steps in
    units_held _ _ _ all.0 c.loop-character.invariant
