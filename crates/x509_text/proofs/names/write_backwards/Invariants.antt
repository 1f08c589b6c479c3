use Rattle.std.proofs.Common.{◌≤◌, length, drop}
use Rattle.x509_text.specs.Characters.{Appends}
use Rattle.x509_text.specs.Names.{IsBackwards}
use Rattle.x509_text.proofs.names.write_backwards.Given as goal

abbrev pub invariant-loop-left : goal.invariant-loop-left
invariant-loop-left g l =
    record {
      fits : l.left ≤ length l.items;
      text : Appends l.fn.text l.text (IsBackwards g.T.InText.IsText l.separator (drop l.left l.items));
    }

abbrev pub decreases-loop-left : goal.decreases-loop-left
decreases-loop-left g l = l.left
