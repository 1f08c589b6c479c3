use Rattle.std.specs.Prelude.{map, take}
use Rattle.std.specs.List.{AllByRecursion}
use Rattle.enveloped_writers.specs.Elements.{IsRecipient}
use Rattle.enveloped_writers.proofs.enveloped.check_recipients.Given as goal

abbrev pub invariant-loop-index : goal.invariant-loop-index
invariant-loop-index l = AllByRecursion IsRecipient (map (λ x. x.0.now) (take l.index l.recipients))
