use Rattle.std.specs.Prelude.{map, take}
use Rattle.std.specs.List.{AllByRecursion}
use Rattle.enveloped_writers.specs.Elements.{IsOfVersion}
use Rattle.enveloped_writers.proofs.versions.are_of_version_0.Given as goal

abbrev pub invariant-loop-recipient : goal.invariant-loop-recipient
invariant-loop-recipient l = AllByRecursion (IsOfVersion 0) (map (λ x. x.0.now) (take l.recipient-index l.recipients))
