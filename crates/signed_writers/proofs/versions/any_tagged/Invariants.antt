use Rattle.std.specs.Prelude.{◌≡◌, drop, map}
use Rattle.signed_writers.specs.Versions.{any_tagged}
use Rattle.signed_writers.proofs.versions.any_tagged.Given as goal

abbrev pub invariant-loop-element : goal.invariant-loop-element
invariant-loop-element l = any_tagged l.tag (map (λ x. x.0.now) (drop l.element-index l.elements)) ≡ any_tagged l.tag (map (λ x. x.0.now) l.elements)
