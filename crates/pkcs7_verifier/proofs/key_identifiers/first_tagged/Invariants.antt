use Rattle.std.proofs.Common.{◌≡◌, map, drop}
use Rattle.std.specs.List.{find}
use Rattle.pkcs7_verifier.specs.KeyIdentifiers.{has_tag}
use Rattle.pkcs7_verifier.proofs.key_identifiers.first_tagged.Given as goal

abbrev pub invariant-loop-element : goal.invariant-loop-element
invariant-loop-element l = find (has_tag l.tag) (map (λ e. e.0.items) (drop l.element-index l.elements)) ≡ find (has_tag l.tag) (map (λ e. e.0.items) l.elements)
