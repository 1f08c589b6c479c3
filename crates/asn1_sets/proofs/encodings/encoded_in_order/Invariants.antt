use Rattle.std.specs.Prelude.{◌≡◌, map, take}
use Rattle.std.specs.List.{AllByRecursion}
use Rattle.asn1_sets.proofs.encodings.encoded_in_order.Given as goal

abbrev pub invariant-loop-value : goal.invariant-loop-value
invariant-loop-value g l =
    (map (λ x. x.0.items) l.texts.items ≡ map g.T.DerSerialize.format.text (map g.T.DerSerialize.value (take l.value-index l.values)))
    × AllByRecursion (g.T.DerSerialize.format.IsWellFormed 64) (map g.T.DerSerialize.value (take l.value-index l.values))
