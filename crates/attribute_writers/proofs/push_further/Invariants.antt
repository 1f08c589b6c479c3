use Rattle.std.specs.Prelude.{◌≡◌, ◌++◌, map, take}
use Rattle.std.specs.List.{AllByRecursion, filter}
use Rattle.attribute_writers.specs.Attributes.{attribute_text, is_formed}
use Rattle.x509_base.specs.Names.{attribute_value}
use Rattle.attribute_writers.proofs.push_further.Given as goal

abbrev pub invariant-loop-attribute : goal.invariant-loop-attribute
invariant-loop-attribute g l =
    (map (λ x. x.0.items) l.texts.items ≡ map (λ x. x.0.items) l.fn.texts.items ++ map attribute_text (filter g.F.Further.further (map attribute_value (take l.attribute-index l.attributes))))
    × AllByRecursion is_formed (filter g.F.Further.further (map attribute_value (take l.attribute-index l.attributes)))
