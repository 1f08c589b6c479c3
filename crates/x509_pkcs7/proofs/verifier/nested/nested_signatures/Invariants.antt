use Rattle.std.proofs.Common.{◌≡◌, ◌++◌, map, drop}
use Rattle.std.specs.List.{flat_map}
use Rattle.x509_pkcs7.specs.Nested.{nested_in}
use Rattle.x509_pkcs7.proofs.verifier.nested.nested_signatures.Given as goal

abbrev pub invariant-loop-attribute : goal.invariant-loop-attribute
invariant-loop-attribute l =
    map (λ e. e.now.0.items) l.found.items ++ flat_map nested_in (drop l.attribute-index l.attribute-items)
    ≡ flat_map nested_in l.attribute-items
