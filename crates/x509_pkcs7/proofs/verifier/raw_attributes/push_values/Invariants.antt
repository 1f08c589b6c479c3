use Rattle.std.proofs.Common.{◌≡◌, ◌++◌, map, drop}
use Rattle.x509_base.specs.Names.{attribute_value}
use Rattle.x509_pkcs7.specs.RawAttributes.{values_with}
use Rattle.x509_pkcs7.proofs.verifier.raw_attributes.push_values.Given as goal

abbrev pub invariant-loop-attribute : goal.invariant-loop-attribute
invariant-loop-attribute l =
    map (λ e. e.now.0.items) l.found.items ++ values_with l.oid (map attribute_value (drop l.attribute-index l.attributes))
    ≡ map (λ e. e.now.0.items) l.fn.found.items ++ values_with l.oid (map attribute_value l.attributes)
