use Rattle.std.specs.Prelude.{[], ◌∷◌}
use Rattle.std.proofs.Common.{rules, subst}
use Rattle.asn1_core.specs.Der.{octet_string}
use Rattle.asn1_sets.specs.Encodings.{HasNoTexts}
use Rattle.attribute_writers.specs.Attributes.{ATTRIBUTE}
use Rattle.bag_writers.proofs.attributes.push_key_id.Goals as goal

pub returns-in_err-push_value : goal.returns-in_err-push_value
returns-in_err-push_value c =
    let e = c.in_err-push_value.field-0.0 in
    let value = octet_string.text c.in-Some.octets.now in
    let r = subst (λ type. HasNoTexts ATTRIBUTE.format (Unit {0}) ((type, (value ∷ [], tt)) ∷ []) e) c.octets_of_known.ensures c.in_err-push_value.ensures in
    search rules
