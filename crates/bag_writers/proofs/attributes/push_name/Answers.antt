use Rattle.std.specs.Prelude.{[], ◌∷◌}
use Rattle.std.proofs.Common.{rules, subst}
use Rattle.asn1_sets.proofs.NotEncoded.{by_right}
use Rattle.asn1_sets.specs.Encodings.{HasNoTexts}
use Rattle.attribute_writers.specs.Attributes.{ATTRIBUTE}
use Rattle.x509_pkcs12.specs.Utf16.{IsUtf16, utf16_string}
use Rattle.bag_writers.proofs.attributes.push_name.Goals as goal

pub returns-in_err-push_value : goal.returns-in_err-push_value
returns-in_err-push_value c =
    let e = c.in_err-push_value.field-0.0 in
    let octets = c.in-Some.octets.now in
    let u = by_right ATTRIBUTE.format _ (IsUtf16 octets) _ e (λ q. tt) c.in_err-push_value.ensures in
    let r = subst (λ type. HasNoTexts ATTRIBUTE.format (IsUtf16 octets) ((type, (utf16_string.format.text octets ∷ [], tt)) ∷ []) e) c.octets_of_known.ensures u in
    search rules
