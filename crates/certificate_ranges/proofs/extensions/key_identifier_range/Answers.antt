use Rattle.std.specs.Prelude.{◌≡◌, None, Some, map}
use Rattle.std.specs.List.{find}
use Rattle.std.proofs.Common.{ap, subst}
use Rattle.asn1_core.specs.Der.{option_value}
use Rattle.certificate_ranges.proofs.ExtensionPlaces.{identifier_given, no_element, unread_extensions}
use Rattle.certificate_ranges.specs.Certificates.{octets_in}
use Rattle.pkcs7_verifier.specs.Heads.{certificate_head_value}
use Rattle.pkcs7_verifier.specs.KeyIdentifiers.{AreExtensionsOf, has_tag, rest_of}
use Rattle.x509_base.specs.Extensions.{extension_value, extensions_value}
use Rattle.certificate_ranges.proofs.extensions.key_identifier_range.Goals as goal

pub returns-in_default : goal.returns-in_default
returns-in_default c = no_element (rest_of (certificate_head_value c.args.head.now)) (subst (λ xs. find (has_tag 0xA3) (map octets_in xs) ≡ None) c.deref.ensures.value c.in_default.ensures)

pub returns-in-Ok-Some : goal.returns-in-Ok-Some
returns-in-Ok-Some c =
    let v = certificate_head_value c.args.head.now in
    let are = subst (λ o. AreExtensionsOf (rest_of v) (option_value extensions_value o)) c.in-Ok-Some.field-0-is c.in-Ok-Some.ensures in
    identifier_given c.args.input.now v (map octets_in c.deref.result.now) c.in-Some.element (extensions_value c.in-Ok-Some.extensions) (map extension_value c.deref-in-Ok-Some.result.now) c.identifier_in.result c.requires
    (ap (map octets_in) c.deref.ensures.value) c.in-Some.ensures are (ap (map extension_value) c.deref-in-Ok-Some.ensures.value) c.identifier_in.ensures

pub returns-in-Ok-None : goal.returns-in-Ok-None
returns-in-Ok-None c =
    let v = certificate_head_value c.args.head.now in
    let none = subst (λ o. AreExtensionsOf (rest_of v) (option_value extensions_value o)) c.in-Ok-None.field-0-is c.in-Ok-None.ensures in
    no_element (rest_of v) none

pub returns-in_ok-without_answer-in-Err : goal.returns-in_ok-without_answer-in-Err
returns-in_ok-without_answer-in-Err c = unread_extensions (rest_of (certificate_head_value c.args.head.now)) (λ es a. c.in-Err.ensures.none c.in_ok-without_answer-in-Err.ensures (Some es) a)
