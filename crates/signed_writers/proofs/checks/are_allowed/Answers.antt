use Rattle.std.proofs.Common.{subst, sym}
use Rattle.asn1_core.specs.Der.{octets_of, option_value}
use Rattle.pkcs7_attributes.specs.Attributes.{attributes_value}
use Rattle.signed_writers.proofs.Allowed.{with_digest}
use Rattle.signer_ranges.specs.Signers.{SignsOrNone}
use Rattle.signed_writers.proofs.checks.are_allowed.Goals as goal

pub returns-in_ok-has_one_time-in-Some : goal.returns-in_ok-has_one_time-in-Some
returns-in_ok-has_one_time-in-Some c =
    let attrs = attributes_value c.args.attributes.now in
    let type = octets_of c.args.content_type.now.0 in
    let digest = subst (λ o. SignsOrNone attrs type (option_value (λ d. d.0.items) o)) c.in-Some.is c.in_ok-_digest.ensures in
    with_digest attrs type c.has_none.result c.has_none.ensures (sym c.if-has_none.false) c.in-Some._digest.0.items c.in_ok-has_one_time-in-Some.field-0 digest c.in_ok-has_one_time-in-Some.ensures
