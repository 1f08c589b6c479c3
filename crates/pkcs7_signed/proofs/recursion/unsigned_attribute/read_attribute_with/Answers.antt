use Rattle.std.proofs.Common.{sym, subst}
use Rattle.std.proofs.lemmas.Result.{err_from_is_err_and}
use Rattle.asn1_core_format.proofs.LevelReads.{has_refused}
use Rattle.asn1_core_format.proofs.ComponentReads.{within_refused, within_has_read}
use Rattle.asn1_core.specs.Der.{HasRead, less}
use Rattle.asn1_choices.proofs.DefinedByReads.{defined_has_read, oid_refused, components_refused}
use Rattle.asn1_choices.specs.DefinedBy.{any_defined_by}
use Rattle.pkcs7_signed.specs.Components.{values_defined_by, attribute_components}
use Rattle.pkcs7_signed.specs.Signers.{signer, pkcs7_certificate, attribute}
use Rattle.pkcs7_signed.specs.SignerValues.{attribute_value}
use Rattle.pkcs7_signed.proofs.SignerReads.{attribute_has_read, attribute_refused, made_attribute, at_octets, refused_at_octets}
use Rattle.pkcs7_signed.proofs.recursion.unsigned_attribute.read_attribute_with.Goals as goal

pub returns-in_err-ty : goal.returns-in_err-ty
returns-in_err-ty g c =
    has_refused attribute_value attribute c.args.nest (err_from_is_err_and c.from_residual-in_err-ty.result c.from_residual-in_err-ty.ensures.1)
    (attribute_refused c.args.nest (within_refused (any_defined_by (values_defined_by pkcs7_certificate (less signer))) c.args.nest 0x30 c.in_ok-outer.ensures (oid_refused (values_defined_by pkcs7_certificate (less signer)) c.in_err-ty.ensures)))

pub returns-in_err-value : goal.returns-in_err-value
returns-in_err-value g c =
    has_refused attribute_value attribute c.args.nest (err_from_is_err_and c.from_residual-in_err-value.result c.from_residual-in_err-value.ensures.1)
    (attribute_refused c.args.nest (within_refused (any_defined_by (values_defined_by pkcs7_certificate (less signer))) c.args.nest 0x30 c.in_ok-outer.ensures
    (components_refused (values_defined_by pkcs7_certificate (less signer)) c.in_ok-ty.ensures (refused_at_octets c.octets.ensures.value c.in_err-value.ensures))))

pub returns : goal.returns
returns g c =
    let t = within_has_read (any_defined_by (values_defined_by pkcs7_certificate (less signer))) c.args.nest 0x30 c.in_ok-outer.ensures
    (defined_has_read (values_defined_by pkcs7_certificate (less signer)) c.in_ok-ty.ensures (at_octets c.octets.ensures.value c.in_ok-value.ensures)) c.in_ok-end.ensures in
    attribute_has_read c.args.nest _
    (subst (HasRead (attribute_components pkcs7_certificate (less signer)) c.args.nest c.args.r.now c.end.new.self) (sym (made_attribute c.in_ok-ty.ty c.in_ok-value.value)) t)
