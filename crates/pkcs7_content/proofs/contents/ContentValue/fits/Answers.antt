use Rattle.std.proofs.Common.{rules, ◌≡◌, refl, ap, Some}
use Rattle.pkcs7_content.specs.Contents.{content_value}
use Rattle.pkcs7_content.specs.declared.contents.Kind.TheVariants.{IndirectData, TrustList}
use Rattle.pkcs7_content.proofs.Fits.{octets_fit, data_fits, indirect_fits, list_fits, fits_as}
use Rattle.pkcs7_content.proofs.contents.ContentValue.fits.Goals as goal

pub returns-then-eq : goal.returns-then-eq
returns-then-eq c =
    let e : IndirectData ≡ c.args.kind = search rules in
    fits_as c.args.limit e (ap (λ v. (Some (content_value v), tt)) c.in-SpcIndirectDataContent.is) c.well_formed_at.ensures (indirect_fits c.args.limit _)

pub returns-in-OctetString : goal.returns-in-OctetString
returns-in-OctetString c =
    fits_as c.args.limit refl (ap (λ v. (Some (content_value v), tt)) c.in-OctetString.is) c.is_plain.ensures (octets_fit c.args.limit c.args.kind _)

pub returns-in-Data : goal.returns-in-Data
returns-in-Data c =
    fits_as c.args.limit refl (ap (λ v. (Some (content_value v), tt)) c.in-Data.is) c.is_plain-in-Data.ensures (data_fits c.args.limit c.args.kind _)

pub returns-then-eq-2 : goal.returns-then-eq-2
returns-then-eq-2 c =
    let e : TrustList ≡ c.args.kind = search rules in
    fits_as c.args.limit e (ap (λ v. (Some (content_value v), tt)) c.in-CertificateTrustList.is) c.well_formed_at-then-eq-2.ensures (list_fits c.args.limit _)
