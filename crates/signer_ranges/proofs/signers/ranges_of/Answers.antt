use Rattle.std.proofs.Common.{subst, sym}
use Rattle.asn1_core.specs.Der.{octets_of, option_value}
use Rattle.signer_ranges.proofs.OneSigner.{are_broken, are_ranges, has_certificate, parts_of}
use Rattle.signer_ranges.specs.Files.{file_value}
use Rattle.signer_ranges.specs.Pieces.{IsDigestOrBroken}
use Rattle.signer_ranges.specs.SignerRows.{AreCertificateRows, AreSignerRows, IsContentFound}
use Rattle.signer_ranges.specs.Signers.{sid_of}
use Rattle.x509_pkcs7.specs.AllSigners.{numbered_of}
use Rattle.x509_pkcs7.specs.RawSigners.{raw_signer_info_value}
use Rattle.signer_ranges.proofs.signers.ranges_of.Goals as goal

pub returns-in-None : goal.returns-in-None
returns-in-None c =
    let b = c.args.known.now.input.now in
    let v = file_value c.args.known.now.file.now in
    let s = raw_signer_info_value c.args.signer.now in
    let row = c.in-Some.row.now in
    let rows = subst (AreSignerRows b v) (sym c.deref.ensures.value) c.requires.known.signers_at in
    let parts = parts_of b v c.deref.result.now rows c.args.index s c.requires.signer row c.in-Some.ensures.lookup.1 in
    are_broken b v c.requires.known.is_value c.args.index s c.requires.signer row parts
    (subst (λ d. IsDigestOrBroken row s (octets_of c.args.known.now.file.now.signed_data.0.content_info.content_type.0) (option_value (λ o. option_value (λ t. t.0.items) o) d)) c.in-None.is c.in_ok-digest.ensures)

pub returns-in_err-certificate : goal.returns-in_err-certificate
returns-in_err-certificate c =
    let b = c.args.known.now.input.now in
    let v = file_value c.args.known.now.file.now in
    let rows = subst (AreCertificateRows b v) (sym c.deref-2.ensures.value) c.requires.known.certificates_at in
    absurd (has_certificate b v c.deref-2.result.now rows (sid_of (raw_signer_info_value c.args.signer.now)) (option_value numbered_of c.args.certificate) c.requires.certificate c.in_err-certificate.ensures)

pub returns : goal.returns
returns c =
    let b = c.args.known.now.input.now in
    let v = file_value c.args.known.now.file.now in
    let s = raw_signer_info_value c.args.signer.now in
    let row = c.in-Some.row.now in
    let rows = subst (AreSignerRows b v) (sym c.deref.ensures.value) c.requires.known.signers_at in
    let parts = parts_of b v c.deref.result.now rows c.args.index s c.requires.signer row c.in-Some.ensures.lookup.1 in
    let certificates = subst (AreCertificateRows b v) (sym c.deref-2.ensures.value) c.requires.known.certificates_at in
    are_ranges b v c.requires.known.is_value c.args.index s c.requires.signer row parts c.deref-2.result.now certificates
    (option_value (λ o. o.0.items) c.in-Some-2.digest)
    (subst (λ d. IsDigestOrBroken row s (octets_of c.args.known.now.file.now.signed_data.0.content_info.content_type.0) (option_value (λ o. option_value (λ t. t.0.items) o) d)) c.in-Some-2.is c.in_ok-digest.ensures)
    c.signed_ranges-signed.result c.signed_ranges-signed.ensures
    c.copied.result (subst (IsContentFound b v) (sym c.copied.ensures) c.requires.known.content_at)
    (option_value numbered_of c.args.certificate) c.requires.certificate c.in_ok-certificate.certificate c.in_ok-certificate.ensures
