use Rattle.std.proofs.Common.{ap, map, ◌∙◌}
use Rattle.asn1_core.specs.Der.{option_value}
use Rattle.pkcs7_signed_crl.specs.SignerParts.{signer_identifier_value}
use Rattle.signer_ranges.proofs.Rows.{certificates_are}
use Rattle.x509_pkcs7.specs.AllSigners.{numbered_of}
use Rattle.signer_ranges.proofs.signers.certificates_of_all.Goals as goal

pub returns : goal.returns
returns c =
    certificates_are c.args.file.now.signed_data.0.certificates.0.0.items c.deref.result.now (map (λ s. signer_identifier_value s.now) c.deref-2.result.now) (map (λ s. signer_identifier_value s.sid) c.args.signers.now) (map (λ f. option_value numbered_of f) c.in_ok-found.found.items)
    c.deref.ensures.value
    (ap (map (λ s. signer_identifier_value s.now)) c.deref-2.ensures.value ∙ c.in_ok-names.ensures)
    c.in_ok-found.ensures
