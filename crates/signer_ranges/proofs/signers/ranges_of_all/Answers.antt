use Rattle.asn1_core.specs.Der.{option_value}
use Rattle.pkcs7_signed_crl.specs.SignerParts.{signer_identifier_value}
use Rattle.signer_ranges.proofs.Rows.{all_ranged, certificate_at, none_lacking, one_ranged}
use Rattle.signer_ranges.specs.Files.{file_value}
use Rattle.signer_ranges.specs.Signers.{certificates_of}
use Rattle.x509_pkcs7.specs.AllSigners.{numbered_of}
use Rattle.signer_ranges.proofs.signers.ranges_of_all.Goals as goal

pub returns-in_default : goal.returns-in_default
returns-in_default c =
    absurd (none_lacking (λ s. signer_identifier_value s.sid) (λ f. option_value numbered_of f) (certificates_of (file_value c.args.known.now.file.now))
    c.args.signers.now c.args.certificates.now c.loop-index.index c.requires.certificates c.loop-index-test.true c.in_default.ensures.lookup.3)

pub ranges_of-requires-clause-certificate : goal.ranges_of-requires-clause-certificate
ranges_of-requires-clause-certificate c =
    certificate_at (λ s. signer_identifier_value s.sid) (λ f. option_value numbered_of f) (certificates_of (file_value c.args.known.now.file.now)) c.args.signers.now c.args.certificates.now c.loop-index.index c.index-signers-index.result c.in-Some.certificate.now
    c.requires.certificates c.loop-index-test.true c.index-signers-index.is c.in-Some.ensures.lookup.1

pub loop-index-preserved : goal.loop-index-preserved
loop-index-preserved c =
    one_ranged c.args.known.now.input.now (file_value c.args.known.now.file.now) c.args.first c.args.signers.now c.loop-index.index c.loop-index.found.items c.push.new.self.items c.loop-index.invariant c.index-signers-index.result c.loop-index-test.true c.index-signers-index.is c.in_ok-ranges.ranges c.in_ok-ranges.ensures c.in_ok-push.ensures.items

pub returns : goal.returns
returns c = all_ranged c.args.known.now.input.now (file_value c.args.known.now.file.now) c.args.first c.args.signers.now c.loop-index.index c.loop-index.found.items c.loop-index-test.false c.loop-index.invariant
