use Rattle.pkcs7_signed_crl.specs.SignerParts.{issuer_and_serial_number_value}
use Rattle.pkcs7_verifier.specs.Heads.{certificate_head_value}
use Rattle.signed_writers.proofs.ReadParts.{by_certificate}
use Rattle.signed_writers.proofs.signers.read_identifier.Goals as goal

pub returns-in_ok-head-in-Certificate : goal.returns-in_ok-head-in-Certificate
returns-in_ok-head-in-Certificate c =
    by_certificate c.args.given.now c.in-Certificate.octets c.in-Certificate.is (certificate_head_value c.in_ok-head-in-Certificate.head) c.in_ok-head-in-Certificate.ensures (issuer_and_serial_number_value c.issuer_of.result) c.issuer_of.ensures
