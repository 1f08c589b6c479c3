use Rattle.pkcs7_verifier.specs.Heads.{certificate_head_value}
use Rattle.certificate_ranges.proofs.certificates.ranges_in.Goals as goal

pub returns : goal.returns
returns c =
    let v = certificate_head_value c.args.head.now in
    record {
      serial_number_at = c.serial_number.ensures v c.requires;
      issuer_at = c.issuer.ensures v c.requires;
      validity_at = c.validity.ensures v c.requires;
      subject_at = c.subject.ensures v c.requires;
      key_info_at = c.key_info.ensures v c.requires;
      key_at = c.in_ok-key.ensures;
      extensions_at = c.extensions_range.ensures;
      key_identifier_at = c.in_ok-key_identifier.ensures;
    }
