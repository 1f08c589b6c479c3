use Rattle.std.proofs.Common.{refl, rules}
use Rattle.signer_ranges.proofs.Rows.{is_part, long_certificates, signers_at}
use Rattle.signer_ranges.specs.Files.{file_value}
use Rattle.signer_ranges.proofs.signers.ranges_in.Goals as goal

pub returns-in_err-certificate_rows : goal.returns-in_err-certificate_rows
returns-in_err-certificate_rows c =
    let long = long_certificates c.args.file.now.signed_data.0.certificates.0.0.items c.deref.result.now c.deref.ensures.value in
    let r = c.in_err-certificate_rows.ensures (file_value c.args.file.now) c.requires.value long in
    search rules

pub returns-in_err-signer_rows : goal.returns-in_err-signer_rows
returns-in_err-signer_rows c = let r = c.in_err-signer_rows.ensures (file_value c.args.file.now) c.requires.value in search rules

pub ranges_of_all-requires-clause-known : goal.ranges_of_all-requires-clause-known
ranges_of_all-requires-clause-known c =
    let long = long_certificates c.args.file.now.signed_data.0.certificates.0.0.items c.deref.result.now c.deref.ensures.value in
    record {
      is_value = c.requires.value;
      content_at = c.content_range.ensures c.requires.value;
      certificates_at = c.in_ok-certificate_rows.ensures (file_value c.args.file.now) c.requires.value long;
      signers_at = c.in_ok-signer_rows.ensures (file_value c.args.file.now) c.requires.value;
    }

pub ranges_of_all-requires-clause-signers : goal.ranges_of_all-requires-clause-signers
ranges_of_all-requires-clause-signers c = signers_at (file_value c.args.file.now) c.args.first c.args.most c.args.file.now.signed_data.0.signers_infos.0.0.items c.as_slice-all.result.now c.asked-signers.result.now c.as_slice-all.ensures.value c.asked-signers.ensures refl

pub returns : goal.returns
returns c =
    is_part (file_value c.args.file.now) c.args.first c.args.most c.args.file.now.signed_data.0.signers_infos.0.0.items c.as_slice-all.result.now c.asked-signers.result.now c.as_slice-all.ensures.value c.asked-signers.ensures refl
    c.args.input.now c.in_ok-found.found.items c.in_ok-found.ensures.0 c.in_ok-found.ensures.1
