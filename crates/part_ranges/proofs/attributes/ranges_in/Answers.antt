use Rattle.std.proofs.Common.{Err, Global, Ok, Vec, ℕ, ◌≡◌, rules}
use Rattle.std.specs.declared.ops.Range.{Range}
use Rattle.asn1_core_element.specs.declared.error.Error.TheVariants.{Memory}
use Rattle.part_ranges.proofs.Items.{attributes_found, not_so, signer_at}
use Rattle.signer_ranges.specs.Files.{file_value}
use Rattle.x509_pkcs7.specs.RawSigners.{raw_signer_info_value}
use Rattle.part_ranges.proofs.attributes.ranges_in.Goals as goal

pub returns-in_err-found : goal.returns-in_err-found
returns-in_err-found c =
    let v = file_value c.args.file.now in
    let at = signer_at v c.deref.result.now (search rules) c.args.index c.in-Some.signer.now (search rules) c.in-Some.ensures.lookup.1 in
    let r : c.in_err-found.field-0.0 ≡ Memory = attributes_found c.args.input.now v c.requires c.args.index (raw_signer_info_value c.in-Some.signer.now) at c.args.set (not_so c.if-has_none.ensures) {A = Vec (Range ℕ) Global} (λ found. found.items) (Err c.in_err-found.field-0.0) c.in_err-found.ensures in
    search rules

pub returns : goal.returns
returns c =
    let v = file_value c.args.file.now in
    let at = signer_at v c.deref.result.now (search rules) c.args.index c.in-Some.signer.now (search rules) c.in-Some.ensures.lookup.1 in
    (raw_signer_info_value c.in-Some.signer.now, at, attributes_found c.args.input.now v c.requires c.args.index (raw_signer_info_value c.in-Some.signer.now) at c.args.set (not_so c.if-has_none.ensures) {A = Vec (Range ℕ) Global} (λ found. found.items) (Ok c.in_ok-found.found) c.in_ok-found.ensures)
