use Rattle.part_ranges.proofs.Items.{certificates_found, not_so}
use Rattle.signer_ranges.specs.Files.{file_value}
use Rattle.part_ranges.proofs.certificates.ranges_in.Goals as goal

pub returns : goal.returns
returns c = certificates_found c.args.input.now (file_value c.args.file.now) c.requires (not_so c.if-has_none.ensures) (λ found. found.items) c.some_ranges.result c.some_ranges.ensures
