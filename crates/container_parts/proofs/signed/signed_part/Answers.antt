use Rattle.std.proofs.Common.{sym, subst}
use Rattle.signer_ranges.specs.Signers.{signed_file}
use Rattle.container_parts.specs.Inputs.{GivesPart}
use Rattle.container_parts.specs.laws.Inputs.{gives}
use Rattle.container_parts.specs.SignedParts.{in_signed, IsSignedPart}
use Rattle.container_parts.proofs.signed.signed_part.Goals as goal

pub returns : goal.returns
returns c =
    subst (GivesPart (in_signed c.args.part c.args.index) c.args.input.now) (sym c.of_file.ensures)
    (gives signed_file (IsSignedPart c.args.part c.args.index) c.args.input.now _ c.in_ok-file.ensures c.part_of_file.result c.part_of_file.ensures)
