use Rattle.signer_ranges.proofs.Rows.{RangedSoFar}
use Rattle.signer_ranges.specs.Files.{file_value}
use Rattle.signer_ranges.proofs.signers.ranges_of_all.Given as goal

abbrev pub invariant-loop-index : goal.invariant-loop-index
invariant-loop-index l = RangedSoFar l.known.input.now (file_value l.known.file.now) l.first l.signers l.index l.found.items
