use Rattle.std.proofs.Common.{rules}
use Rattle.asn1_sets.proofs.NotEncoded.{not_written}
use Rattle.asn1_sets.proofs.encodings.encoded.Goals as goal

pub returns-in_err-write : goal.returns-in_err-write
returns-in_err-write g c = let r = not_written g.T.DerSerialize.format (g.T.DerSerialize.value c.args.value.now) _ c.in_err-write.ensures in search rules
