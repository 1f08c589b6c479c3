use Rattle.std.proofs.Common.{length}
use Rattle.std.specs.Prelude.{string_bytes}
use Rattle.asn1_leaves_strings.proofs.BmpTextReads.{IsTextBefore}
use Rattle.asn1_leaves_strings.proofs.bmp_string.BmpString.to_text.Given as goal

abbrev pub invariant-loop-rest : goal.invariant-loop-rest
invariant-loop-rest l = IsTextBefore l.self.octets.items (string_bytes l.text) l.rest

abbrev pub decreases-loop-rest : goal.decreases-loop-rest
decreases-loop-rest l = length l.rest
