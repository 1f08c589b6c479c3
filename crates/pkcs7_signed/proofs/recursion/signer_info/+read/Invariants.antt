use Rattle.std.proofs.Common.{◌+◌, ◌*◌}
use Rattle.pkcs7_signed.proofs.recursion.signer_info.+read.Given as goal

abbrev pub decreases-SignerInfoDerDeserialize::read : goal.decreases-SignerInfoDerDeserialize::read
decreases-SignerInfoDerDeserialize::read l = 3 * l.nest

abbrev pub decreases-read_boxed : goal.decreases-read_boxed
decreases-read_boxed l = 3 * l.nest + 1

abbrev pub decreases-SignerInfoDerDeserialize::read-read_signer_with : goal.decreases-SignerInfoDerDeserialize::read-read_signer_with
decreases-SignerInfoDerDeserialize::read-read_signer_with l = 3 * l.below + 2
