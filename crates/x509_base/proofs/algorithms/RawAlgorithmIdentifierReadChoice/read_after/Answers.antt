use Rattle.std.proofs.Common.{rules}
use Rattle.x509_base.proofs.AlgorithmReads.{other_refused}
use Rattle.x509_base.proofs.algorithms.RawAlgorithmIdentifierReadChoice.read_after.Goals as goal

pub returns-in_err-algorithm : goal.returns-in_err-algorithm
returns-in_err-algorithm c = let r = other_refused c.args.oid.now {k = c.args.nest} {old = c.args.r.now} c.in_err-algorithm.ensures in search rules
