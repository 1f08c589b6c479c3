use Rattle.pkcs12_algs.proofs.KnownAlgorithms.{same_known}
use Rattle.pkcs12_algs.proofs.algorithms.clone_algorithm.Goals as goal

pub returns-in-Some : goal.returns-in-Some
returns-in-Some g c = same_known g.T.Algorithm.OIDS (g.T.Algorithm.value c.in-Some.known) (g.T.Algorithm.value c.args.algorithm.now) _ c.in-Some.ensures c.in-Ok.ensures
