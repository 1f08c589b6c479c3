use Rattle.pkcs12_algs.proofs.KnownAlgorithms.{known_valid}
use Rattle.pkcs12_algs.proofs.algorithms.raw_of_algorithm.Goals as goal

pub known_oid-requires : goal.known_oid-requires
known_oid-requires g c = known_valid g.T.Algorithm.OIDS g.met.T.Algorithm.valid (g.T.Algorithm.value c.args.algorithm.now) _ c.in-Ok.ensures
