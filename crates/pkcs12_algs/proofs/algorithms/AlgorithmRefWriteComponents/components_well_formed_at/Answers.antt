use Rattle.std.proofs.Common.{rules}
use Rattle.pkcs12_algs.proofs.KnownAlgorithms.{known_formed}
use Rattle.pkcs12_algs.proofs.algorithms.AlgorithmRefWriteComponents.components_well_formed_at.Goals as goal

pub returns-in-Ok : goal.returns-in-Ok
returns-in-Ok g c =
    let h = known_formed g.T.Algorithm.OIDS g.met.T.Algorithm.valid c.args.limit (g.T.Algorithm.value c.args.self.now.0.now) _ c.in-Ok.ensures in
    search rules
