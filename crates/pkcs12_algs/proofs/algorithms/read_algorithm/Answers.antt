use Rattle.std.proofs.lemmas.Result.{err_from_is_err_and}
use Rattle.pkcs12_algs.proofs.AlgorithmAlternatives.{alternative_has_read, alternative_refused}
use Rattle.pkcs12_algs.proofs.algorithms.read_algorithm.Goals as goal

pub returns-in_err-raw : goal.returns-in_err-raw
returns-in_err-raw g c =
    let r = alternative_refused g.T.Algorithm.OIDS c.in_err-raw.ensures in
    let q = err_from_is_err_and c.from_residual.result c.from_residual.ensures.1 in
    rw (q.1, q.2) r

pub returns : goal.returns
returns g c = alternative_has_read g.T.Algorithm.OIDS c.algorithm_from_raw.ensures c.in_ok-raw.ensures
