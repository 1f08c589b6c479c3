use Rattle.std.specs.Prelude.{Some}
use Rattle.std.proofs.Common.{ap, sym, ◌∙◌}
use Rattle.asn1_core.specs.Der.{option_value}
use Rattle.password_writers.proofs.Nulls.{with_null}
use Rattle.password_writers.proofs.algorithms.Pbkdf2.prf_with_null.Goals as goal
use Rattle.x509_base.specs.Algorithms.{null}

pub returns-in-Some : goal.returns-in-Some
returns-in-Some c = with_null c.in-Some.algorithm.now ∙ ap (option_value (λ p. (p.now, (Some null, tt)))) (sym c.in-Some.is)
