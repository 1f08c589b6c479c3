use Rattle.std.proofs.Common.{subst}
use Rattle.pkcs12_algs.specs.Pbes2.{pbes2_key_derivation_func}
use Rattle.pkcs12_algs.proofs.pbes2.Pbes2KeyDerivationFuncSequence.with_components.Goals as goal

pub returns : goal.returns
returns g c =
    subst (λ v. g.U.ComponentVisitor.Visits c.args.visitor.now c.visit.new.self (pbes2_key_derivation_func.format.text v) (λ k. pbes2_key_derivation_func.format.IsWellFormed k v) c.visit.result) c.choice.ensures c.visit.ensures
