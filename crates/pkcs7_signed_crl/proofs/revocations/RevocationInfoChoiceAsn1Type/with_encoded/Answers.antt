use Rattle.std.proofs.Common.{sym, subst}
use Rattle.pkcs7_signed_crl.specs.Revocations.{revocation_info_choice, revocation_info_choice_value}
use Rattle.pkcs7_signed_crl.proofs.revocations.RevocationInfoChoiceAsn1Type.with_encoded.Goals as goal

pub returns-in-Crl : goal.returns-in-Crl
returns-in-Crl g c =
    subst (λ x. g.U.ComponentVisitor.Visits c.args.visitor.now c.visit_value.new.self (revocation_info_choice.format.text (revocation_info_choice_value x)) (λ k. revocation_info_choice.format.IsWellFormed k (revocation_info_choice_value x)) c.visit_value.result) (sym c.in-Crl.is) c.visit_value.ensures
