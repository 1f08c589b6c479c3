use Rattle.std.proofs.Common.{ap₂, subst}
use Rattle.asn1_core.specs.Der.{option_value}
use Rattle.x509_base.specs.AlgorithmParts.{algorithm_identifier_value}
use Rattle.x509_base.specs.Names.{name_parts}
use Rattle.x509_base.specs.Times.{time_value}
use Rattle.pkcs7_signed_crl.specs.CertificateLists.{tbs_cert_list}
use Rattle.pkcs7_signed_crl.specs.Revoked.{revoked_certificates_value}
use Rattle.pkcs7_signed_crl.proofs.certificate_lists.TbsCertListSequence.with_components.Goals as goal

pub returns : goal.returns
returns g c =
    let x = c.args.self.now in
    let same = ap₂ (λ v e. (v, (algorithm_identifier_value x.signature, (name_parts x.issuer, (time_value x.this_update, (option_value time_value x.next_update, (option_value revoked_certificates_value x.revoked_certificates, (e, tt)))))))) c.as_v2.ensures c.tagged.ensures in
    subst (λ (v : tbs_cert_list.Value). g.U.ComponentVisitor.Visits c.args.visitor.now c.visit.new.self (tbs_cert_list.format.text v) (λ k. tbs_cert_list.format.IsWellFormed k v) c.visit.result) same c.visit.ensures
