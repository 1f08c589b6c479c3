-- Laws of the types of PKIX1Implicit88, made of rfc5280-implicit.asn1; not to be edited.
use Rattle.asn1_module_leaves.specs.Enumerations.{IsOneOf}
use Rattle.rfc5280.specs.Pkix1Implicit88.{crl_reason_numbers, crl_reason_value}
use Rattle.std.proofs.Common.{inl, inr, refl}
use Rattle.rfc5280.specs.declared.pkix1_implicit88.CrlReason.{CrlReason}
use Rattle.rfc5280.specs.declared.pkix1_implicit88.CrlReason.TheVariants as CrlReasonIs

pub crl_reason_listed : (x : CrlReason) → IsOneOf crl_reason_numbers (crl_reason_value x)
crl_reason_listed CrlReasonIs.Unspecified = inl refl
crl_reason_listed CrlReasonIs.KeyCompromise = inr (inl refl)
crl_reason_listed CrlReasonIs.CaCompromise = inr (inr (inl refl))
crl_reason_listed CrlReasonIs.AffiliationChanged = inr (inr (inr (inl refl)))
crl_reason_listed CrlReasonIs.Superseded = inr (inr (inr (inr (inl refl))))
crl_reason_listed CrlReasonIs.CessationOfOperation = inr (inr (inr (inr (inr (inl refl)))))
crl_reason_listed CrlReasonIs.CertificateHold = inr (inr (inr (inr (inr (inr (inl refl))))))
crl_reason_listed CrlReasonIs.RemoveFromCrl = inr (inr (inr (inr (inr (inr (inr (inl refl)))))))
crl_reason_listed CrlReasonIs.PrivilegeWithdrawn = inr (inr (inr (inr (inr (inr (inr (inr (inl refl))))))))
crl_reason_listed CrlReasonIs.AaCompromise = inr (inr (inr (inr (inr (inr (inr (inr (inr (inl refl)))))))))
