-- Laws of the types of OCSP-2013-88, made of rfc6960.asn1; not to be edited.
use Rattle.asn1_module_leaves.specs.Enumerations.{IsOneOf}
use Rattle.std.proofs.Common.{inl, inr, refl}
use Rattle.rfc6960.specs.Ocsp201388.{ocsp_response_status_numbers, ocsp_response_status_value}
use Rattle.rfc6960.specs.declared.ocsp_2013_88.OcspResponseStatus.{OcspResponseStatus}
use Rattle.rfc6960.specs.declared.ocsp_2013_88.OcspResponseStatus.TheVariants as OcspResponseStatusIs

pub ocsp_response_status_listed : (x : OcspResponseStatus) → IsOneOf ocsp_response_status_numbers (ocsp_response_status_value x)
ocsp_response_status_listed OcspResponseStatusIs.Successful = inl refl
ocsp_response_status_listed OcspResponseStatusIs.MalformedRequest = inr (inl refl)
ocsp_response_status_listed OcspResponseStatusIs.InternalError = inr (inr (inl refl))
ocsp_response_status_listed OcspResponseStatusIs.TryLater = inr (inr (inr (inl refl)))
ocsp_response_status_listed OcspResponseStatusIs.SigRequired = inr (inr (inr (inr (inl refl))))
ocsp_response_status_listed OcspResponseStatusIs.Unauthorized = inr (inr (inr (inr (inr (inl refl)))))
