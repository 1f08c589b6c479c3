-- Laws of `AuthSafes.antt`.
use Rattle.asn1_core.specs.Der.{Format, IsLawful, lawful_sequence, IsLawfulChoice, lawful_known}
use Rattle.asn1_choices.specs.ByOid.{any_oid}
use Rattle.x509_pkcs12.specs.ContentInfos.{data_content, lawful_data_content, any_content}
use Rattle.pkcs12_bags.specs.Oids.{data_oid}
use Rattle.x509_pkcs12.specs.AuthSafes.{auth_safe, auth_safe_choice}

module _ {V : Type 0} (F : Format V) where
  pub lawful_auth_safe_choice : IsLawful F → IsLawfulChoice (auth_safe_choice F)
  lawful_auth_safe_choice f = lawful_known data_oid (data_content F) (any_oid any_content).choice (lawful_data_content F f).components (any_oid any_content).law

  pub lawful_auth_safe : IsLawful F → IsLawful (auth_safe F)
  lawful_auth_safe f = lawful_sequence (lawful_auth_safe_choice f).components
