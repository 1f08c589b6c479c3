-- Laws of `Pfxs.antt`.
use Rattle.asn1_core.specs.Asn1.{SEQUENCE}
use Rattle.std.proofs.Common.{refl}
use Rattle.asn1_core.specs.Der.{Format, IsLawful, lawful_version_3, lawful_sequence, followed_by, perhaps, lawful_nothing}
use Rattle.pkcs12_algs.specs.Digests.{mac_data}
use Rattle.x509_pkcs12.specs.laws.AuthSafes.{lawful_auth_safe}
use Rattle.x509_pkcs12.specs.Pfxs.{pfx}

pub lawful_pfx : {V : Type 0} (F : Format V) → IsLawful F → IsLawful (pfx F)
lawful_pfx F f = lawful_sequence (followed_by lawful_version_3 (followed_by (lawful_auth_safe F f) (perhaps (SEQUENCE mac_data).law refl lawful_nothing)))
