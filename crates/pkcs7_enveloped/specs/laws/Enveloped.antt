-- Laws of `Enveloped.antt`.
use Rattle.std.proofs.Common.{refl}
use Rattle.asn1_core.specs.Asn1.{asn1, contents, ◌then◌, ◌OPTIONAL◌, end, INTEGER_BELOW, IMPLICIT, SEQUENCE, SET_OF}
use Rattle.asn1_core.specs.Der.{Format, IsLawful}
use Rattle.x509_base.specs.Names.{attribute}
use Rattle.pkcs7_enveloped.specs.Enveloped.{encrypted_content_info, enveloped, originator_info}

pub lawful_enveloped : {V : Type 0} (F : Format V) → IsLawful F → IsLawful (enveloped F)
lawful_enveloped F f =
    (SEQUENCE (contents (INTEGER_BELOW 6 then IMPLICIT 0 (SEQUENCE originator_info) OPTIONAL SET_OF (asn1 f) then
    SEQUENCE encrypted_content_info then IMPLICIT 1 (SET_OF (SEQUENCE attribute)) OPTIONAL end) refl)).law
