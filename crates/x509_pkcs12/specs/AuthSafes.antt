-- ContentInfo ::= SEQUENCE { contentType ContentType, content [0] EXPLICIT ANY DEFINED BY contentType OPTIONAL }
-- (RFC 2315, 7) of pkcs7-data, an OCTET STRING around an encoding of F
use Rattle.std.specs.Prelude.{◌⊎◌}
use Rattle.asn1_core.specs.Der.{Format, sequence, OidOctets, Choice, known}
use Rattle.asn1_choices.specs.ByOid.{any_oid}
use Rattle.x509_pkcs12.specs.ContentInfos.{data_content, any_content}
use Rattle.pkcs12_bags.specs.Oids.{data_oid}

-- the value of the data, or an object identifier and its content
abbrev pub AuthSafeValue : Type 0 → Type 0
AuthSafeValue V = V ⊎ (OidOctets × any_content.Value)

abbrev pub auth_safe_choice : {V : Type 0} → Format V → Choice (AuthSafeValue V)
auth_safe_choice F = known data_oid (data_content F) (any_oid any_content).choice

abbrev pub auth_safe : {V : Type 0} → Format V → Format (AuthSafeValue V)
auth_safe F = sequence (auth_safe_choice F).components
