-- The octets that a MAC covers are a part of a PFX, by a route through its components.
use Rattle.std.proofs.Common.{refl, arith}
use Rattle.asn1_core.specs.Asn1.{asn1, end, ◌OPTIONAL◌, SEQUENCE}
use Rattle.asn1_core.specs.Der.{lawful_raw, lawful_version_3, raw, within}
use Rattle.asn1_choices.specs.ByOid.{any_oid}
use Rattle.asn1_located.specs.Places.{Route}
use Rattle.asn1_located.specs.Routes.{component, enclosed, known_body, ◌before◌, ◌here◌, ◌▸◌}
use Rattle.pkcs12_algs.specs.Digests.{mac_data}
use Rattle.pkcs12_bags.specs.Oids.{data_oid}
use Rattle.x509_pkcs12.specs.laws.AuthSafes.{lawful_auth_safe}
use Rattle.x509_pkcs12.specs.ContentInfos.{any_content, data_content}
use Rattle.x509_pkcs12.specs.Pfxs.{pfx}

-- PFX ::= SEQUENCE { version, authSafe ContentInfo, macData OPTIONAL } (RFC 7292, 4), the content of whose authSafe is
-- [0] EXPLICIT OCTET STRING where it is data
abbrev pub mac_route : Route (pfx raw).Reads raw.Reads
mac_route =
    component 0x30 (omega arith) (asn1 lawful_version_3 before asn1 (lawful_auth_safe raw lawful_raw) here SEQUENCE mac_data OPTIONAL end) refl
    ▸ known_body data_oid (data_content raw) (any_oid any_content).choice
    ▸ enclosed 0xA0 (omega arith) (within 0x04 raw)
    ▸ enclosed 0x04 (omega arith) raw
