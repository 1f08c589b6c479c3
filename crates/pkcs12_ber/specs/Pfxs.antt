-- PFX ::= SEQUENCE { version INTEGER {v3(3)}(v3,...), authSafe ContentInfo, macData MacData OPTIONAL } (RFC 7292, 4)
use Rattle.std.proofs.Common.{refl}
use Rattle.asn1_core.specs.Asn1.{Contents, contents, asn1, ◌then◌, ◌OPTIONAL◌, end, SEQUENCE}
use Rattle.asn1_core.specs.Der.{lawful_version_3, option_value, Octets}
use Rattle.pkcs12_algs.specs.Digests.{mac_data_value, mac_data}
use Rattle.x509_pkcs12.specs.Pfxs.{PfxValue}
use Rattle.pkcs12_ber.specs.ContentInfos.{content_info, content_info_value}
use Rattle.pkcs12_ber.specs.declared.pfxs.BerPfx.{BerPfx}

abbrev pub ber_pfx : Contents
ber_pfx = contents (asn1 lawful_version_3 then SEQUENCE content_info then SEQUENCE mac_data OPTIONAL end) refl

abbrev pub ber_pfx_value : BerPfx → PfxValue Octets
ber_pfx_value p = (p.version, (content_info_value p.auth_safe, (option_value mac_data_value p.mac_data, tt)))
