-- What Authenticode says of a file that a subject interface package signs.
use Rattle.std.proofs.Common.{refl}
use Rattle.asn1_core.specs.Asn1.{Contents, contents, ◌then◌, end, OCTET_STRING}
use Rattle.asn1_core.specs.Der.{SeesEqual, der_equal}
use Rattle.asn1_leaves.specs.Asn1.{INTEGER}
use Rattle.pkcs7_content.specs.declared.sip_infos.SpcSipInfo.{SpcSipInfo}
use Rattle.pkcs7_content.specs.contracts.sip_infos.SpcSipInfoPartialEq.TheImpl as SipInfoEq

-- SpcSipInfo ::= SEQUENCE { version INTEGER, uuid OCTET STRING, reserved1 INTEGER, reserved2 INTEGER,
--   reserved3 INTEGER, reserved4 INTEGER, reserved5 INTEGER }
abbrev pub spc_sip_info : Contents
spc_sip_info =
    contents (INTEGER then OCTET_STRING then INTEGER then INTEGER then INTEGER then INTEGER then INTEGER then end) refl

abbrev pub spc_sip_info_value : SpcSipInfo → spc_sip_info.Value
spc_sip_info_value x = (x.version.0.items, (x.uuid.0.items, (x.reserved1.0.items, (x.reserved2.0.items, (x.reserved3.0.items, (x.reserved4.0.items, (x.reserved5.0.items, tt)))))))

pub spc_sip_info_equal : SeesEqual SipInfoEq.ghosts.eq spc_sip_info_value
spc_sip_info_equal x y = search der_equal depth 20
