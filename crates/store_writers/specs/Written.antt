-- What is written of a PKCS #12 file from given parts.
use Rattle.std.specs.Prelude.{◌≡◌, ℕ, List, Option, Some}
use Rattle.std.proofs.Common.{inl}
use Rattle.asn1_core.specs.Asn1.{Asn1, SEQUENCE, SEQUENCE_OF}
use Rattle.asn1_core.specs.Der.{Octets, octet_string, raw}
use Rattle.asn1_core_format.specs.Whole.{IsValueOf}
use Rattle.asn1_core_oid.specs.Known.{data_oid}
use Rattle.bag_ranges.specs.RawContentInfos.{raw_content_info, raw_content_info_value}
use Rattle.pkcs12_algs.specs.Digests.{mac_data}
use Rattle.store_writers.specs.declared.content.Content.{Content}
use Rattle.store_writers.specs.declared.content.Content.TheVariants.{Data, Info}
use Rattle.x509_pkcs12.specs.MacOctets.{Covers}
use Rattle.x509_pkcs12.specs.Pfxs.{PfxValue, pfx}

-- ContentInfo (RFC 2315, 7)
abbrev pub CONTENT : Asn1
CONTENT = SEQUENCE raw_content_info

-- AuthenticatedSafe ::= SEQUENCE OF ContentInfo (RFC 7292, 4.1)
abbrev pub CONTENTS : Asn1
CONTENTS = SEQUENCE_OF CONTENT

-- data is an OCTET STRING of the octets
abbrev pub content_value : Content → raw_content_info.Value
content_value (Data x) = (data_oid, (Some (octet_string.text x.now), tt))
content_value (Info x) = raw_content_info_value x

-- the text is the encoding of these contents, and is read as them and nothing else
pub record IsAuthenticatedSafeOf (contents : List raw_content_info.Value) (text : List ℕ) : Type 0 where
  pub text_is : text ≡ CONTENTS.format.text contents
  pub reads : IsValueOf CONTENTS.format 64 text contents

-- a PFX of version 3 (RFC 7292, 4) whose authSafe is data
abbrev pub store_value : Octets → Option mac_data.Value → PfxValue (List ℕ)
store_value safe mac = (3, (inl safe, (mac, tt)))

-- the text is the encoding of such a PFX, is read as its normal value and nothing else, and has the octets that a MAC covers
pub record IsStoreOf (safe : Octets) (mac : Option mac_data.Value) (text : List ℕ) : Type 0 where
  pub text_is : text ≡ (pfx raw).text (store_value safe mac)
  pub reads : IsValueOf (pfx raw) 64 text ((pfx raw).normal (store_value safe mac))
  pub covers : Covers text safe
