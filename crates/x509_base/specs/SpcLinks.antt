-- SpcString ::= CHOICE { unicode [0] IMPLICIT BMPString, ascii [1] IMPLICIT IA5String }
-- SpcLink ::= CHOICE { url [0] IMPLICIT IA5String, moniker [1] IMPLICIT SpcSerializedObject, file [2] EXPLICIT
--   SpcString }
-- SpcSpOpusInfo ::= SEQUENCE { programName [0] EXPLICIT SpcString OPTIONAL, moreInfo [1] EXPLICIT SpcLink OPTIONAL }
use Rattle.std.proofs.Common.{inl, inr, refl}
use Rattle.asn1_core.specs.Asn1.{Asn1, Contents, contents, ◌OPTIONAL◌, end, IMPLICIT, EXPLICIT, CHOICE, SEQUENCE}
use Rattle.asn1_core.specs.Der.{option_value}
use Rattle.asn1_leaves.specs.Asn1.{BMP_STRING, IA5_STRING}
use Rattle.asn1_leaves_strings.specs.Octets.{octets_of_bmp, octets_of_ia5}
use Rattle.x509_base.specs.SpcObjects.{spc_serialized_object, spc_serialized_object_value}
use Rattle.x509_base.specs.declared.spc.links.SpcString.{SpcString}
use Rattle.x509_base.specs.declared.spc.links.SpcString.TheVariants.{Unicode, Ancii}
use Rattle.x509_base.specs.declared.spc.links.SpcLink.{SpcLink}
use Rattle.x509_base.specs.declared.spc.links.SpcLink.TheVariants as Links
use Rattle.x509_base.specs.declared.spc.links.Url.{Url}
use Rattle.x509_base.specs.declared.spc.links.Moniker.{Moniker}
use Rattle.x509_base.specs.declared.spc.links.File.{File}
use Rattle.x509_base.specs.declared.spc.opus_info.SpcSpOpusInfo.{SpcSpOpusInfo}

abbrev pub spc_string : Asn1
spc_string = CHOICE (IMPLICIT 0 BMP_STRING) (IMPLICIT 1 IA5_STRING) refl

abbrev pub spc_string_value : SpcString → spc_string.Value
spc_string_value (Unicode s) = inl (octets_of_bmp s.0.0.0)
spc_string_value (Ancii s) = inr (octets_of_ia5 s.0.0.0)

abbrev pub url : Asn1
url = IMPLICIT 0 IA5_STRING

abbrev pub url_value : Url → url.Value
url_value x = octets_of_ia5 x.0.0.0.0

abbrev pub moniker : Asn1
moniker = IMPLICIT 1 (SEQUENCE spc_serialized_object)

abbrev pub moniker_value : Moniker → moniker.Value
moniker_value x = spc_serialized_object_value x.0.0.0

abbrev pub file : Asn1
file = EXPLICIT 2 spc_string

abbrev pub file_value : File → file.Value
file_value x = spc_string_value x.0.0

abbrev pub spc_link : Asn1
spc_link = CHOICE url (CHOICE moniker file refl) refl

abbrev pub spc_link_value : SpcLink → spc_link.Value
spc_link_value (Links.Url x) = inl (url_value x)
spc_link_value (Links.Moniker x) = inr (inl (moniker_value x))
spc_link_value (Links.File x) = inr (inr (file_value x))

abbrev pub spc_sp_opus_info : Contents
spc_sp_opus_info = contents (EXPLICIT 0 spc_string OPTIONAL EXPLICIT 1 spc_link OPTIONAL end) refl

abbrev pub spc_sp_opus_info_value : SpcSpOpusInfo → spc_sp_opus_info.Value
spc_sp_opus_info_value x = (option_value (λ n. spc_string_value n.0) x.program_name, (option_value (λ l. spc_link_value l.0) x.more_info, tt))
