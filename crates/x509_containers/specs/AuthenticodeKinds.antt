-- What Authenticode signs, as kinds of input: their words, and what inputs are written as.
use Rattle.asn1_core.specs.Asn1.{SEQUENCE}
use Rattle.std.specs.Prelude.{List, [], ◌∷◌, codes}
use Rattle.asn1_core.specs.Der.{octet_string}
use Rattle.asn1_leaves.specs.Strings.{bit_string}
use Rattle.pkcs7_content.specs.IndirectData.{spc_indirect_data_content, spc_attribute}
use Rattle.pkcs7_content.specs.PeImageLaws.{spc_pe_image_data}
use Rattle.pkcs7_content.specs.SipInfos.{spc_sip_info}
use Rattle.x509_base.specs.SpcLinks.{file, moniker, spc_sp_opus_info, spc_link, spc_string, url}
use Rattle.x509_base.specs.SpcObjects.{spc_serialized_object}
use Rattle.x509_containers.specs.Entries.{Entry, entry}
use Rattle.x509_containers.specs.declared.kinds.authenticode.AuthenticodeKind.{AuthenticodeKind}
use Rattle.x509_containers.specs.declared.kinds.authenticode.AuthenticodeKind.TheVariants as Kind

abbrev pub entry_of : AuthenticodeKind → Entry
entry_of Kind.File = entry (codes "file") file.format
entry_of Kind.Moniker = entry (codes "moniker") moniker.format
entry_of Kind.SpcAttributeAndOptionalValue = entry (codes "spcattributeandoptionalvalue") (SEQUENCE spc_attribute).format
entry_of Kind.SpcIndirectDataContent = entry (codes "spcindirectdatacontent") (SEQUENCE spc_indirect_data_content).format
entry_of Kind.SpcLink = entry (codes "spclink") spc_link.format
entry_of Kind.SpcPeImageData = entry (codes "spcpeimagedata") spc_pe_image_data.format
entry_of Kind.SpcPeImageFlags = entry (codes "spcpeimageflags") bit_string
entry_of Kind.SpcSerializedObject = entry (codes "spcserializedobject") (SEQUENCE spc_serialized_object).format
entry_of Kind.SpcSipInfo = entry (codes "spcsipinfo") (SEQUENCE spc_sip_info).format
entry_of Kind.SpcSpOpusInfo = entry (codes "spcspopusinfo") (SEQUENCE spc_sp_opus_info).format
entry_of Kind.SpcString = entry (codes "spcstring") spc_string.format
entry_of Kind.SpcUuid = entry (codes "spcuuid") octet_string
entry_of Kind.Url = entry (codes "url") url.format

abbrev pub kinds : List AuthenticodeKind
kinds = Kind.File ∷ Kind.Moniker ∷ Kind.SpcAttributeAndOptionalValue ∷ Kind.SpcIndirectDataContent ∷ Kind.SpcLink ∷ Kind.SpcPeImageData ∷ Kind.SpcPeImageFlags ∷ Kind.SpcSerializedObject ∷ Kind.SpcSipInfo ∷ Kind.SpcSpOpusInfo ∷ Kind.SpcString ∷ Kind.SpcUuid ∷ Kind.Url ∷ []
