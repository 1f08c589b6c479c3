-- Contents of PKCS #7, as kinds of input: their words, and what inputs are written as.
use Rattle.std.specs.Prelude.{List, [], ◌∷◌, codes}
use Rattle.asn1_core.specs.Asn1.{SEQUENCE}
use Rattle.asn1_core.specs.Der.{number_below}
use Rattle.pkcs7_content.specs.ContentLaws.{encapsulated_content_info}
use Rattle.x509_containers.specs.Entries.{Entry, entry}
use Rattle.x509_containers.specs.declared.kinds.content_infos.ContentKind.{ContentKind}
use Rattle.x509_containers.specs.declared.kinds.content_infos.ContentKind.TheVariants as Kind

abbrev pub entry_of : ContentKind → Entry
entry_of Kind.CmsVersion = entry (codes "cmsversion") (number_below 6)
entry_of Kind.EncapsulatedContentInfo = entry (codes "encapsulatedcontentinfo") (SEQUENCE encapsulated_content_info).format

abbrev pub kinds : List ContentKind
kinds = Kind.CmsVersion ∷ Kind.EncapsulatedContentInfo ∷ []
