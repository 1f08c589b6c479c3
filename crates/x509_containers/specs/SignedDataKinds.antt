-- Signed data, signers and what they hold, as kinds of input: their words, and what inputs are written as.
use Rattle.std.specs.Prelude.{List, [], ◌∷◌, codes}
use Rattle.pkcs7_signed.specs.Signers.{attribute, pkcs7_certificate, signed_data, signer, signer_infos, unsigned_attributes}
use Rattle.x509_containers.specs.Entries.{Entry, entry}
use Rattle.x509_containers.specs.declared.kinds.signed_data.SignedDataKind.{SignedDataKind}
use Rattle.x509_containers.specs.declared.kinds.signed_data.SignedDataKind.TheVariants as Kind

abbrev pub entry_of : SignedDataKind → Entry
entry_of Kind.Pkcs7Certificate = entry (codes "pkcs7certificate") pkcs7_certificate
entry_of Kind.SignedData = entry (codes "signeddata") signed_data
entry_of Kind.SignerInfo = entry (codes "signerinfo") signer
entry_of Kind.SignersInfos = entry (codes "signersinfos") signer_infos
entry_of Kind.UnsignedAttribute = entry (codes "unsignedattribute") attribute
entry_of Kind.UnsignedAttributes = entry (codes "unsignedattributes") unsigned_attributes

abbrev pub kinds : List SignedDataKind
kinds = Kind.Pkcs7Certificate ∷ Kind.SignedData ∷ Kind.SignerInfo ∷ Kind.SignersInfos ∷ Kind.UnsignedAttribute ∷ Kind.UnsignedAttributes ∷ []
