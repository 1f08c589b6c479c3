-- All parts of containers, in the order of their numbers in der.h.
use Rattle.std.specs.Prelude.{ℕ, List, [], ◌∷◌}
use Rattle.container_parts.specs.Inputs.{Meaning}
use Rattle.container_parts.specs.MacParts.{in_mac}
use Rattle.container_parts.specs.SignedParts.{in_signed}
use Rattle.container_parts.specs.StoreParts.{in_store}
use Rattle.container_parts.specs.declared.macs.MacPart.TheVariants as OfMac
use Rattle.container_parts.specs.declared.ContainerPart.{ContainerPart}
use Rattle.container_parts.specs.declared.ContainerPart.TheVariants.{Signed, Store, Mac}
use Rattle.container_parts.specs.declared.signed.SignedPart.TheVariants as OfSigned
use Rattle.container_parts.specs.declared.signed.SignerPart.TheVariants as OfSigner
use Rattle.container_parts.specs.declared.stores.StorePart.TheVariants as OfStore

-- which type the part is of, and what part of it; of the hashed content and of a MAC there
-- is one, whatever the index is
abbrev pub meaning_of : ContainerPart → ℕ → Meaning
meaning_of (Signed part) i = in_signed part i
meaning_of (Store part) i = in_store part i
meaning_of (Mac part) i = in_mac part

abbrev pub parts : List ContainerPart
parts =
    Signed OfSigned.HashedContent ∷ Signed OfSigned.Certificate ∷ Signed (OfSigned.OfSigner OfSigner.SignedAttributes)
    ∷ Signed (OfSigned.OfSigner OfSigner.Issuer) ∷ Signed (OfSigned.OfSigner OfSigner.SerialNumber)
    ∷ Signed (OfSigned.OfSigner OfSigner.KeyIdentifier) ∷ Signed (OfSigned.OfSigner OfSigner.DigestAlgorithm)
    ∷ Signed (OfSigned.OfSigner OfSigner.SignatureAlgorithm) ∷ Signed (OfSigned.OfSigner OfSigner.Signature)
    ∷ Store OfStore.Certificate ∷ Store OfStore.Key ∷ Store OfStore.EncryptedKey ∷ Store OfStore.WholeBag
    ∷ Mac OfMac.DigestAlgorithm ∷ Mac OfMac.Digest ∷ Mac OfMac.Salt ∷ []
