-- CertBag ::= SEQUENCE { certId OBJECT IDENTIFIER, certValue [0] EXPLICIT ANY DEFINED BY certId } (RFC 7292, 4.2.3)
-- CRLBag ::= SEQUENCE { crlId OBJECT IDENTIFIER, crlValue [0] EXPLICIT ANY DEFINED BY crlId } (RFC 7292, 4.2.4)
-- SecretBag ::= SEQUENCE { secretTypeId OBJECT IDENTIFIER, secretValue [0] EXPLICIT ANY DEFINED BY secretTypeId }
--   (RFC 7292, 4.2.5)
-- EncryptedPrivateKeyInfo ::= SEQUENCE { encryptionAlgorithm AlgorithmIdentifier, encryptedData OCTET STRING }
--   (RFC 5958, 3)
use Rattle.std.specs.Prelude.{◌⊎◌, ℕ}
use Rattle.asn1_core.specs.Asn1.{Contents, contents, ◌then◌, end, OBJECT_IDENTIFIER, OCTET_STRING, ANY, EXPLICIT, SEQUENCE}
use Rattle.asn1_core.specs.Der.{Format, octets_of, Octets, OidOctets, ElementOctets}
use Rattle.std.proofs.Common.{inl, inr, refl}
use Rattle.pkcs12_algs.specs.Encryption.{pkcs12_encryption_algorithm_value, pkcs12_encryption_algorithm}
use Rattle.asn1_choices.specs.ByOid.{if_oid, any_oid, chosen, alone}
use Rattle.pkcs12_bags.specs.Oids.{oid}
use Rattle.pkcs12_bags.specs.declared.parts.oids.TheConstants.{X509_CERTIFICATE, X509_CRL}
use Rattle.pkcs12_bags.specs.declared.parts.bags.EncryptedKeyBag.{EncryptedKeyBag}
use Rattle.pkcs12_bags.specs.declared.parts.bags.SecretBag.{SecretBag}
use Rattle.pkcs12_bags.specs.declared.parts.bags.X509Bag.{X509Bag}
use Rattle.pkcs12_bags.specs.declared.parts.bags.X509Bag.TheVariants.{X509, Unknown}

-- the octets of an X.509 one; or an object identifier and any element
abbrev pub OctetsOrAny : Type 0
OctetsOrAny = Octets ⊎ (OidOctets × ElementOctets)

abbrev pub x509_bag_value : {known : ℕ} → X509Bag known → OctetsOrAny
x509_bag_value (X509 o) = inl o.0.items
x509_bag_value (Unknown t v) = inr (octets_of t, v.0.items)

-- a bag whose X.509 alternative has the object identifier with that number
abbrev pub x509_bag : ℕ → Contents
x509_bag number = chosen (if_oid (oid number) (alone (EXPLICIT 0 OCTET_STRING)) (any_oid (alone (EXPLICIT 0 ANY))))

abbrev pub certificate_bag : Format OctetsOrAny
certificate_bag = (SEQUENCE (x509_bag X509_CERTIFICATE)).format

abbrev pub crl_bag : Format OctetsOrAny
crl_bag = (SEQUENCE (x509_bag X509_CRL)).format

abbrev pub secret_bag : Contents
secret_bag = contents (OBJECT_IDENTIFIER then EXPLICIT 0 ANY then end) refl

abbrev pub secret_bag_value : SecretBag → secret_bag.Value
secret_bag_value b = (octets_of b.type_id, (b.value.0.items, tt))

abbrev pub encrypted_key_bag : Contents
encrypted_key_bag = contents (SEQUENCE pkcs12_encryption_algorithm then OCTET_STRING then end) refl

abbrev pub encrypted_key_bag_value : EncryptedKeyBag → encrypted_key_bag.Value
encrypted_key_bag_value b = (pkcs12_encryption_algorithm_value b.algorithm, (b.encrypted_data.0.items, tt))
