-- SafeBag ::= SEQUENCE { bagId OBJECT IDENTIFIER, bagValue [0] EXPLICIT ANY DEFINED BY bagId, bagAttributes SET OF
-- PKCS12Attribute OPTIONAL } with a value that holds no bags
use Rattle.std.specs.Prelude.{◌⊎◌}
use Rattle.std.proofs.Common.{arith}
use Rattle.asn1_core.specs.Asn1.{Asn1, Contents, ANY, SEQUENCE}
use Rattle.asn1_core.specs.Der.{Format, IsLawful, IsLawfulComponents, part, OidOctets, ElementOctets, explicit, followed_by, lawful_explicit}
use Rattle.asn1_choices.specs.ByOid.{ByOid, if_oid, any_oid}
use Rattle.pkcs12_bags.specs.Attributes.{AttributesValue, attributes}
use Rattle.pkcs12_bags.specs.BagParts.{OctetsOrAny, x509_bag, secret_bag, encrypted_key_bag}
use Rattle.pkcs12_bags.specs.Oids.{oid}
use Rattle.pkcs12_bags.specs.declared.parts.oids.TheConstants.{X509_CERTIFICATE, X509_CRL, KEY_BAG, SHROUDED_KEY_BAG, CERTIFICATE_BAG, CRL_BAG, SECRET_BAG}

-- what follows the object identifier of a bag
abbrev pub bag_alternative : {V : Type 0} → Format V → Format (V × AttributesValue)
bag_alternative F = part (explicit 0 F) attributes.format

pub lawful_bag_alternative : {V : Type 0} (F : Format V) → IsLawful F → IsLawfulComponents (bag_alternative F)
lawful_bag_alternative F f = followed_by (lawful_explicit (omega arith) f) attributes.law

abbrev plain_bag : Asn1 → Contents
plain_bag a = record { Value = a.Value × AttributesValue; format = bag_alternative a.format; law = lawful_bag_alternative a.format a.law }

-- a key, an encrypted key, a certificate, a revocation list, a secret, or an OID and any element; each with attributes
abbrev pub plain_bags : ByOid
plain_bags =
    if_oid (oid KEY_BAG) (plain_bag ANY)
    (if_oid (oid SHROUDED_KEY_BAG) (plain_bag (SEQUENCE encrypted_key_bag))
    (if_oid (oid CERTIFICATE_BAG) (plain_bag (SEQUENCE (x509_bag X509_CERTIFICATE)))
    (if_oid (oid CRL_BAG) (plain_bag (SEQUENCE (x509_bag X509_CRL)))
    (if_oid (oid SECRET_BAG) (plain_bag (SEQUENCE secret_bag))
    (any_oid (plain_bag ANY))))))

abbrev pub PlainComponents : Type 0
PlainComponents = plain_bags.Value

-- the same without attributes
abbrev pub PlainKind : Type 0
PlainKind = ElementOctets ⊎ (encrypted_key_bag.Value ⊎ (OctetsOrAny ⊎ (OctetsOrAny ⊎ (secret_bag.Value ⊎ (OidOctets × ElementOctets)))))
