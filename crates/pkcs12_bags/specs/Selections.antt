-- Certificates and keys among bags, and what ties one to the other.
use Rattle.std.specs.Prelude.{List, Bool, true, false, Option, Some, None, is_some}
use Rattle.std.specs.Str.{bytes_eq}
use Rattle.std.proofs.Common.{inl, inr}
use Rattle.asn1_core.specs.Der.{Octets}
use Rattle.pkcs12_bags.specs.Attributes.{AttributesValue}
use Rattle.pkcs12_bags.specs.BagParts.{OctetsOrAny}
use Rattle.pkcs12_bags.specs.Bags.{Bag, BagComponents, bag_out}
use Rattle.pkcs12_bags.specs.FirstAttributes.{local_key_id_of}

-- the certificate in a bag
abbrev pub certificate_in : BagComponents (List Bag) → Option OctetsOrAny
certificate_in (inl bags) = None
certificate_in (inr (inl key)) = None
certificate_in (inr (inr (inl key))) = None
certificate_in (inr (inr (inr (inl certificate)))) = Some certificate.0
certificate_in (inr (inr (inr (inr other)))) = None

abbrev pub certificate_of : Bag → Option OctetsOrAny
certificate_of b = certificate_in (bag_out b)

abbrev pub is_certificate : Bag → Bool
is_certificate b = is_some (certificate_of b)

-- its octets where it is an X.509 certificate
abbrev pub x509_octets : Option OctetsOrAny → Option Octets
x509_octets (Some (inl octets)) = Some octets
x509_octets (Some (inr other)) = None
x509_octets None = None

-- a bag with a key, plain or encrypted
abbrev pub key_is_in : BagComponents (List Bag) → Bool
key_is_in (inl bags) = false
key_is_in (inr (inl key)) = true
key_is_in (inr (inr (inl key))) = true
key_is_in (inr (inr (inr other))) = false

abbrev pub is_key : Bag → Bool
is_key b = key_is_in (bag_out b)

abbrev pub attributes_in : BagComponents (List Bag) → AttributesValue
attributes_in (inl bags) = bags.1
attributes_in (inr (inl key)) = key.1
attributes_in (inr (inr (inl key))) = key.1
attributes_in (inr (inr (inr (inl certificate)))) = certificate.1
attributes_in (inr (inr (inr (inr (inl list))))) = list.1
attributes_in (inr (inr (inr (inr (inr (inl secret)))))) = secret.1
attributes_in (inr (inr (inr (inr (inr (inr unknown)))))) = unknown.1.1

abbrev pub is_same : Octets → Option Octets → Bool
is_same id (Some own) = bytes_eq own id
is_same id None = false

-- the first local key identifier of the bag is this one
abbrev pub has_key_id : Octets → Bag → Bool
has_key_id id b = is_same id (local_key_id_of (attributes_in (bag_out b)))
