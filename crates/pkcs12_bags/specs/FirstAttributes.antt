-- What a bag is called, and what ties it to others: the first attribute of each kind.
use Rattle.std.specs.Prelude.{List, [], ◌∷◌, Option, Some, None}
use Rattle.std.proofs.Common.{inl, inr}
use Rattle.asn1_core.specs.Der.{Octets, StringOctets}
use Rattle.pkcs12_bags.specs.Attributes.{pkcs12_attribute, AttributesValue}

-- the first friendly name of a list
abbrev pub first_name : List pkcs12_attribute.Value → Option StringOctets
first_name [] = None
first_name (inl name ∷ rest) = Some name
first_name (inr other ∷ rest) = first_name rest

-- the first local key identifier of a list
abbrev pub first_key_id : List pkcs12_attribute.Value → Option Octets
first_key_id [] = None
first_key_id (inr (inl id) ∷ rest) = Some id
first_key_id (inr (inr other) ∷ rest) = first_key_id rest
first_key_id (inl name ∷ rest) = first_key_id rest

-- those of a bag, which may have no attributes
abbrev pub friendly_name_of : AttributesValue → Option StringOctets
friendly_name_of (Some items, end) = first_name items
friendly_name_of (None, end) = None

abbrev pub local_key_id_of : AttributesValue → Option Octets
local_key_id_of (Some items, end) = first_key_id items
local_key_id_of (None, end) = None
