-- The kind of a bag and its attributes, by its fields.
use Rattle.std.specs.Prelude.{◌≡◌, Bool, true, false, Option, Some, None}
use Rattle.std.proofs.Common.{refl, ap, ◌∙◌}
use Rattle.pkcs12_bags.specs.Attributes.{AttributesValue, attributes_value}
use Rattle.pkcs12_bags.specs.BagParts.{OctetsOrAny, x509_bag_value}
use Rattle.pkcs12_bags.specs.laws.BagLevels.{value_components}
use Rattle.pkcs12_bags.specs.BagValues.{with_attributes, bag_value, kind_value}
use Rattle.pkcs12_bags.specs.Selections.{certificate_in, certificate_of, key_is_in, is_key, attributes_in}
use Rattle.pkcs12_bags.specs.Bags.{bag_out}
use Rattle.pkcs12_bags.specs.declared.safe_bags.bags.SafeBag.{SafeBag}
use Rattle.pkcs12_bags.specs.declared.safe_bags.bags.SafeBagKind as K
use Rattle.pkcs12_bags.specs.declared.safe_bags.bags.SafeBagKind.{SafeBagKind}

abbrev pub certificate_of_kind : SafeBagKind → Option OctetsOrAny
certificate_of_kind (K.Certificate x) = Some (x509_bag_value x)
certificate_of_kind k = None

abbrev is_key_kind : SafeBagKind → Bool
is_key_kind (K.Key x) = true
is_key_kind (K.EncryptedKey x) = true
is_key_kind k = false

certificate_kind : (k : SafeBagKind) (n : AttributesValue) → certificate_in (with_attributes (kind_value k) n) ≡ certificate_of_kind k
certificate_kind (K.Certificate x) n = refl
certificate_kind k n = refl

key_kind : (k : SafeBagKind) (n : AttributesValue) → key_is_in (with_attributes (kind_value k) n) ≡ is_key_kind k
key_kind (K.Key x) n = refl
key_kind k n = refl

attributes_kind : (k : SafeBagKind) (n : AttributesValue) → attributes_in (with_attributes (kind_value k) n) ≡ n
attributes_kind (K.SafeContents c) n = refl
attributes_kind k n = refl

-- a kind that is no certificate
pub no_certificate : (k : SafeBagKind) → ((x : _) → k ≡ K.Certificate x → ⊥) → certificate_of_kind k ≡ None
no_certificate (K.Certificate x) other = absurd (other x refl)
no_certificate k other = refl

pub certificate_field : (b : SafeBag) → certificate_of (bag_value b) ≡ certificate_of_kind b.kind
certificate_field b = ap certificate_in (value_components b) ∙ certificate_kind b.kind (attributes_value b.attributes)

pub key_field : (b : SafeBag) → is_key (bag_value b) ≡ is_key_kind b.kind
key_field b = ap key_is_in (value_components b) ∙ key_kind b.kind (attributes_value b.attributes)

pub attributes_field : (b : SafeBag) → attributes_in (bag_out (bag_value b)) ≡ attributes_value b.attributes
attributes_field b = ap attributes_in (value_components b) ∙ attributes_kind b.kind (attributes_value b.attributes)
