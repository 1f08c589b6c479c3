-- What the call from C says, by its status, of where an input has each bag of a store.
use Rattle.std.specs.Prelude.{◌≡◌, ℕ, List, map}
use Rattle.bag_ranges.specs.Stores.{AreBagsOf, HasNoBags}
use Rattle.bag_ranges.specs.declared.ranges.BagKind.{BagKind}
use Rattle.bag_ranges.specs.declared.ranges.BagKind.TheVariants.{Key, ShroudedKey, Certificate, Crl, Secret, SafeContents, Other, Unread, OtherCertificate, OtherCrl}
use Rattle.bag_ranges.specs.declared.ranges.BagRanges.{BagRanges}
use Rattle.call_values.specs.Ranges.{is_there, octets_of, octets_or_none}
use Rattle.call_values.specs.Statuses.{Reasons, WritesAt}
use Rattle.store_calls.specs.declared.bags.Bag.{Bag}

-- DER_BAG_OTHER, DER_BAG_KEY and so on
abbrev pub kind_number : BagKind → ℕ
kind_number Other = 0
kind_number Key = 1
kind_number ShroudedKey = 2
kind_number Certificate = 3
kind_number Crl = 4
kind_number Secret = 5
kind_number SafeContents = 6
kind_number Unread = 7
kind_number OtherCertificate = 8
kind_number OtherCrl = 9

-- the ranges of a bag
abbrev pub bag_row : BagRanges → Bag
bag_row r = record {
  kind = kind_number r.kind;
  level = r.level;
  has_friendly_name = is_there r.friendly_name;
  has_local_key_id = is_there r.local_key_id;
  element = octets_of r.element;
  value = octets_of r.value;
  friendly_name = octets_or_none r.friendly_name;
  local_key_id = octets_or_none r.local_key_id;
}

-- the input has no rows of bags; DER_NO_RANGE is never answered, as a store lacks no range
abbrev pub without_bags : List ℕ → Reasons
without_bags b = record { IsUnknown = ⊥; HasNone = HasNoBags b; IsLong = HasNoBags b; TakesMemory = Unit {0}; LacksRange = ⊥; IsAbsent = ⊥ }

-- what der_bag_rows answers of the input b and an array
abbrev pub FindsBags : List ℕ → List Bag → List Bag → ℕ → ℕ → ℕ → Type 0
FindsBags b = WritesAt (λ rows. (ranges : List BagRanges) × AreBagsOf b ranges × (rows ≡ map bag_row ranges)) (without_bags b) b
