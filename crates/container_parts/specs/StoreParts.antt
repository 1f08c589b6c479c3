-- Parts of the bags of a PKCS #12 store, as octets.
use Rattle.std.specs.Prelude.{◌≡◌, ℕ, List, [], ◌∷◌, map, Option, None, Some, slice_get, slice_range}
use Rattle.std.specs.List.{flat_map}
use Rattle.std.specs.declared.ops.Range.{Range}
use Rattle.asn1_core.specs.Der.{raw, Octets}
use Rattle.bag_ranges.specs.Stores.{AreBagsOf, HasNoBags, IsStore, StoreValue}
use Rattle.bag_ranges.specs.declared.ranges.BagKind.{BagKind}
use Rattle.bag_ranges.specs.declared.ranges.BagKind.TheVariants as OfKind
use Rattle.bag_ranges.specs.declared.ranges.BagRanges.{BagRanges}
use Rattle.x509_pkcs12.specs.Pfxs.{pfx}
use Rattle.container_parts.specs.Inputs.{Meaning}
use Rattle.container_parts.specs.declared.stores.StorePart.{StorePart}
use Rattle.container_parts.specs.declared.stores.StorePart.TheVariants.{Certificate, Key, EncryptedKey, WholeBag}

-- where a row of that kind has the part
abbrev pub range_in : StorePart → BagKind → BagRanges → Option (Range ℕ)
range_in Certificate OfKind.Certificate row = Some row.value
range_in Key OfKind.Key row = Some row.value
range_in EncryptedKey OfKind.ShroudedKey row = Some row.value
range_in WholeBag OfKind.Unread row = None
range_in WholeBag kind row = Some row.element
range_in part kind row = None

abbrev pub listed : Option (Range ℕ) → List (Range ℕ)
listed None = []
listed (Some r) = r ∷ []

-- where rows have it, in their order
abbrev pub ranges_in : StorePart → List BagRanges → List (Range ℕ)
ranges_in part = flat_map (λ row. listed (range_in part row.kind row))

abbrev pub octets_in : List ℕ → Range ℕ → Octets
octets_in b r = slice_range b r.start r.end

-- the octets there
abbrev pub all_in : StorePart → List ℕ → List BagRanges → List Octets
all_in part b rows = map (octets_in b) (ranges_in part rows)

-- the input is a store whose bags have these octets as the part with that index, or have none
pub record HasStorePart (part : StorePart) (i : ℕ) (b : List ℕ) (octets : Option (List ℕ)) : Type 0 where
  pub rows : List BagRanges
  pub are : AreBagsOf b rows
  pub is : octets ≡ slice_get (all_in part b rows) i

abbrev pub in_store : StorePart → ℕ → Meaning
in_store part i = record {
  Has = λ b octets. HasStorePart part i b octets;
  IsNoContainer = λ b. (store : StoreValue) → (pfx raw).Reads 64 b store → ⊥;
  IsBroken = λ b. IsStore b × HasNoBags b;
}
