-- What is known of a bag before its ranges are put together.
use Rattle.std.specs.Prelude.{◌≡◌, ℕ, List, [], ◌∷◌, Some, slice_get}
use Rattle.std.specs.declared.ops.Range.{Range}
use Rattle.asn1_core.specs.Der.{OidOctets, raw}
use Rattle.bag_ranges.specs.Bags.{BagValue, IsIn}
use Rattle.pkcs12_bags.specs.Oids.{oid}
use Rattle.pkcs12_bags.specs.declared.parts.oids.TheConstants.{SAFE_CONTENTS_BAG}
use Rattle.x509_base.specs.AttributesByOid.{with_oid}
use Rattle.x509_base.specs.Names.{attribute}

-- the index of the only attribute of a type
abbrev pub IsOnlyAt : OidOctets → List attribute.Value → ℕ → Type 0
IsOnlyAt type attrs j = (a : attribute.Value) → with_oid type attrs ≡ a ∷ [] → (slice_get attrs j ≡ Some a) × (a.0 ≡ type)

-- where the element is that a bag with bags holds
abbrev pub IsElementIn : List ℕ → BagValue → Range ℕ → Type 0
IsElementIn b bag r = bag.0 ≡ oid SAFE_CONTENTS_BAG → IsIn raw.Reads b r.start r.end bag.1.0
