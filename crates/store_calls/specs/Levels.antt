-- SafeContents in one another (RFC 7292, 4.2).
use Rattle.std.specs.Prelude.{◌≡◌, ℕ, zero, suc, List}
use Rattle.std.specs.List.{AllByRecursion}
use Rattle.asn1_core.specs.Der.{ElementOctets}
use Rattle.bag_writers.specs.Written.{SAFE}
use Rattle.pkcs12_bags.specs.Oids.{oid}
use Rattle.pkcs12_bags.specs.declared.parts.oids.TheConstants.{SAFE_CONTENTS_BAG}
use Rattle.x509_pkcs12.specs.RawBags.{raw_safe_bag, raw_safe_contents}

-- of what a bag holds P holds where that is a SafeContents
abbrev pub IsLevel : (ElementOctets → Type 0) → raw_safe_bag.Value → Type 0
IsLevel P bag = bag.0 ≡ oid SAFE_CONTENTS_BAG → P bag.1.0

-- a SafeContents, where at most so many lists of bags are in one another
abbrev pub HasLevels : ℕ → List ℕ → Type 0
HasLevels zero x = ⊥
HasLevels (suc below) x = (bags : raw_safe_contents.Value) × SAFE.format.Reads 64 x bags × AllByRecursion (IsLevel (HasLevels below)) bags
