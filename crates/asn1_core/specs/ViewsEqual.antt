-- `==` of object identifiers, octet strings and raw elements is equality of octets, that of the fields is that of the
-- struct, and that of what an alternative holds is that of the choice.
use Rattle.std.proofs.lemmas.Slice.Eq.{bytes_eq-Decides}
pub use Rattle.asn1_core_format.specs.Views.{SeesEqual}
pub use Rattle.asn1_core_format.specs.laws.Views.{list_equal, option_equal, two_equal}
use Rattle.asn1_core.specs.contracts.octets.OctetStringAsn1PartialEq.TheImpl as Octets
use Rattle.asn1_core.specs.contracts.raw.Asn1RawDerPartialEq.TheImpl as Raw

pub octets_equal : SeesEqual Octets.ghosts.eq (λ x. x.0.items)
octets_equal x y = bytes_eq-Decides x.0.items y.0.items

pub raw_equal : SeesEqual Raw.ghosts.eq (λ x. x.0.items)
raw_equal x y = bytes_eq-Decides x.0.items y.0.items
