-- What a signature covers where there are signed attributes: their encoding under the tag of a SET OF, in place of [0]
-- (RFC 5652, 5.4).
use Rattle.asn1_core.specs.Asn1.{SEQUENCE}
use Rattle.std.specs.Prelude.{◌≡◌, ℕ, List, [], ◌∷◌, Option, None, Some}
use Rattle.asn1_core.specs.Der.{Format, element, set_of}
use Rattle.x509_base.specs.Names.{attribute}

abbrev pub attributes_as_set : Format (List attribute.Value)
attributes_as_set = set_of (SEQUENCE attribute).format

-- none where there are no attributes
abbrev pub some_attributes : List attribute.Value → Option (List attribute.Value)
some_attributes [] = None
some_attributes (v ∷ vs) = Some (v ∷ vs)

-- the same contents under two tags
pub record IsRetagged (encoding set : List ℕ) : Type 0 where
  pub contents : List ℕ
  pub own : encoding ≡ element 0xA0 contents
  pub as_set : set ≡ element 0x31 contents
