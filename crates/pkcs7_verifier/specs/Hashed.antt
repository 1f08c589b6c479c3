-- The octets of content that are hashed (RFC 2315, 9.3; RFC 5652, 5.4): the contents octets of its encoding, without
-- the tag and the length.
use Rattle.std.specs.Prelude.{◌≡◌, ℕ, List, Option, None, Some}
use Rattle.asn1_core.specs.Der.{element, IsTagByte, Octets}
use Rattle.asn1_core_element.specs.declared.error.Error.{Error}
use Rattle.asn1_core_writers.specs.Texts.{IsWriteError}
use Rattle.pkcs7_content.specs.Contents.{ContentValues, content_values}

-- the octets are the contents of the one element that the encoding is
pub record AreContentsOf (octets encoding : List ℕ) : Type 0 where
  pub tag : ℕ
  pub is_tag : IsTagByte tag
  pub is : encoding ≡ element tag octets

-- none where the content is absent
abbrev pub IsHashed : Option ContentValues → Option Octets → Type 0
IsHashed None octets = octets ≡ None
IsHashed (Some content) None = ⊥
IsHashed (Some content) (Some octets) = AreContentsOf octets (content_values.text content)

-- why they aren't given: memory was refused, or the encoding of the content is too long. Of absent content no memory is
-- asked for
abbrev pub IsNotHashed : Option ContentValues → Error → Type 0
IsNotHashed None e = ⊥
IsNotHashed (Some content) e = IsWriteError (content_values.text content) e
