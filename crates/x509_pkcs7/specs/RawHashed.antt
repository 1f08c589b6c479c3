-- The octets that are hashed of content that is kept as an element (RFC 2315, 9.3; RFC 5652, 5.4).
use Rattle.std.specs.Prelude.{◌≡◌, Option, None, Some}
use Rattle.asn1_core.specs.Der.{IsElement, IsTagByte, Octets, ElementOctets}
use Rattle.pkcs7_verifier.specs.Hashed.{AreContentsOf}
use Rattle.x509_pkcs7.specs.RawContents.{raw_encapsulated_content_info}

-- the element that the content is
abbrev pub content_of : raw_encapsulated_content_info.Value → Option ElementOctets
content_of v = v.1.0

-- none where the content is absent
abbrev pub IsRawHashed : Option ElementOctets → Option Octets → Type 0
IsRawHashed None octets = octets ≡ None
IsRawHashed (Some content) None = ⊥
IsRawHashed (Some content) (Some octets) = AreContentsOf octets content

-- there is content, and it isn't one element
abbrev pub IsNoElement : Option ElementOctets → Type 0
IsNoElement None = ⊥
IsNoElement (Some content) = IsElement IsTagByte content → ⊥
