-- Names for the octets in values, by what they are.
use Rattle.std.specs.Prelude.{ℕ, List}

-- the contents octets of an OCTET STRING
abbrev pub Octets : Type 0
Octets = List ℕ

-- the contents octets of an OBJECT IDENTIFIER
abbrev pub OidOctets : Type 0
OidOctets = List ℕ

-- the contents octets of an INTEGER
abbrev pub IntegerOctets : Type 0
IntegerOctets = List ℕ

-- the contents octets of a BIT STRING
abbrev pub BitStringOctets : Type 0
BitStringOctets = List ℕ

-- the contents octets of a string of characters
abbrev pub StringOctets : Type 0
StringOctets = List ℕ

-- a whole element, with its header
abbrev pub ElementOctets : Type 0
ElementOctets = List ℕ
