-- A value of an attribute as text (RFC 4514, 2.4).
use Rattle.std.specs.Prelude.{◌≡◌, ◌⊎◌, ℕ, ◌+◌, ◌/◌, ◌%◌, List, [], ◌∷◌, nat_lt, if◌then◌else◌}
use Rattle.std.specs.List.{flat_map}
use Rattle.std.specs.Str.{IsUtf8, chars}
use Rattle.asn1_core_element.specs.Element.{element}
use Rattle.asn1_leaves_strings.specs.Bmp.{IsBmp, unit_octets}
use Rattle.asn1_leaves_strings.specs.Ia5.{IsIa5}
use Rattle.x509_text.specs.Escapes.{escape}

-- PrintableString, TeletexString and IA5String
abbrev pub IsAsciiTag : ℕ → Type 0
IsAsciiTag tag = (tag ≡ 0x13) ⊎ ((tag ≡ 0x14) ⊎ (tag ≡ 0x16))

-- the characters of a UTF8String, of one whose octets are ASCII, and of a BMPString, by tag and contents
abbrev pub HasCharacters : ℕ → List ℕ → List ℕ → Type 0
HasCharacters tag contents cs =
    ((tag ≡ 0x0C) × IsUtf8 contents × (cs ≡ chars contents)) ⊎ ((IsAsciiTag tag × IsIa5 contents × (cs ≡ contents)) ⊎ ((tag ≡ 0x1E) × IsBmp contents × (contents ≡ flat_map unit_octets cs)))

-- the encoding is that of a string with these characters
pub record IsString (encoding cs : List ℕ) : Type 0 where
  pub tag : ℕ
  pub contents : List ℕ
  pub is : encoding ≡ element tag contents
  pub spelled : HasCharacters tag contents cs

-- `0` to `9` and `A` to `F`
abbrev pub hex_digit : ℕ → ℕ
hex_digit n = if nat_lt n 10 then 48 + n else 55 + n

abbrev pub hex_pair : ℕ → List ℕ
hex_pair octet = hex_digit (octet / 16) ∷ hex_digit (octet % 16) ∷ []

-- `#`, and two digits for each octet
abbrev pub hexadecimal : List ℕ → List ℕ
hexadecimal encoding = 35 ∷ flat_map hex_pair encoding

-- a string is its characters, with what is escaped of them, and any other value its encoding in hexadecimal
abbrev pub IsValueText : List ℕ → List ℕ → Type 0
IsValueText encoding text =
    ((cs : List ℕ) × IsString encoding cs × (text ≡ escape cs)) ⊎ (((cs : List ℕ) → ¬ (IsString encoding cs)) × (text ≡ hexadecimal encoding))
