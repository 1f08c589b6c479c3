-- INTEGERs that allow one number only, as versions do.
use Rattle.std.specs.Prelude.{◌≡◌, ℕ, [], ◌∷◌}
use Rattle.asn1_core_element.specs.Numbers.{integer_octets}
use Rattle.asn1_core_format.specs.Format.{Format}
use Rattle.asn1_core_format.specs.Leaf.{Spelling, leaf}

-- n and no other number, for n below 128: its contents are one octet
abbrev pub only : ℕ → Spelling ℕ
only n = record { spell = integer_octets; IsValid = λ v. v ≡ n; IsContents = λ c. c ≡ n ∷ [] }

abbrev pub version : ℕ → Format ℕ
version n = leaf 0x02 (only n)
