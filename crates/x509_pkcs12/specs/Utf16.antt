-- The contents octets of a BMPString that holds UTF-16: two for each unit, the high one first. A character past U+FFFF
-- takes two units, a pair of surrogates.
use Rattle.std.specs.Prelude.{◌≡◌, ℕ, ◌+◌, ◌*◌, ◌%◌, false, List, [], ◌∷◌, length}
use Rattle.std.specs.Char.Utf16.{has_unpaired_surrogate}
use Rattle.asn1_core_element.specs.declared.error.Error.{Error}
use Rattle.asn1_core_element.specs.declared.error.Error.TheVariants.{Memory, Invalid}
use Rattle.asn1_core_format.specs.Asn1.{Asn1, asn1_tagged}
use Rattle.asn1_core_format.specs.Leaf.{verbatim}
use Rattle.asn1_core_format.specs.laws.LeafLaws.{lawful_leaf, lawful_verbatim}
use Rattle.asn1_core_format.specs.laws.TaggedLaws.{leaf_tagged}
use Rattle.std.proofs.Common.{arith}

-- the units of octets, two by two
abbrev pub units_of : List ℕ → List ℕ
units_of [] = []
units_of (high ∷ []) = []
units_of (high ∷ low ∷ after) = (high * 256 + low) ∷ units_of after

-- whole units, in which each surrogate has its partner
abbrev pub IsUtf16 : List ℕ → Type 0
IsUtf16 octets = (length octets % 2 ≡ 0) × (has_unpaired_surrogate (units_of octets) ≡ false)

abbrev pub utf16_string : Asn1
utf16_string = asn1_tagged (lawful_leaf 0x1E (omega arith) (verbatim IsUtf16) (lawful_verbatim IsUtf16)) 0x1E (leaf_tagged 0x1E (omega arith) (verbatim IsUtf16))

-- why octets give no text: they aren't UTF-16, or memory was refused
abbrev pub NoText : List ℕ → Error → Type 0
NoText octets Invalid = ¬ (IsUtf16 octets)
NoText octets Memory = Unit {0}
NoText octets other = ⊥
