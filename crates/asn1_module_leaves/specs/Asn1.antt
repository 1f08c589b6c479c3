-- The types of this crate in the notation of X.680.
use Rattle.std.specs.Prelude.{◌≡◌, ℕ, ◌^◌, ◌%◌, List, true}
use Rattle.std.proofs.Common.{arith}
use Rattle.asn1_core_format.specs.Asn1.{Asn1, asn1_tagged}
use Rattle.asn1_core_format.specs.Numbers.{numbers_below}
use Rattle.asn1_core_format.specs.laws.TaggedLaws.{leaf_tagged, within_tagged}
use Rattle.asn1_core_format.specs.laws.ComponentLaws.{lawful_within}
use Rattle.asn1_core.specs.Octets.{any_octets}
use Rattle.asn1_module_leaves.specs.Enumerations.{all_low, numbers_in}
use Rattle.asn1_module_leaves.specs.laws.Enumerations.{lawful_enumerated_in}
use Rattle.asn1_module_leaves.specs.laws.ModuleLeaves.{lawful_enumerated, lawful_kept_octets}

abbrev pub ENUMERATED : Asn1
ENUMERATED = asn1_tagged lawful_enumerated 0x0A (leaf_tagged 0x0A (omega arith) (numbers_below (2 ^ 8)))

-- ENUMERATED with these numbers alone; `refl` where each is below 256
abbrev pub ENUMERATED_of : (ms : List ℕ) → all_low ms ≡ true → Asn1
ENUMERATED_of ms low = asn1_tagged (lawful_enumerated_in ms low) 0x0A (leaf_tagged 0x0A (omega arith) (numbers_in ms))

-- OCTET STRING (CONTAINING a): its octets are one encoding of that type
abbrev pub OCTET_STRING_CONTAINING : Asn1 → Asn1
OCTET_STRING_CONTAINING a = asn1_tagged (lawful_within a.format a.law.components 0x04 (omega arith)) 0x04 (within_tagged 0x04 (omega arith) a.format)

-- a string with that universal tag, whose characters aren't tested
abbrev pub KEPT_STRING : ℕ → Asn1
KEPT_STRING n = asn1_tagged (lawful_kept_octets n) (n % 31) (leaf_tagged (n % 31) (omega arith) any_octets)

abbrev pub NUMERIC_STRING : Asn1
NUMERIC_STRING = KEPT_STRING 0x12

abbrev pub PRINTABLE_STRING : Asn1
PRINTABLE_STRING = KEPT_STRING 0x13

abbrev pub TELETEX_STRING : Asn1
TELETEX_STRING = KEPT_STRING 0x14

abbrev pub VISIBLE_STRING : Asn1
VISIBLE_STRING = KEPT_STRING 0x1A

abbrev pub UNIVERSAL_STRING : Asn1
UNIVERSAL_STRING = KEPT_STRING 0x1C
