-- The types of this crate in the notation of X.680.
use Rattle.std.specs.Prelude.{◌≡◌, ◌^◌, ℕ, ltb, true}
use Rattle.std.proofs.Common.{arith}
use Rattle.std.proofs.lemmas.Bool.{ltb-true}
use Rattle.asn1_core_format.specs.laws.TaggedLaws.{leaf_tagged}
use Rattle.asn1_core.specs.Booleans.{booleans, explicit_false}
use Rattle.asn1_core.specs.laws.Booleans.{lawful_boolean, false_left_out}
use Rattle.asn1_core.specs.Defaults.{number_octets}
use Rattle.asn1_core.specs.laws.Defaults.{number_left_out}
use Rattle.asn1_core.specs.Nulls.{no_contents}
use Rattle.asn1_core.specs.laws.Nulls.{lawful_null_element}
use Rattle.asn1_core.specs.Objects.{oid_octets}
use Rattle.asn1_core.specs.laws.Objects.{lawful_object_identifier}
use Rattle.asn1_core.specs.Octets.{any_octets}
use Rattle.asn1_core.specs.laws.Octets.{lawful_octet_string}
use Rattle.asn1_core.specs.laws.Raw.{lawful_raw}
use Rattle.asn1_core.specs.Versions.{only}
use Rattle.asn1_core.specs.laws.Versions.{lawful_version}
pub use Rattle.asn1_core_format.specs.Asn1.{Asn1, asn1, asn1_tagged, INTEGER_BELOW, Asn1Default, ComponentTypes, Distinct, all_distinct, Contents, end, ◌then◌, ◌OPTIONAL◌, ◌DEFAULT◌, contents, SEQUENCE, list_of, SEQUENCE_OF, SET_OF, EXPLICIT, IMPLICIT, CHOICE, EXPLICIT_default, IMPLICIT_default}

abbrev pub OBJECT_IDENTIFIER : Asn1
OBJECT_IDENTIFIER = asn1_tagged lawful_object_identifier 0x06 (leaf_tagged 0x06 (omega arith) oid_octets)

abbrev pub OCTET_STRING : Asn1
OCTET_STRING = asn1_tagged lawful_octet_string 0x04 (leaf_tagged 0x04 (omega arith) any_octets)

abbrev pub NULL : Asn1
NULL = asn1_tagged lawful_null_element 0x05 (leaf_tagged 0x05 (omega arith) no_contents)

-- any one element, kept as it is
abbrev pub ANY : Asn1
ANY = asn1 lawful_raw

-- INTEGER (0..255), with that number as its DEFAULT
abbrev pub INTEGER_or : (d : ℕ) → ltb d (2 ^ 8) ≡ true → Asn1Default
INTEGER_or d low = record { type = INTEGER_BELOW (2 ^ 8); text = number_octets d; inside = 0; left_out = number_left_out d (ltb-true d (2 ^ 8) low) }

abbrev pub BOOLEAN : Asn1
BOOLEAN = asn1_tagged lawful_boolean 0x01 (leaf_tagged 0x01 (omega arith) booleans)

-- BOOLEAN with FALSE as its DEFAULT
abbrev pub BOOLEAN_or_FALSE : Asn1Default
BOOLEAN_or_FALSE = record { type = BOOLEAN; text = explicit_false; inside = 0; left_out = false_left_out }

-- INTEGER that allows one number only, below 128, as versions do
abbrev pub VERSION : (n : ℕ) → ltb n 128 ≡ true → Asn1
VERSION n low = asn1_tagged (lawful_version n (ltb-true n 128 low)) 0x02 (leaf_tagged 0x02 (omega arith) (only n))
