-- Where an input has the attributes of a signer (RFC 5652, 5.3).
use Rattle.std.specs.Prelude.{◌≡◌, ◌≤◌, ℕ, List, length, slice_get, Option, None, Some}
use Rattle.std.specs.declared.ops.Range.{Range}
use Rattle.std.proofs.Common.{arith}
use Rattle.asn1_core.specs.Asn1.{Asn1, SEQUENCE}
use Rattle.asn1_core.specs.Der.{each}
use Rattle.asn1_core_format.specs.Whole.{IsValueOf}
use Rattle.asn1_located.specs.Places.{Route}
use Rattle.asn1_located.specs.Routes.{enclosed, ◌▸◌}
use Rattle.located_rows.specs.Rows.{AreItemsOf}
use Rattle.signer_ranges.specs.SignerRoutes.{signed_attributes, signer, unsigned_attributes}
use Rattle.signer_ranges.specs.Signers.{FileValue, signed_file, signed_of, signers_of, SignerValue}
use Rattle.x509_base.specs.Names.{attribute}
use Rattle.part_ranges.specs.declared.attributes.AttributeSet.{AttributeSet}
use Rattle.part_ranges.specs.declared.attributes.AttributeSet.TheVariants.{Signed, Unsigned}

abbrev pub ATTRIBUTE : Asn1
ATTRIBUTE = SEQUENCE attribute

abbrev pub unsigned_of : SignerValue → List attribute.Value
unsigned_of s = s.1.1.1.1.1.1.0

abbrev pub attributes_of : AttributeSet → SignerValue → List attribute.Value
attributes_of Signed s = signed_of s
attributes_of Unsigned s = unsigned_of s

-- the attributes of the signer with an index, where it has any
abbrev pub attributes_in : AttributeSet → ℕ → Route signed_file.Reads (each ATTRIBUTE.format).Reads
attributes_in Signed i = signer i ▸ signed_attributes ▸ enclosed 0xA0 (omega arith) (each ATTRIBUTE.format)
attributes_in Unsigned i = signer i ▸ unsigned_attributes ▸ enclosed 0xA1 (omega arith) (each ATTRIBUTE.format)

-- each of them in its place
abbrev pub AreAttributesOf : AttributeSet → ℕ → List ℕ → FileValue → SignerValue → List (Range ℕ) → Type 0
AreAttributesOf set index b v s ranges = AreItemsOf ATTRIBUTE.format ATTRIBUTE.law (attributes_in set index) b v (attributes_of set s) ranges

-- the same of the signer with that index, or there are fewer signers
abbrev pub AreAttributesIn : AttributeSet → ℕ → List ℕ → FileValue → Option (List (Range ℕ)) → Type 0
AreAttributesIn set index b v None = length (signers_of v) ≤ index
AreAttributesIn set index b v (Some ranges) = (s : SignerValue) × (slice_get (signers_of v) index ≡ Some s) × AreAttributesOf set index b v s ranges

-- the same of the value of the input, signed data
pub record AreAttributesAt (set : AttributeSet) (index : ℕ) (b : List ℕ) (ranges : Option (List (Range ℕ))) : Type 0 where
  pub value : FileValue
  pub is_value : IsValueOf signed_file 64 b value
  pub items : AreAttributesIn set index b value ranges
