-- From ranges that were found to what a call answers.
use Rattle.std.proofs.Common.{◌≡◌, ◌≢◌, ℕ, List, Vec, Global, map, inl, inr, refl, subst}
use Rattle.std.specs.Prelude.{Option, None, Some, Result, MatchResult}
use Rattle.std.specs.declared.ops.Range.{Range}
use Rattle.asn1_core.specs.Der.{option_value}
use Rattle.input_ranges.specs.declared.ranges.Refusal.{Refusal}
use Rattle.part_ranges.specs.EnvelopeParts.{AreEnvelopedAt, IsEnvelopedRefusal}
use Rattle.part_ranges.specs.Enveloped.{enveloped_file}
use Rattle.part_ranges.specs.Ranges.{AreCertificatesAt, IsSignedRefusal}
use Rattle.part_ranges.specs.SignerAttributes.{AreAttributesAt}
use Rattle.part_ranges.specs.declared.attributes.AttributeSet.{AttributeSet}
use Rattle.part_ranges.specs.declared.envelope_parts.EnvelopePart.{EnvelopePart}
use Rattle.part_ranges.specs.declared.envelope_parts.EnvelopePart.TheVariants.{Recipients, EncryptionAlgorithm, EncryptedContent}
use Rattle.signer_ranges.specs.Signers.{signed_file}
use Rattle.call_values.proofs.Statuses.{found_written, HasOrLacks, IsRefusedFor, refused_ranges, said, some_written}
use Rattle.part_calls.specs.Lists.{AreItemsAt, certificates, ListsAttributes, ListsRanges, number_of, set_of, without_attributes, without_items}
use Rattle.call_values.specs.Ranges.{AreRowsOf, octets_of}
use Rattle.call_values.specs.Statuses.{PutsFound, PutsSome}
use Rattle.call_values.specs.declared.ranges.Octets.{Octets}

-- no part of enveloped data has another number
pub no_envelope_part : (number : ℕ) → number ≢ 16 → number ≢ 17 → number ≢ 18 → (part : EnvelopePart) → number ≢ number_of part
no_envelope_part number f g h Recipients = f
no_envelope_part number f g h EncryptionAlgorithm = g
no_envelope_part number f g h EncryptedContent = h

abbrev pub rows_of : Vec (Range ℕ) Global → List Octets
rows_of v = map octets_of v.items

module _ (number : ℕ) (b : List ℕ) (old new : List Octets) (count place status : ℕ) (found : Result (Vec (Range ℕ) Global) Refusal) where
  pub listed_certificates : number ≡ certificates → MatchResult found (λ r. AreCertificatesAt b r.items) (λ e. IsSignedRefusal b e) → PutsFound rows_of found old new count place status → ListsRanges number b old new count place status
  listed_certificates is given put =
      found_written (AreRowsOf (AreItemsAt number b)) (without_items number b) rows_of b old new count place status found
      (said
      (λ r. AreCertificatesAt b r.items)
      (λ r. AreRowsOf (AreItemsAt number b) (rows_of r))
      (λ e. IsSignedRefusal b e)
      (λ e. IsRefusedFor (without_items number b) b e)
      (λ r are. (r.items, inl (is, are), refl))
      (λ e. refused_ranges signed_file (without_items number b) b ⊥ tt (λ none. inl (is, none)) (λ lacks. lacks) e)
      found given)
      put

  pub listed_envelope : (part : EnvelopePart) → number ≡ number_of part → MatchResult found (λ r. AreEnvelopedAt part b r.items) (λ e. IsEnvelopedRefusal b e) → PutsFound rows_of found old new count place status → ListsRanges number b old new count place status
  listed_envelope part is given put =
      found_written (AreRowsOf (AreItemsAt number b)) (without_items number b) rows_of b old new count place status found
      (said
      (λ r. AreEnvelopedAt part b r.items)
      (λ r. AreRowsOf (AreItemsAt number b) (rows_of r))
      (λ e. IsEnvelopedRefusal b e)
      (λ e. IsRefusedFor (without_items number b) b e)
      (λ r are. (r.items, inr (part, is, are), refl))
      (λ e. refused_ranges enveloped_file (without_items number b) b ⊥ tt (λ none. inr (part, is, none)) (λ lacks. lacks) e)
      found given)
      put

module _ (set : AttributeSet) (index : ℕ) (b : List ℕ) where
  abbrev Have : List Octets → Type 0
  Have = AreRowsOf (λ ranges. AreAttributesAt set index b (Some ranges))

  given_some : (r : Option (Vec (Range ℕ) Global)) → AreAttributesAt set index b (option_value (λ v. v.items) r) → HasOrLacks Have (without_attributes set index b) rows_of r
  given_some None absent = absent
  given_some (Some v) are = (v.items, are, refl)

  -- what was found of a signer's attributes is that, or a refusal, of the call
  given_set : (found : Result (Option (Vec (Range ℕ) Global)) Refusal) → MatchResult found (λ r. AreAttributesAt set index b (option_value (λ v. v.items) r)) (λ e. IsSignedRefusal b e) → MatchResult found (λ r. HasOrLacks Have (without_attributes set index b) rows_of r) (λ e. IsRefusedFor (without_attributes set index b) b e)
  given_set = said
      (λ r. AreAttributesAt set index b (option_value (λ v. v.items) r))
      (λ r. HasOrLacks Have (without_attributes set index b) rows_of r)
      (λ e. IsSignedRefusal b e)
      (λ e. IsRefusedFor (without_attributes set index b) b e)
      given_some
      (λ e. refused_ranges signed_file (without_attributes set index b) b ⊥ tt (λ none. none) (λ lacks. lacks) e)

pub listed_attributes : (signed index : ℕ) (b : List ℕ) (old new : List Octets) (count place status : ℕ) (found : Result (Option (Vec (Range ℕ) Global)) Refusal) (set : AttributeSet) → set ≡ set_of signed → MatchResult found (λ r. AreAttributesAt set index b (option_value (λ v. v.items) r)) (λ e. IsSignedRefusal b e) → PutsSome rows_of found old new count place status → ListsAttributes signed index b old new count place status
listed_attributes signed index b old new count place status found set is given put =
    some_written (Have (set_of signed) index b) (without_attributes (set_of signed) index b) rows_of b old new count place status found
    (subst (λ s. MatchResult found (λ r. HasOrLacks (Have s index b) (without_attributes s index b) rows_of r) (λ e. IsRefusedFor (without_attributes s index b) b e)) is (given_set set index b found given))
    put
