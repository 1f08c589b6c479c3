-- The ranges of one signer, put together.
use Rattle.std.specs.Prelude.{◌≡◌, ◌≢◌, ◌⊎◌, ◌≤◌, ◌<◌, ◌+◌, ◌-◌, ℕ, zero, suc, List, [], ◌∷◌, ◌++◌, length, take, drop, get_or, slice_get, slice_range, Option, None, Some, IfSome}
use Rattle.std.specs.List.{enumerate_from}
use Rattle.std.specs.declared.ops.Range.{Range}
use Rattle.std.proofs.Common.{sym, ap, ◌∙◌, subst, inl, inr, arith}
use Rattle.std.proofs.lemmas.List.{drop_at, take_at}
use Rattle.std.proofs.lemmas.Option.{slice_get_within}
use Rattle.asn1_core.specs.Der.{Octets}
use Rattle.asn1_core_element.specs.declared.error.Error.{Error}
use Rattle.asn1_core_element.specs.declared.error.Error.TheVariants.{Memory}
use Rattle.asn1_core_format.specs.Whole.{IsValueOf}
use Rattle.asn1_located.specs.Places.{Walk}
use Rattle.asn1_located.specs.Routes.{◌▸◌}
use Rattle.asn1_located.specs.laws.WalkLaws.{fits, walk_lies_in}
use Rattle.asn1_located.specs.declared.walks.Step.{Step}
use Rattle.input_ranges.specs.Failures.{refusal_of}
use Rattle.input_ranges.specs.laws.Failures.{is_refusal, memory_fails}
use Rattle.input_ranges.specs.Ranges.{IsAt}
use Rattle.input_ranges.specs.declared.ranges.Refusal.{Refusal}
use Rattle.located_rows.proofs.RowLaws.{leads_after, range_is}
use Rattle.located_rows.specs.Rows.{IsRangeOf}
use Rattle.pkcs7_attributes.specs.Attributes.{attributes}
use Rattle.pkcs7_signed_crl.specs.SignerParts.{signer_identifier}
use Rattle.pkcs7_verifier.specs.Matches.{IsFirst, IsSigners}
use Rattle.signer_ranges.proofs.Between.{attributes_given, of_signer}
use Rattle.signer_ranges.proofs.Digests.{digest_part}
use Rattle.signer_ranges.proofs.Exact.{algorithm_exact, attributes_exact}
use Rattle.signer_ranges.proofs.InRanges.{joined, octets_at, text_at}
use Rattle.signer_ranges.specs.Pieces.{AreSignedFound, IsCertificateFound, IsDigest, IsDigestOrBroken, IsNoCertificateFound}
use Rattle.signer_ranges.specs.SignerRoutes.{ALGORITHM, certificate, digest_algorithm, digest_in, message_digest, signature, signature_algorithm, signed_attributes, signer}
use Rattle.signer_ranges.specs.SignerRows.{AreCertificateRows, AreParts, AreSignerRows, HasNoSet, HasSet, IsContentFound}
use Rattle.signer_ranges.specs.Signers.{AreAdjacent, ArePlacesOrNone, AreRangesOrNone, AreSignedOrNone, AreSignedPlaces, certificates_of, content_info_of, digest_algorithm_of, algorithm_text, FileValue, HasEmptySet, HasNoRange, IsCertificateAt, IsCertificatePlace, IsRefusal, sid_of, signature_algorithm_of, signature_of, signed_file, signed_of, SignerValue, signers_of}
use Rattle.x509_pkcs7.proofs.AllFirsts.{first_without_index}
use Rattle.x509_pkcs7.specs.AllSigners.{IsSignersAt, Numbered}
use Rattle.signer_ranges.specs.declared.parts.CertificateRow.{CertificateRow}
use Rattle.signer_ranges.specs.declared.parts.SignerRow.{SignerRow}
use Rattle.signer_ranges.specs.declared.ranges.SignedRanges.{SignedRanges}

some_cut : {X : Type 0} {x y : X} → Some x ≡ Some y → x ≡ y
some_cut e = cc

-- octets to which steps lead are in the input there
walk_at : (steps : List Step) (b : List ℕ) (n : ℕ) (y : List ℕ) (end : ℕ) → end ≡ n + length y → Walk steps 0 b n y → IsAt b y n end
walk_at steps b n y end e w =
    let s = walk_lies_in steps 0 b n y w in
    let d : drop n b ≡ y ++ s.after = ap (drop n) s.is ∙ drop_at s.before (y ++ s.after) n (omega (arith, s.place)) in
    record {
      is = ap (take (end - n)) d ∙ take_at y s.after (end - n) (omega (arith, e));
      inside = omega (arith, e, fits s);
      ordered = omega (arith, e);
    }

-- the index of the first of some items is where it is
first_in : {X : Type 0} (P : ℕ × X → Type 0) (n : ℕ) (xs : List X) (c : ℕ × X) → IsFirst P (enumerate_from n xs) (Some c) → (j : ℕ) × (c.0 ≡ n + j) × (slice_get xs j ≡ Some c.1)
first_in P n [] c f = absurd (let e : Some c ≡ None = f in cc)
first_in P n (x ∷ xs) c (inl f) = let e : c ≡ (n, x) = some_cut f.1 in (0, ap (λ d. d.0) e ∙ omega arith, ap (λ d. Some d.1) (sym e))
first_in P n (x ∷ xs) c (inr f) = let r = first_in P (n + 1) xs c f.1 in (suc r.0, omega (arith, r.1), r.2)

slice_get_is : {X : Type 0} (xs : List X) (j : ℕ) (x : X) → slice_get xs j ≡ Some x → get_or xs j x ≡ x
slice_get_is [] j x e = absurd (let n : None ≡ Some x = e in cc)
slice_get_is (y ∷ ys) zero x e = some_cut e
slice_get_is (y ∷ ys) (suc j) x e = slice_get_is ys j x e

module _ (b : List ℕ) (v : FileValue) (is : IsValueOf signed_file 64 b v) (i : ℕ) (s : SignerValue) (is_signer : slice_get (signers_of v) i ≡ Some s) (row : SignerRow) (p : AreParts b v i s row) where
  digest_text : IsAt b (algorithm_text (digest_algorithm_of s)) row.digest_algorithm.start row.digest_algorithm.end
  digest_text = text_at ALGORITHM.format algorithm_exact (signer i ▸ digest_algorithm) 64 b v (digest_algorithm_of s) row.digest_algorithm.start row.digest_algorithm.end p.digest_algorithm_at

  signature_text : IsAt b (algorithm_text (signature_algorithm_of s)) row.signature_algorithm.start row.signature_algorithm.end
  signature_text = text_at ALGORITHM.format algorithm_exact (signer i ▸ signature_algorithm) 64 b v (signature_algorithm_of s) row.signature_algorithm.start row.signature_algorithm.end p.signature_algorithm_at

  abbrev EmptyAt : Type 0
  EmptyAt = (n : ℕ) × Walk (signer i ▸ signed_attributes).steps 0 b n (0xA0 ∷ 0x00 ∷ [])

  -- an empty set is between the algorithms
  an_empty_set : signed_of s ≡ [] → HasSet b i s row → HasEmptySet b s × EmptyAt
  an_empty_set none h =
      let e = h.empty none in
      let set : IsAt b (0xA0 ∷ 0x00 ∷ []) row.attributes.start row.attributes.end = walk_at (signer i ▸ signed_attributes).steps b row.attributes.start (0xA0 ∷ 0x00 ∷ []) row.attributes.end (omega (arith, e.0)) e.1 in
      let first : IsAt b (algorithm_text (digest_algorithm_of s)) row.digest_algorithm.start row.attributes.start = subst (IsAt b (algorithm_text (digest_algorithm_of s)) row.digest_algorithm.start) (sym p.before) digest_text in
      let last : IsAt b (algorithm_text (signature_algorithm_of s)) row.attributes.end row.signature_algorithm.end = subst (λ n. IsAt b (algorithm_text (signature_algorithm_of s)) n row.signature_algorithm.end) h.after signature_text in
      let both = joined b (0xA0 ∷ 0x00 ∷ []) (algorithm_text (signature_algorithm_of s)) row.attributes.start row.attributes.end row.signature_algorithm.end set last in
      let all = joined b (algorithm_text (digest_algorithm_of s)) ((0xA0 ∷ 0x00 ∷ []) ++ algorithm_text (signature_algorithm_of s)) row.digest_algorithm.start row.attributes.start row.signature_algorithm.end first both in
      (record { start = row.digest_algorithm.start; end = row.signature_algorithm.end; is = all }, (row.attributes.start, e.1))

  empty_set : signed_of s ≡ [] → row.attributes.start < row.signature_algorithm.start → HasNoSet s row ⊎ HasSet b i s row → HasEmptySet b s × EmptyAt
  empty_set none less (inl n) = absurd (omega (arith, less, n.same))
  empty_set none less (inr h) = an_empty_set none h

  -- no ranges
  pub are_broken : IsDigestOrBroken row s (content_info_of v).0 None → AreRangesOrNone b v s None × ArePlacesOrNone b v i None
  are_broken (inl wrong) = (inl wrong, record { value = s; is_value = is_signer; empty_at = λ none _. absurd (wrong.0 none) })
  are_broken (inr (none, inl less)) = let e = empty_set none less p.between in (inr (none, inl e.0), record { value = s; is_value = is_signer; empty_at = λ _ _. e.1 })
  are_broken (inr (none, inr other)) = (inr (none, inr other), record { value = s; is_value = is_signer; empty_at = λ _ is_data. absurd (other is_data) })

  plain_adjacent : row.signature_algorithm.start ≤ row.attributes.start → HasNoSet s row ⊎ HasSet b i s row → row.signature_algorithm.start ≡ row.digest_algorithm.end
  plain_adjacent less (inl n) = n.same ∙ p.before
  plain_adjacent less (inr h) = absurd (omega (arith, less, h.after, h.some))

  signed_adjacent : signed_of s ≢ [] → HasNoSet s row ⊎ HasSet b i s row → row.signature_algorithm.start ≡ row.attributes.end
  signed_adjacent some (inl n) = absurd (some n.none)
  signed_adjacent some (inr h) = h.after

  -- signed attributes, adjacent to the algorithms and in their places
  abbrev AreSignedAll : Option SignedRanges → Type 0
  AreSignedAll signed = AreSignedOrNone b (signed_of s) (content_info_of v).0 signed × AreAdjacent signed row.digest_algorithm row.signature_algorithm × IfSome signed (λ r. AreSignedPlaces b v i s r)

  are_signed : (digest : Option Octets) → IsDigest row (signed_of s) (content_info_of v).0 digest → (signed : Option SignedRanges) → AreSignedFound b (signed_of s) row.attributes digest signed → AreSignedAll signed
  are_signed None d None f = ((d.0, d.1), plain_adjacent d.2 p.between, tt)
  are_signed None d (Some r) f = absurd f
  are_signed (Some digest) d None f = absurd f
  are_signed (Some digest) d (Some r) f =
      let at : IsRangeOf (signer i ▸ signed_attributes) 64 b v (signed_of s) row.attributes.start row.attributes.end = p.attributes_at d.0 in
      let text = text_at attributes.format attributes_exact (signer i ▸ signed_attributes) 64 b v (signed_of s) row.attributes.start row.attributes.end at in
      let j = f.1.index in
      let start = r.message_digest.start in
      let end = r.message_digest.end in
      let leads = leads_after (signer i ▸ signed_attributes).steps (digest_in j).steps 0 b row.attributes.start (slice_range b row.attributes.start row.attributes.end) at.place.walk start end (f.1.leads at.inside.0 at.inside.1) in
      let part = of_signer b v is.reads i s is_signer (message_digest j) digest (signed_of s, attributes_given b v is.reads i s is_signer d.0, digest_part (signed_of s) (content_info_of v).0 digest d.1 j f.1.is_index) in
      let digest_at : IsRangeOf (signer i ▸ message_digest j) 64 b v digest start end = range_is (signer i ▸ message_digest j) 64 b v is.reads digest part start end leads in
      let same : row.attributes ≡ r.attributes = sym f.0 in (
        record {
          attributes = subst (λ (g : Range ℕ). IsAt b (attributes.format.text (signed_of s)) g.start g.end) same text;
          digest = digest;
          signs = d.1;
          message_digest = octets_at (signer i ▸ message_digest j) 64 b v digest start end digest_at;
        },
        (ap (λ (g : Range ℕ). g.start) f.0 ∙ p.before, signed_adjacent d.0 p.between ∙ ap (λ (g : Range ℕ). g.end) same),
        record {
          attributes_at = subst (λ (g : Range ℕ). IsRangeOf (signer i ▸ signed_attributes) 64 b v (signed_of s) g.start g.end) same at;
          index = j;
          digest = digest;
          digest_at = digest_at;
        },
      )

  module _ (rows : List CertificateRow) (known : AreCertificateRows b v rows) where
    certificate_is : (id : signer_identifier.Value) (c : Numbered) → IsFirst (IsSignersAt id) (enumerate_from 0 (certificates_of v)) (Some c) → (row : CertificateRow) → slice_get rows c.0 ≡ Some row → IsRangeOf (certificate c.0) 64 b v c.1 row.range.start row.range.end
    certificate_is id c first row e =
        let f = first_in (IsSignersAt id) 0 (certificates_of v) c first in
        let same : c.0 ≡ f.0 = omega (arith, f.1) in
        let there : slice_get (certificates_of v) c.0 ≡ Some c.1 = subst (λ j. slice_get (certificates_of v) j ≡ Some c.1) (sym same) f.2 in
        let at = known.each c.0 (slice_get_within rows c.0 row e) row c.1 there in
        subst (λ (g : CertificateRow). IsRangeOf (certificate c.0) 64 b v c.1 g.range.start g.range.end) (slice_get_is rows c.0 row e) at

    is_certificate : (id : signer_identifier.Value) (found : Option Numbered) → IsFirst (IsSignersAt id) (enumerate_from 0 (certificates_of v)) found → (r : Option (Range ℕ)) → IsCertificateFound rows found r → IsCertificateAt b v id r × IfSome r (λ g. IsCertificatePlace b v id g)
    is_certificate id None first r f = let none : IsCertificateAt b v id None = (None, first_without_index (IsSigners id) 0 (certificates_of v) None first, tt) in subst (λ q. IsCertificateAt b v id q × IfSome q (λ g. IsCertificatePlace b v id g)) (sym f) (none, tt)
    is_certificate id (Some c) first r f =
        let at = certificate_is id c first f.0 f.1 in
        let row = f.0 in
        let is : IsCertificateAt b v id (Some row.range) = (Some c.1, first_without_index (IsSigners id) 0 (certificates_of v) (Some c) first, octets_at (certificate c.0) 64 b v c.1 row.range.start row.range.end at) in
        subst (λ q. IsCertificateAt b v id q × IfSome q (λ g. IsCertificatePlace b v id g)) (sym f.2) (is, (c, first, at))

    -- all ranges
    pub are_ranges : (digest : Option Octets) → IsDigest row (signed_of s) (content_info_of v).0 digest → (signed : Option SignedRanges) → AreSignedFound b (signed_of s) row.attributes digest signed → (content : Option (Range ℕ)) → IsContentFound b v content → (named : Option Numbered) → IsFirst (IsSignersAt (sid_of s)) (enumerate_from 0 (certificates_of v)) named → (certificate : Option (Range ℕ)) → IsCertificateFound rows named certificate → AreRangesOrNone b v s (Some (record {
      signed = signed;
      content = content;
      digest_algorithm = row.digest_algorithm;
      signature_algorithm = row.signature_algorithm;
      signature = row.signature;
      certificate = certificate;
    })) × ArePlacesOrNone b v i (Some (record {
      signed = signed;
      content = content;
      digest_algorithm = row.digest_algorithm;
      signature_algorithm = row.signature_algorithm;
      signature = row.signature;
      certificate = certificate;
    }))
    are_ranges digest d signed f content c named first found at =
        let all = are_signed digest d signed f in
        let certified = is_certificate (sid_of s) named first found at in (
          record {
            signed = all.0;
            content = c.at;
            digest_algorithm = digest_text;
            signature_algorithm = signature_text;
            adjacent = all.1;
            signature = octets_at (signer i ▸ signature) 64 b v (signature_of s) row.signature.start row.signature.end p.signature_at;
            certificate = certified.0;
          },
          record {
            value = s;
            is_value = is_signer;
            signed_at = all.2;
            content_at = c.place;
            digest_algorithm_at = p.digest_algorithm_at;
            signature_algorithm_at = p.signature_algorithm_at;
            signature_at = p.signature_at;
            certificate_at = certified.1;
          },
        )

-- a signer has a row
pub has_row : (b : List ℕ) (v : FileValue) (rows : List SignerRow) → AreSignerRows b v rows → (i : ℕ) (s : SignerValue) → slice_get (signers_of v) i ≡ Some s → length rows ≤ i → ⊥
has_row b v rows known i s is long = omega (arith, slice_get_within (signers_of v) i s is, known.count, long)

-- the row of the signer with an index
pub parts_of : (b : List ℕ) (v : FileValue) (rows : List SignerRow) → AreSignerRows b v rows → (i : ℕ) (s : SignerValue) → slice_get (signers_of v) i ≡ Some s → (row : SignerRow) → row ≡ get_or rows i row → AreParts b v i s row
parts_of b v rows known i s is row e = subst (AreParts b v i s) (sym e) (known.each i (omega (arith, slice_get_within (signers_of v) i s is, known.count)) row s is)

-- a certificate that a signer names has a row
pub has_certificate : (b : List ℕ) (v : FileValue) (rows : List CertificateRow) → AreCertificateRows b v rows → (id : signer_identifier.Value) (named : Option Numbered) → IsFirst (IsSignersAt id) (enumerate_from 0 (certificates_of v)) named → IsNoCertificateFound rows named → ⊥
has_certificate b v rows known id None first none = none
has_certificate b v rows known id (Some c) first long =
    let f = first_in (IsSignersAt id) 0 (certificates_of v) c first in
    omega (arith, slice_get_within (certificates_of v) f.0 c.1 f.2, known.count, f.1, long)

pub refused : (b : List ℕ) (first most : ℕ) (e : Error) (r : Refusal) → e ≡ Memory → r ≡ refusal_of e → IsRefusal b (HasNoRange b first most) r
refused b first most e r m g = is_refusal signed_file b (HasNoRange b first most) e r g (memory_fails (HasNoRange b first most) e m)
