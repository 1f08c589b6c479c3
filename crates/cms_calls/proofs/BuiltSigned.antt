-- What signed data is written of, and why it isn't.
use Rattle.std.specs.Prelude.{◌≡◌, ◌≢◌, ◌⊎◌, ◌<◌, ℕ, List, [], ◌∷◌, length, slice_index_or, Option, None, Some, Result, Ok, Err, MatchResult}
use Rattle.std.specs.List.{AllZip}
use Rattle.std.proofs.Common.{ap, inl, inr, refl, subst, sym, ◌∙◌}
use Rattle.std.proofs.lemmas.List.{get_or_default}
use Rattle.std.proofs.lemmas.Option.{none-some}
use Rattle.asn1_core.specs.Asn1.{SEQUENCE}
use Rattle.asn1_core.specs.Der.{IsElement, IsOid, IsTagByte, octet_string, option_value}
use Rattle.asn1_core_element.specs.declared.error.Error.TheVariants.{Invalid, TooLong, Memory}
use Rattle.asn1_core_format.specs.Components.{AllIf}
use Rattle.asn1_core_oid.specs.Known.{data_oid}
use Rattle.call_values.proofs.BuiltLists.{row_at}
use Rattle.call_values.proofs.GivenElements.{less, not_all, row_without, same_octets}
use Rattle.call_values.proofs.GivenParts.{same_part}
use Rattle.cms_calls.specs.BuiltSigned.{AreGivenBy, GivesNoSigned, GivesPart, GivesSignerPart, HasSignerPart, HasSignerParts, IsContentOf, IsIdentifierOf, IsInfoOf, IsNoSigned, IsSignerBy, IsWrong, Rows}
use Rattle.attribute_writers.specs.Refusals.{IsWithout}
use Rattle.call_values.specs.Given.{HasNone, IfGiven, IsPartOf}
use Rattle.cms_calls.specs.GivenSigned.{IsNoInfo, IsNoItem, IsNoSigner as NoSignerIs, IsNoSignerIn, IsPartAt, IsUnreadIn, IsWhy, wrong_part}
use Rattle.call_values.specs.Read.{HasOne}
use Rattle.cms_calls.specs.declared.built_signed.NoSigned.{NoSigned}
use Rattle.cms_calls.specs.declared.built_signed.NoSigned.TheVariants.{Part, NotWritten}
use Rattle.cms_calls.specs.declared.built_signed.SignedGiven.{SignedGiven}
use Rattle.cms_calls.specs.declared.built_signed.SignerGiven.{SignerGiven}
use Rattle.cms_calls.specs.declared.built_signed.WrongPart.{WrongPart}
use Rattle.cms_calls.specs.declared.built_signed.WrongPart.TheVariants as Wrong
use Rattle.pkcs7_signed_crl.specs.SignerParts.{signer_identifier}
use Rattle.pkcs7_verifier.specs.Heads.{certificate_head}
use Rattle.signed_writers.proofs.OneSigner.{one_signer}
use Rattle.signed_writers.specs.Signed as Written
use Rattle.signed_writers.specs.Signed.{CanBeWritten, GivenParts, IsChoice, IsConsistent, IsRevocation, IsSigned, type_of}
use Rattle.signed_writers.specs.Signers.{AreAttributesIn, IsIdentifierIn, IsNoSigner, IsReadAs, IsSignerIn, IsWrongPart}
use Rattle.signed_writers.specs.Values.{content_octets}
use Rattle.signed_writers.specs.declared.checks.NotSigned.{NotSigned}
use Rattle.signed_writers.specs.declared.checks.SignedPart.{SignedPart}
use Rattle.signed_writers.specs.declared.checks.SignedPart.TheVariants as Places
use Rattle.signed_writers.specs.declared.content.Content.{Content}
use Rattle.signed_writers.specs.declared.content.Content.TheVariants.{Octets as InOctets, Element}
use Rattle.signed_writers.specs.declared.content.ContentInfo.{ContentInfo}
use Rattle.signed_writers.specs.declared.signers.Identifier.{Identifier}
use Rattle.signed_writers.specs.declared.signers.Identifier.TheVariants.{Certificate, Key}
use Rattle.signed_writers.specs.declared.signers.NotRead.{NotRead}
use Rattle.signed_writers.specs.declared.signers.Signer.{Signer}
use Rattle.signed_writers.specs.declared.signers.SignerPart.{SignerPart}
use Rattle.signed_writers.specs.declared.signers.SignerPart.TheVariants as Parts
use Rattle.signer_ranges.specs.SignerRoutes.{ALGORITHM, SignerValue}
use Rattle.signer_ranges.specs.Signers.{digest_algorithm_of, sid_of, signature_algorithm_of, signed_of}
use Rattle.x509_pkcs7.specs.RawAttributes.{unsigned_of}

without_at : {X : Type 0} (P : X → Type 0) (xs : List X) (i : ℕ) (d : X) → i < length xs → (P (slice_index_or xs i d) → ⊥) → IsWithout P xs i
without_at P xs i d l none = record { item = slice_index_or xs i d; inside = l; is = get_or_default xs i d (slice_index_or xs i d) l; none = none }

module _ (b : List ℕ) where
  -- Of any parts that a row gives the same signer is read.
  module _ (row : SignerGiven) where
    same_name : (x y : Identifier) (i : signer_identifier.Value) → IsIdentifierOf b row x → IsIdentifierOf b row y → IsIdentifierIn x i → IsIdentifierIn y i
    same_name (Certificate x) (Certificate y) (inl i) is its h = (h.0, subst (λ o. (SEQUENCE certificate_head).format.Reads 64 o h.0) (same_part b row.certificate y.now x.now its.1 is.1) h.1, h.2)
    same_name (Certificate x) (Certificate y) (inr k) is its h = absurd h
    same_name (Certificate x) (Key y) i is its h = absurd (its.0 is.0)
    same_name (Key x) (Certificate y) i is its h = absurd (is.0 its.0)
    same_name (Key x) (Key y) (inl i) is its h = absurd h
    same_name (Key x) (Key y) (inr k) is its h = h ∙ same_part b row.key_identifier y.now x.now its.1 is.1

    pub same_signer : (x y : Signer) (s : SignerValue) → HasSignerParts b row x → HasSignerParts b row y → IsSignerIn x s → IsSignerIn y s
    same_signer x y s is its h = record {
      version = h.version;
      identifier = same_name x.identifier y.identifier (sid_of s) is.identifier its.identifier h.identifier;
      digest_algorithm = subst (λ o. ALGORITHM.format.Reads 64 o (digest_algorithm_of s)) (same_part b row.digest_algorithm y.digest_algorithm.now x.digest_algorithm.now its.digest_algorithm is.digest_algorithm) h.digest_algorithm;
      signed = subst (λ o. AreAttributesIn o (signed_of s)) (same_octets b row.has_signed_attributes row.signed_attributes (option_value (λ o. o.now) x.signed_attributes) (option_value (λ o. o.now) y.signed_attributes) is.signed its.signed) h.signed;
      signature_algorithm = subst (λ o. ALGORITHM.format.Reads 64 o (signature_algorithm_of s)) (same_part b row.signature_algorithm y.signature_algorithm.now x.signature_algorithm.now its.signature_algorithm is.signature_algorithm) h.signature_algorithm;
      signature = h.signature ∙ same_part b row.signature y.signature.now x.signature.now its.signature is.signature;
      unsigned = subst (λ o. AreAttributesIn o (unsigned_of s)) (same_octets b row.has_unsigned_attributes row.unsigned_attributes (option_value (λ o. o.now) x.unsigned_attributes) (option_value (λ o. o.now) y.unsigned_attributes) is.unsigned its.unsigned) h.unsigned;
    }

    -- a part that a row gives is that of any octets that it gives
    not_wrong : (x : Signer) → HasSignerParts b row x → (part : SignerPart) → HasSignerPart b part row → IsWrongPart x part → ⊥
    not_wrong x is Parts.Identifier (y, its, (i, h)) n = n (i, same_name y x.identifier i its is.identifier h)
    not_wrong x is Parts.DigestAlgorithm (y, at, h) n = n (subst (IsReadAs ALGORITHM.format) (same_part b row.digest_algorithm x.digest_algorithm.now y is.digest_algorithm at) h)
    not_wrong x is Parts.SignedAttributes (o, at, h) n = n (subst (λ q. HasOne (AreAttributesIn q)) (same_octets b row.has_signed_attributes row.signed_attributes o (option_value (λ q. q.now) x.signed_attributes) at is.signed) h)
    not_wrong x is Parts.SignatureAlgorithm (y, at, h) n = n (subst (IsReadAs ALGORITHM.format) (same_part b row.signature_algorithm x.signature_algorithm.now y is.signature_algorithm at) h)
    not_wrong x is Parts.Signature g n = n
    not_wrong x is Parts.UnsignedAttributes (o, at, h) n = n (subst (λ q. HasOne (AreAttributesIn q)) (same_octets b row.has_unsigned_attributes row.unsigned_attributes o (option_value (λ q. q.now) x.unsigned_attributes) at is.unsigned) h)

    -- the signer that is read of its parts
    pub signer_read : {A : Type 0} (value : A → SignerValue) (x : Signer) → HasSignerParts b row x → (res : Result A NotRead) → MatchResult res (λ s. IsSignerIn x (value s)) (λ w. IsNoSigner x w) → MatchResult res (λ s. IsSignerBy b row (value s)) (λ w. IsUnreadIn b row w)
    signer_read value x parts (Ok s) h = (x, parts, h)
    signer_read value x parts (Err w) h = (h.0, λ m g. not_wrong x parts w.part g (h.1 m))

    -- a part whose range isn't in the input
    absent : (part e : SignerPart) → e ≡ part → (HasSignerPart b part row → ⊥) → HasSignerPart b e row → ⊥
    absent part e same none g = none (subst (λ p. HasSignerPart b p row) same g)

    pub no_identifier : (e : SignerPart) → (e ≡ Parts.Identifier) × HasNone (IsIdentifierOf b row) → HasSignerPart b e row → ⊥
    no_identifier e n = absent Parts.Identifier e n.0 (λ g. n.1 g.0 g.1)

    pub no_digest_algorithm : (e : SignerPart) → (e ≡ Parts.DigestAlgorithm) × HasNone (IsPartOf b row.digest_algorithm) → HasSignerPart b e row → ⊥
    no_digest_algorithm e n = absent Parts.DigestAlgorithm e n.0 (λ g. n.1 g.0 g.1)

    pub no_signed_attributes : (e : SignerPart) → (e ≡ Parts.SignedAttributes) × HasNone (IfGiven row.has_signed_attributes (IsPartOf b row.signed_attributes)) → HasSignerPart b e row → ⊥
    no_signed_attributes e n = absent Parts.SignedAttributes e n.0 (λ g. n.1 g.0 g.1)

    pub no_signature_algorithm : (e : SignerPart) → (e ≡ Parts.SignatureAlgorithm) × HasNone (IsPartOf b row.signature_algorithm) → HasSignerPart b e row → ⊥
    no_signature_algorithm e n = absent Parts.SignatureAlgorithm e n.0 (λ g. n.1 g.0 g.1)

    pub no_signature : (e : SignerPart) → (e ≡ Parts.Signature) × HasNone (IsPartOf b row.signature) → HasSignerPart b e row → ⊥
    no_signature e n = absent Parts.Signature e n.0 (λ g. n.1 g.0 g.1)

    pub no_unsigned_attributes : (e : SignerPart) → (e ≡ Parts.UnsignedAttributes) × HasNone (IfGiven row.has_unsigned_attributes (IsPartOf b row.unsigned_attributes)) → HasSignerPart b e row → ⊥
    no_unsigned_attributes e n = absent Parts.UnsignedAttributes e n.0 (λ g. n.1 g.0 g.1)

    -- a signer has all parts
    has_part : (x : Signer) → HasSignerParts b row x → (s : SignerValue) → IsSignerIn x s → (part : SignerPart) → HasSignerPart b part row
    has_part x is s h Parts.Identifier = (x.identifier, is.identifier, (sid_of s, h.identifier))
    has_part x is s h Parts.DigestAlgorithm = (x.digest_algorithm.now, is.digest_algorithm, (digest_algorithm_of s, h.digest_algorithm))
    has_part x is s h Parts.SignedAttributes = (option_value (λ q. q.now) x.signed_attributes, is.signed, (signed_of s, h.signed))
    has_part x is s h Parts.SignatureAlgorithm = (x.signature_algorithm.now, is.signature_algorithm, (signature_algorithm_of s, h.signature_algorithm))
    has_part x is s h Parts.Signature = (x.signature.now, is.signature)
    has_part x is s h Parts.UnsignedAttributes = (option_value (λ q. q.now) x.unsigned_attributes, is.unsigned, (unsigned_of s, h.unsigned))

    same_by : (s t : SignerValue) → IsSignerBy b row s → IsSignerBy b row t → t ≡ s
    same_by s t (x, parts, is) (y, more, its) = one_signer x t s (same_signer y x t more parts its) is

  pub no_signer_at : (rows : List SignerGiven) (i : ℕ) (d : SignerGiven) (w : NotRead) (no : NoSigned) → i < length rows → IsUnreadIn b (slice_index_or rows i d) w → NoSignerIs i w no → IsNoSignerIn b rows no
  no_signer_at rows i d w (Part wrong) l unread is = (i, w.part, is.1, without_at (HasSignerPart b w.part) rows i d l (unread.1 is.0))
  no_signer_at rows i d w (NotWritten e) l unread is = is

  same_content : (row : SignedGiven) (o p : Option Content) → IsContentOf b row o → IsContentOf b row p → option_value content_octets o ≡ option_value content_octets p
  same_content row None None is its = refl
  same_content row None (Some (InOctets y)) is its = absurd (its.0 is)
  same_content row None (Some (Element y)) is its = absurd (its.0 is)
  same_content row (Some (InOctets x)) None is its = absurd (is.0 its)
  same_content row (Some (InOctets x)) (Some (InOctets y)) is its = ap (λ o. Some (octet_string.text o)) (same_part b row.content y.now x.now its.2 is.2)
  same_content row (Some (InOctets x)) (Some (Element y)) is its = absurd (its.1 is.1)
  same_content row (Some (Element x)) None is its = absurd (is.0 its)
  same_content row (Some (Element x)) (Some (InOctets y)) is its = absurd (is.1 its.1)
  same_content row (Some (Element x)) (Some (Element y)) is its = ap Some (same_part b row.content y.now x.now its.2 is.2)

  no_content : (row : SignedGiven) (o p : Option Content) → IsContentOf b row o → IsContentOf b row p → p ≡ None → o ≡ None
  no_content row None None is its none = refl
  no_content row None (Some y) is its none = refl
  no_content row (Some (InOctets x)) None is its none = absurd (is.0 its)
  no_content row (Some (Element x)) None is its none = absurd (is.0 its)
  no_content row (Some x) (Some y) is its none = absurd (none-some y (sym none))

  -- signers are given by rows alone
  same_signed : (row : SignedGiven) (i : ContentInfo) (o : Option Content) (rows : List SignerGiven) (s : List SignerValue) → IsInfoOf b row i → IsContentOf b row o → AllZip (IsSignerBy b) rows s → (rows ≡ [] → (o ≡ None) × IsPartOf b row.content_type data_oid) → IsSigned i s
  same_signed row i o [] [] is its all alone = (let a = alone refl in (same_part b row.content_type data_oid i.content_type.now a.1 is.content_type, no_content row i.content o is.content its a.0))
  same_signed row i o [] (s ∷ ss) is its all alone = tt
  same_signed row i o (r ∷ rs) [] is its all alone = absurd all
  same_signed row i o (r ∷ rs) (s ∷ ss) is its all alone = tt

  is_alone : (rows : List SignerGiven) (s : List SignerValue) (i : ContentInfo) → AllZip (IsSignerBy b) rows s → IsSigned i s → rows ≡ [] → (i.content ≡ None) × (i.content_type.now ≡ data_oid)
  is_alone [] [] i all signed e = (signed.1, signed.0)
  is_alone [] (s ∷ ss) i all signed e = absurd all
  is_alone (r ∷ rs) s i all signed e = absurd (let n : r ∷ rs ≡ [] = e in cc)

  module _ (rows : Rows) where
    -- the parts of a signer that can be written
    consistent_part : (given : GivenParts) → AreGivenBy b rows given → (part : SignerPart) (row : SignerGiven) → ((s : SignerValue) × IsSignerBy b row s × IsConsistent (type_of given) s) → GivesSignerPart b rows.info.content_type part row
    consistent_part given are part row (s, by, consistent) = (
      has_part row by.0 by.1 s by.2 part,
      λ _ other its t at.
          (let here : IsConsistent t s = subst (λ u. IsConsistent u s) (same_part b rows.info.content_type t (type_of given) at.0 are.info.content_type) consistent in
          subst (IsConsistent t) (sym (same_by row s other by its)) here),
    )

    -- a part that is wrong is of nothing that can be written
    none_given : (wrong : WrongPart) → IsWrong b rows wrong → GivesNoSigned b rows
    none_given Wrong.ContentType none given are can = none (type_of given) (are.info.content_type, can.content.0)
    none_given Wrong.Content none given are can =
        none (
          given.info.content,
          are.info.content,
          can.content.1.0,
          λ e. (let a = is_alone rows.signers given.signers given.info are.signers can.signed e in (a.0, subst (IsPartOf b rows.info.content_type) a.1 are.info.content_type)),
        )
    none_given (Wrong.Certificate i) w given are can = not_all (IsPartOf b) IsChoice (GivesPart b IsChoice) (λ r g. g) rows.certificates given.certificates i w are.certificates can.certificates
    none_given (Wrong.Crl i) w given are can = not_all (IsPartOf b) IsRevocation (GivesPart b IsRevocation) (λ r g. g) rows.crls given.crls i w are.crls can.crls
    none_given (Wrong.Signer i part) w given are can =
        not_all (IsSignerBy b) (IsConsistent (type_of given)) (GivesSignerPart b rows.info.content_type part) (consistent_part given are part) rows.signers given.signers i w are.signers can.signers

    no_part : (wrong : WrongPart) → IsWrong b rows wrong → IsNoSigned b rows (Part wrong)
    no_part wrong is = (is, none_given wrong is)

    told : (wrong other : WrongPart) → wrong ≡ other → IsWrong b rows other → IsNoSigned b rows (Part wrong)
    told wrong other same is = no_part wrong (subst (IsWrong b rows) (sym same) is)

    -- a range isn't in the input, or a signer isn't read
    pub no_info : (wrong : WrongPart) → IsNoInfo b rows.info wrong → IsNoSigned b rows (Part wrong)
    no_info wrong (inl n) = told wrong Wrong.ContentType n.0 (λ x o. n.1 x o.0)
    no_info wrong (inr n) = told wrong Wrong.Content n.0 (λ g. n.1 g.0 g.1)

    pub no_certificates : (no : NoSigned) → IsNoItem (λ part. HasOne (IsPartOf b part)) (IsPartAt Places.Certificate) rows.certificates no → IsNoSigned b rows no
    no_certificates (Part wrong) (i, same, first) = told wrong (Wrong.Certificate i) same (less (λ part. HasOne (IsPartOf b part)) (GivesPart b IsChoice) rows.certificates i (λ part g. (g.0, g.1)) first.one)
    no_certificates (NotWritten e) memory = inr memory

    pub no_crls : (no : NoSigned) → IsNoItem (λ part. HasOne (IsPartOf b part)) (IsPartAt Places.RevocationList) rows.crls no → IsNoSigned b rows no
    no_crls (Part wrong) (i, same, first) = told wrong (Wrong.Crl i) same (less (λ part. HasOne (IsPartOf b part)) (GivesPart b IsRevocation) rows.crls i (λ part g. (g.0, g.1)) first.one)
    no_crls (NotWritten e) memory = inr memory

    pub no_signers : (no : NoSigned) → IsNoSignerIn b rows.signers no → IsNoSigned b rows no
    no_signers (Part wrong) (i, part, same, without) = told wrong (Wrong.Signer i part) same (less (HasSignerPart b part) (GivesSignerPart b rows.info.content_type part) rows.signers i (λ row g. g.0) without)
    no_signers (NotWritten e) memory = inr memory

    -- what is given isn't written
    module _ (given : GivenParts) (are : AreGivenBy b rows given) where
      type_is : (x : List ℕ) → IsPartOf b rows.info.content_type x → x ≡ type_of given
      type_is x at = same_part b rows.info.content_type (type_of given) x are.info.content_type at

      refused : (part : SignedPart) (i : ℕ) → Written.IsWrong given part i → IsWrong b rows (wrong_part part i)
      refused Places.ContentType i n = λ x o. n.1 (subst IsOid (type_is x o.0) o.1)
      refused Places.Content i n = λ g.
          n.1 (
            subst (AllIf (IsElement IsTagByte)) (same_content rows.info g.0 given.info.content g.1 are.info.content) g.2,
            same_signed rows.info given.info g.0 rows.signers given.signers are.info g.1 are.signers g.3,
          )
      refused Places.Certificate i n = row_without (IsPartOf b) IsChoice (same_part b) rows.certificates given.certificates i are.certificates n.one
      refused Places.RevocationList i n = row_without (IsPartOf b) IsRevocation (same_part b) rows.crls given.crls i are.crls n.one
      refused Places.Signer i n =
          let w = n.1.one in
          let row = row_at (IsSignerBy b) rows.signers given.signers i w.item are.signers w.inside w.is in
          record { item = row.0; inside = row.1; is = row.2; none = λ g. w.none (g.1 refl w.item row.3 (type_of given) (are.info.content_type, n.0)) }
      refused Places.Whole i n = absurd n

      by_kind : (w : NotSigned) → Written.IsNotSigned given w → (w.error ≢ TooLong) × (w.error ≢ Memory) → (w.error ≡ Invalid) ⊎ ((w.error ≡ TooLong) ⊎ (w.error ≡ Memory)) → IsWrong b rows (wrong_part w.part w.index)
      by_kind w not why (inl invalid) = refused w.part w.index (not.wrong invalid)
      by_kind w not why (inr (inl long)) = absurd (why.0 long)
      by_kind w not why (inr (inr memory)) = absurd (why.1 memory)

      pub not_built : (w : NotSigned) → Written.IsNotSigned given w → (no : NoSigned) → IsWhy w no → IsNoSigned b rows no
      not_built w not (Part wrong) why = told wrong (wrong_part w.part w.index) why.2 (by_kind w not (why.0, why.1) not.refused.kind)
      not_built w not (NotWritten e) (same, inl long) = inl (long, (given, are, not.refused.long (sym same ∙ long)))
      not_built w not (NotWritten e) (same, inr memory) = inr memory
