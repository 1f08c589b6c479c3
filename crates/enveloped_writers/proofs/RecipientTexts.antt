-- What recipients are read of and written as.
use Rattle.std.specs.Prelude.{◌≡◌, ◌⊎◌, ◌<◌, ℕ, true, List, [], ◌∷◌, None}
use Rattle.std.proofs.Common.{ap, arith, inl, inr, refl, subst, sym, ◌++◌, ◌∙◌}
use Rattle.asn1_borrowed.proofs.Encodings.{is_encoding}
use Rattle.asn1_borrowed.specs.Written.{IsEncodingOf, IsNotWritten}
use Rattle.asn1_core.specs.Asn1.{SEQUENCE}
use Rattle.asn1_core.specs.Der.{Octets, element, number_below}
use Rattle.asn1_core_element.specs.Element.{head, length_octets}
use Rattle.asn1_core_element.specs.declared.error.Error.{Error}
use Rattle.asn1_leaves.specs.Asn1.{INTEGER}
use Rattle.asn1_sets.proofs.NotEncoded.{no_memory}
use Rattle.enveloped_writers.specs.Elements.{IsOfVersion, IsRecipient, is_other}
use Rattle.enveloped_writers.specs.Recipients.{IsKekIn, IsNotRecipient, IsRecipientBy, IsRecipientIn, IsRecipientText, IsTransportIn, RECIPIENT, key_transport, transport_version}
use Rattle.enveloped_writers.specs.declared.recipients.NotRecipient.{NotRecipient}
use Rattle.enveloped_writers.specs.declared.recipients.Recipient.{Recipient}
use Rattle.enveloped_writers.specs.declared.recipients.RecipientName.{RecipientName}
use Rattle.enveloped_writers.specs.declared.recipients.RecipientName.TheVariants.{KeyPair, Kek}
use Rattle.pkcs7_enveloped.specs.Recipients.{kek_identifier, recipient_info}
use Rattle.pkcs7_signed_crl.specs.SignerParts.{signer_identifier}
use Rattle.pkcs7_verifier.specs.Heads.{certificate_head}
use Rattle.signed_writers.proofs.Normals.{algorithm_normal, identifier_normal}
use Rattle.signed_writers.specs.Signers.{IsIdentifierIn}
use Rattle.signed_writers.specs.declared.signers.Identifier.{Identifier as Name}
use Rattle.signed_writers.specs.declared.signers.Identifier.TheVariants.{Certificate, Key}
use Rattle.signer_ranges.specs.SignerRoutes.{ALGORITHM}
use Rattle.x509_base.specs.Algorithms.{algorithm_identifier}
use Rattle.x509_base.specs.Names.{name as names}

-- what is read can be written
identifier_formed : (name : Name) (i : signer_identifier.Value) → IsIdentifierIn name i → signer_identifier.format.IsWellFormed 64 i
identifier_formed (Certificate x) (inl i) (v, r, is) =
    let h = (SEQUENCE certificate_head).law.components.well_formed 64 x.now v r in
    (subst ((SEQUENCE names).format.IsWellFormed 64) is.0 h.0.1.1.1.0, (subst (INTEGER.format.IsWellFormed 64) is.1 h.0.1.0, tt))
identifier_formed (Certificate x) (inr k) is = absurd is
identifier_formed (Key x) (inl i) is = absurd is
identifier_formed (Key x) (inr k) is = tt

pub algorithm_formed : (x : Octets) (a : algorithm_identifier.Value) → ALGORITHM.format.Reads 64 x a → ALGORITHM.format.IsWellFormed 64 a
algorithm_formed x a r = ALGORITHM.law.components.well_formed 64 x a r

version_low : (i : signer_identifier.Value) → transport_version i < 6
version_low (inl i) = omega arith
version_low (inr k) = omega arith

module _ (algorithm key : Octets) where
  transport_formed : (name : Name) (v : key_transport.Value) → IsTransportIn name algorithm key v → (SEQUENCE key_transport).format.IsWellFormed 64 v
  transport_formed name v is =
      (subst (λ n. n < 6) (sym is.version) (version_low v.1.0), (identifier_formed name v.1.0 is.identifier, (algorithm_formed algorithm v.1.1.0 is.algorithm, (tt, tt))))

  kek_formed : (name : Octets) (v : recipient_info.Value) → IsKekIn name algorithm key v → recipient_info.format.IsWellFormed 64 v
  kek_formed name v is = (
    subst (λ n. n < 6) (sym is.version) (omega arith),
    (subst ((SEQUENCE kek_identifier).format.IsWellFormed 64) (sym is.identifier) (tt, (tt, (tt, tt))), (algorithm_formed algorithm v.1.1.0 is.algorithm, (tt, tt))),
  )

  by_formed : (name : RecipientName) (v : RECIPIENT.Value) → IsRecipientBy name algorithm key v → RECIPIENT.format.IsWellFormed 64 v
  by_formed (KeyPair x) (inl v) is = transport_formed x v is
  by_formed (KeyPair x) (inr v) is = absurd is
  by_formed (Kek x) (inl v) is = absurd is
  by_formed (Kek x) (inr v) is = kek_formed x.now v is

  -- all parts are kept
  transport_normal : (v : key_transport.Value) → (SEQUENCE key_transport).format.normal v ≡ v
  transport_normal (n, (i, (a, (k, u)))) =
      ap (λ x. (n, (x, (ALGORITHM.format.normal a, (k, u))))) (identifier_normal i) ∙ ap (λ x. (n, (i, (x, (k, u))))) (algorithm_normal a)

  kek_normal : (name : Octets) (v : recipient_info.Value) → v.1.0 ≡ (name, (None, (None, tt))) → recipient_info.format.normal v ≡ v
  kek_normal name (n, (i, (a, (k, u)))) e =
      ap (λ x. (n, (x, (ALGORITHM.format.normal a, (k, u))))) (subst (λ x. (SEQUENCE kek_identifier).format.normal x ≡ x) (sym e) refl)
      ∙ ap (λ x. (n, (i, (x, (k, u))))) (algorithm_normal a)

  by_normal : (name : RecipientName) (v : RECIPIENT.Value) → IsRecipientBy name algorithm key v → RECIPIENT.format.normal v ≡ v
  by_normal (KeyPair x) (inl v) is = ap inl (transport_normal v)
  by_normal (KeyPair x) (inr v) is = absurd is
  by_normal (Kek x) (inl v) is = absurd is
  by_normal (Kek x) (inr v) is = ap inr (kek_normal x.now v is.identifier)

-- what is written is a recipient as enveloped data take it
zero_text : (number_below 6).text 0 ≡ 0x02 ∷ 0x01 ∷ 0 ∷ []
unfolding head length_octets
zero_text = refl

two_text : (number_below 6).text 2 ≡ 0x02 ∷ 0x01 ∷ 2 ∷ []
unfolding head length_octets
two_text = refl

kek_tag : (v : recipient_info.Value) → is_other (recipient_info.format.text v) ≡ true
unfolding head
kek_tag v = refl

module _ (v : key_transport.Value) (rest : List ℕ) (e : (SEQUENCE key_transport).format.text v ≡ element 0x30 ((number_below 6).text v.0 ++ rest)) where
  of_version : (n : ℕ) → v.0 ≡ n → (number_below 6).text n ≡ 0x02 ∷ 0x01 ∷ n ∷ [] → IsOfVersion n ((SEQUENCE key_transport).format.text v)
  of_version n same text = ((number_below 6).text v.0 ++ rest, e, (rest, ap (λ k. (number_below 6).text k ++ rest) same ∙ ap (λ x. x ++ rest) text))

  of_identifier : (i : signer_identifier.Value) → v.0 ≡ transport_version i → IsOfVersion 0 ((SEQUENCE key_transport).format.text v) ⊎ IsOfVersion 2 ((SEQUENCE key_transport).format.text v)
  of_identifier (inl i) same = inl (of_version 0 same zero_text)
  of_identifier (inr k) same = inr (of_version 2 same two_text)

has_version : (v : key_transport.Value) → v.0 ≡ transport_version v.1.0 → IsOfVersion 0 ((SEQUENCE key_transport).format.text v) ⊎ IsOfVersion 2 ((SEQUENCE key_transport).format.text v)
has_version v same = of_identifier v _ refl v.1.0 same

is_recipient_by : (name : RecipientName) (algorithm key : Octets) (v : RECIPIENT.Value) → IsRecipientBy name algorithm key v → (is_other (RECIPIENT.format.text v) ≡ true) ⊎ (IsOfVersion 0 (RECIPIENT.format.text v) ⊎ IsOfVersion 2 (RECIPIENT.format.text v))
is_recipient_by (KeyPair x) algorithm key (inl v) is = inr (has_version v is.version)
is_recipient_by (KeyPair x) algorithm key (inr v) is = absurd is
is_recipient_by (Kek x) algorithm key (inl v) is = absurd is
is_recipient_by (Kek x) algorithm key (inr v) is = inl (kek_tag v)

is_recipient : (x : Recipient) (v : RECIPIENT.Value) → IsRecipientIn x v → (text : List ℕ) → IsEncodingOf RECIPIENT.format v text → IsRecipient text
is_recipient x v is text encoding =
    let e = RECIPIENT.law.element 64 text v encoding.reads.reads in (
      record { tag = e.tag; contents = e.contents; is_tag = e.is_tag; is = e.is; allowed = e.is_tag },
      subst (λ t. (is_other t ≡ true) ⊎ (IsOfVersion 0 t ⊎ IsOfVersion 2 t)) (sym encoding.text_is) (is_recipient_by x.name x.algorithm.now x.key.now v is),
    )

-- what is written, and why nothing is
module _ (x : Recipient) (v : RECIPIENT.Value) (is : IsRecipientIn x v) where
  pub is_text : (text : List ℕ) → RECIPIENT.format.IsWellFormed 64 v × (text ≡ RECIPIENT.format.text v) → IsRecipientText x text
  is_text text h =
      let encoding = is_encoding RECIPIENT.format RECIPIENT.law v (by_normal x.algorithm.now x.key.now x.name v is) h.0 text h.1 in
      (v, is, encoding, is_recipient x v is text encoding)

  pub not_text : (w : NotRecipient) (e : Error) → w.error ≡ e → IsNotWritten RECIPIENT.format v e → IsNotRecipient x w
  not_text w e same (inl n) = absurd (n.1 (by_formed x.algorithm.now x.key.now x.name v is))
  not_text w e same (inr (inl n)) = record { long = λ l. (v, is, n.2); wrong = λ l m. absurd (l (same ∙ n.1)) }
  not_text w e same (inr (inr n)) = record { long = λ l. absurd (no_memory w.error (same ∙ n) l); wrong = λ l m. absurd (m (same ∙ n)) }
