-- Which certificate is each signer's, along the lists of certificates and of signers.
use Rattle.asn1_core.specs.Asn1.{SEQUENCE}
use Rattle.std.specs.Prelude.{◌≡◌, ◌≢◌, ◌↔◌, ℕ, ◌+◌, ◌<◌, ◌≤◌, IsTrue, Bool, false, List, [], ◌∷◌, ◌++◌, Option, None, Some, length, drop, get_or, map}
use Rattle.std.proofs.Common.{refl, sym, ap, subst, ◌∙◌, inl, inr, true≢false}
use Rattle.std.proofs.Math.ListN.{drop_of_length-le}
use Rattle.std.proofs.lemmas.List.{append-nil, append_assoc, map-append}
use Rattle.std.specs.List.{enumerate_from}
use Rattle.asn1_core.specs.Der.{HasNoValue, IsValueOf, ElementOctets, Octets, option_value}
use Rattle.asn1_core_element.specs.declared.error.Error.{Error}
use Rattle.asn1_core_element.specs.declared.error.Error.TheVariants.{Memory}
use Rattle.asn1_core.specs.declared.implicit.ImplicitContextTag0.{ImplicitContextTag0}
use Rattle.pkcs7_signed_crl.specs.SignerParts.{signer_identifier, signer_identifier_value}
use Rattle.pkcs7_signed_crl.specs.declared.signers.SignerIdentifier.{SignerIdentifier}
use Rattle.pkcs7_signed_crl.specs.declared.signers.SignerIdentifier.TheVariants as By
use Rattle.pkcs7_verifier.specs.Heads.{certificate_head}
use Rattle.pkcs7_verifier.specs.KeyIdentifiers.{rest_of, IsKeyIdOf, HasNone}
use Rattle.pkcs7_verifier.specs.Matches.{IsNamedBy, IsSigners, IsFirst}
use Rattle.pkcs7_verifier.proofs.Firsts.{from_here}
use Rattle.pkcs7_verifier.proofs.KeyIds.{one_key, not_none}
use Rattle.x509_base.specs.declared.digests.SubjectKeyIdentifier.{SubjectKeyIdentifier}
use Rattle.x509_pkcs7.specs.AllSigners.{AreSigners, AreSignersAt, IsSignersAt, KnownValue, Numbered, numbered_of, key_octets, IsKnownAs, IsKnownKey, IsKnownOf, IsKnownOrNone, AreKnownOf, listed, IsAppended}
use Rattle.x509_pkcs7.specs.declared.verifier.all_signers.SignerCertificate.{SignerCertificate}

no_some : {X : Type 0} {x : X} → None ≡ Some x → ⊥
no_some e = cc

some_cut : {X : Type 0} {x y : X} → Some x ≡ Some y → x ≡ y
some_cut e = cc

cons_not_nil : {X : Type 0} {x : X} {xs : List X} → x ∷ xs ≡ [] → ⊥
cons_not_nil e = cc

-- a signer that names the identifier of a key
pub known_by_key : (s : SignerIdentifier) (k : ImplicitContextTag0 SubjectKeyIdentifier) (v : KnownValue) (b : Bool) → s ≡ By.SubjectKeyIdentifier k → (IsTrue b ↔ (v.1.1 ≡ Some k.0.0.0.items)) → IsTrue b ↔ IsKnownAs (signer_identifier_value s) v
known_by_key s k v b e m = subst (λ x. IsTrue b ↔ IsKnownAs (signer_identifier_value x) v) (sym e) m

pub is_own_key : (own : Option SubjectKeyIdentifier) (x key : SubjectKeyIdentifier) (b : Bool) → own ≡ Some x → (IsTrue b ↔ (x.0.0.items ≡ key.0.0.items)) → IsTrue b ↔ (key_octets own ≡ Some key.0.0.items)
is_own_key own x key b e m = subst (λ o. IsTrue b ↔ (key_octets o ≡ Some key.0.0.items)) (sym e) (λ t. ap Some (m.0 t), λ s. m.1 (some_cut s))

pub is_no_key : (own : Option SubjectKeyIdentifier) (key : SubjectKeyIdentifier) → own ≡ None → IsTrue false ↔ (key_octets own ≡ Some key.0.0.items)
is_no_key own key e = subst (λ o. IsTrue false ↔ (key_octets o ≡ Some key.0.0.items)) (sym e) (λ t. absurd (true≢false (sym t)), λ s. absurd (no_some s))

pub key_is_known : (v : certificate_head.Value) (own : Option Octets) → IsKeyIdOf (rest_of v) own → IsKnownKey v own
key_is_known v None n key = (λ e. absurd (no_some e), λ q. absurd (not_none (rest_of v) key n q))
key_is_known v (Some own) k key = (λ e. subst (λ y. IsKeyIdOf (rest_of v) (Some y)) (some_cut e) k, λ q. ap Some (one_key (rest_of v) own key k q))

pub key_is_not_read : (v : certificate_head.Value) (e : Error) → HasNone IsKeyIdOf (rest_of v) e → e ≢ Memory → IsKnownKey v None
key_is_not_read v e h m key = (λ q. absurd (no_some q), λ q. absurd (h.none m (Some key) q))

module _ (b c : ElementOctets) (same : b ≡ c) (n : ℕ) where
  module _ (v : certificate_head.Value) (own : Option Octets) (o : IsValueOf (SEQUENCE certificate_head).format 64 b v) (k : IsKnownKey v own) where
    named_as : (id : signer_identifier.Value) → IsKnownAs id ((n, c), (v, own)) ↔ IsSigners id b
    named_as (inl i) = (λ p. (v, o.reads, p), λ s. subst (IsNamedBy (inl i)) (o.only s.0 s.1) s.2)
    named_as (inr key) = (λ p. (v, o.reads, (k key).0 p), λ s. (k key).1 (subst (IsNamedBy (inr key)) (o.only s.0 s.1) s.2))

    pub is_known : IsKnownOf (n, c) ((n, c), (v, own))
    is_known = record { same = refl; named = λ id. subst (λ d. IsKnownAs id ((n, c), (v, own)) ↔ IsSigners id d) same (named_as id) }

  pub is_not_known : (e : Error) → HasNoValue (SEQUENCE certificate_head).format 64 b e → e ≢ Memory → IsKnownOrNone (n, c) None
  is_not_known e h m id s = let r = subst (IsSigners id) (sym same) s in h.none m r.0 r.1

module _ {X : Type 0} (f : X → KnownValue) (b : Numbered) (o : Option X) (known : IsKnownOrNone b (option_value f o)) where
  pub appended_one : (x : X) (xs ys : List X) → o ≡ Some x → ys ≡ xs ++ x ∷ [] → IsAppended b (map f xs) (map f ys)
  appended_one x xs ys e g = (Some (f x), subst (λ p. IsKnownOrNone b (option_value f p)) e known, ap (map f) g ∙ map-append f xs (x ∷ []))

  pub appended_none : (xs : List X) → o ≡ None → IsAppended b (map f xs) (map f xs)
  appended_none xs e = (None, subst (λ p. IsKnownOrNone b (option_value f p)) e known, sym (append-nil (map f xs)))

goes_on : (b : Numbered) (bs : List Numbered) (m : Option KnownValue) (more : List KnownValue) → IsKnownOrNone b m → AreKnownOf bs more → AreKnownOf (b ∷ bs) (listed m ++ more)
goes_on b bs None more n a id found r = inr (n id, a id found r)
goes_on b bs (Some k) more known a id found (inl p) = inl ((known.named id).0 p.0, ap (option_value (λ x. x.0)) p.1 ∙ ap Some known.same)
goes_on b bs (Some k) more known a id found (inr p) = inr (λ s. p.0 ((known.named id).1 s), a id found p.1)

none_left : AreKnownOf [] []
none_left id found r = ap (option_value (λ x. x.0)) r

module _ {X : Type 0} (f : X → ElementOctets) (xs : List X) (i : ℕ) where
  -- the certificates, with their indexes, and those from one on
  abbrev All : List KnownValue → Type 0
  All known = AreKnownOf (enumerate_from 0 (map f xs)) known

  abbrev From : ℕ → List KnownValue → Type 0
  From j known = AreKnownOf (enumerate_from j (map f (drop j xs))) known

  pub known_step : (x : X) → i < length xs → x ≡ get_or xs i x → (b : ElementOctets) → b ≡ f x → (old new : List KnownValue) → IsAppended (i, b) old new → ((more : List KnownValue) → From i more → All (old ++ more)) → (more : List KnownValue) → From (i + 1) more → All (new ++ more)
  known_step x h g b same old new p before more a =
      let rest : List Numbered = enumerate_from (i + 1) (map f (drop (i + 1) xs)) in
      let items : (i, b) ∷ rest ≡ enumerate_from i (map f (drop i xs)) = ap (λ c. (i, c) ∷ rest) same ∙ ap (enumerate_from i) (sym (from_here f xs i x h g)) in
      let here : From i (listed p.0 ++ more) = subst (λ bs. AreKnownOf bs (listed p.0 ++ more)) items (goes_on (i, b) rest p.0 more p.1 a) in
      subst All (sym (append_assoc old (listed p.0) more) ∙ ap (λ ks. ks ++ more) (sym p.2)) (before (listed p.0 ++ more) here)

  pub known_all : (ks : List KnownValue) → length xs ≤ i → ((more : List KnownValue) → From i more → All (ks ++ more)) → All ks
  known_all ks h before = subst All (append-nil ks) (before [] (subst (λ ys. AreKnownOf (enumerate_from i (map f ys)) []) (sym (drop_of_length-le xs h)) none_left))

module _ {X : Type 0} (f : X → signer_identifier.Value) (xs : List X) (i : ℕ) (cs : List ElementOctets) where
  pub signers_step : (x : X) → i < length xs → x ≡ get_or xs i x → (first : Option Numbered) → IsFirst (IsSignersAt (f x)) (enumerate_from 0 cs) first → (old new : List (Option Numbered)) → new ≡ old ++ first ∷ [] → ((rest : List (Option Numbered)) → AreSignersAt cs (map f (drop i xs)) rest → AreSignersAt cs (map f xs) (old ++ rest)) → (rest : List (Option Numbered)) → AreSignersAt cs (map f (drop (i + 1) xs)) rest → AreSignersAt cs (map f xs) (new ++ rest)
  signers_step x h g first is old new e before rest a =
      let here : AreSignersAt cs (map f (drop i xs)) (first ∷ rest) = subst (λ ids. AreSignersAt cs ids (first ∷ rest)) (sym (from_here f xs i x h g)) (is, a) in
      subst (AreSignersAt cs (map f xs)) (sym (append_assoc old (first ∷ []) rest) ∙ ap (λ ks. ks ++ rest) (sym e)) (before (first ∷ rest) here)

  pub signers_all : (found : List (Option Numbered)) → length xs ≤ i → ((rest : List (Option Numbered)) → AreSignersAt cs (map f (drop i xs)) rest → AreSignersAt cs (map f xs) (found ++ rest)) → AreSignersAt cs (map f xs) found
  signers_all found h before = subst (AreSignersAt cs (map f xs)) (append-nil found) (before [] (subst (λ ys. AreSignersAt cs (map f ys) []) (sym (drop_of_length-le xs h)) refl))

-- without the indexes
module _ (P : ElementOctets → Type 0) where
  pub first_without_index : (n : ℕ) (cs : List ElementOctets) (found : Option Numbered) → IsFirst (λ c. P c.1) (enumerate_from n cs) found → IsFirst P cs (option_value (λ c. c.1) found)
  first_without_index n [] found e = ap (option_value (λ c. c.1)) e
  first_without_index n (c ∷ cs) found (inl p) = inl (p.0, ap (option_value (λ d. d.1)) p.1)
  first_without_index n (c ∷ cs) found (inr p) = inr (p.0, first_without_index (n + 1) cs found p.1)

same_element : (found : Option SignerCertificate) → option_value (λ c. c.1) (option_value numbered_of found) ≡ option_value (λ f. f.element.now.0.items) found
same_element None = refl
same_element (Some f) = refl

pub signers_without_index : (cs : List ElementOctets) (ids : List signer_identifier.Value) (found : List (Option SignerCertificate)) → AreSignersAt cs ids (map (λ f. option_value numbered_of f) found) → AreSigners cs ids (map (λ f. option_value (λ e. e.element.now.0.items) f) found)
signers_without_index cs [] [] a = refl
signers_without_index cs [] (f ∷ found) a = absurd (cons_not_nil a)
signers_without_index cs (id ∷ ids) [] a = a
signers_without_index cs (id ∷ ids) (f ∷ found) a = (subst (IsFirst (IsSigners id) cs) (same_element f) (first_without_index (IsSigners id) 0 cs (option_value numbered_of f) a.0), signers_without_index cs ids found a.1)
