-- The extensions of a certificate and the identifier of its key: there is one answer at most.
use Rattle.asn1_core.specs.Asn1.{SEQUENCE}
use Rattle.std.specs.Prelude.{◌≡◌, ◌≢◌, ◌↔◌, ℕ, IsTrue, Bool, true, false, List, Option, None, Some, Result, Ok, Err, MatchResult, map}
use Rattle.std.proofs.Common.{refl, sym, ap, subst, ◌∙◌, inl, inr, true≢false}
use Rattle.std.proofs.lemmas.Bool.{false_from_ne_true}
use Rattle.std.proofs.lemmas.Slice.Eq.{bytes_eq-Decides}
use Rattle.std.specs.List.{find}
use Rattle.std.specs.Str.{bytes_eq}
use Rattle.asn1_core.specs.Der.{HasNoValue, octet_string, lawful_octet_string, Octets, ElementOctets, IsValueOf, option_value}
use Rattle.asn1_core_element.specs.declared.error.Error.{Error}
use Rattle.asn1_core_element.specs.declared.error.Error.TheVariants.{Memory}
use Rattle.asn1_core.specs.declared.implicit.ImplicitContextTag0.{ImplicitContextTag0}
use Rattle.pkcs7_signed_crl.specs.SignerParts.{signer_identifier, signer_identifier_value}
use Rattle.pkcs7_signed_crl.specs.declared.signers.SignerIdentifier.{SignerIdentifier}
use Rattle.pkcs7_signed_crl.specs.declared.signers.SignerIdentifier.TheVariants as By
use Rattle.x509_base.specs.Extensions.{extension, extension_value, extensions_value}
use Rattle.x509_base.specs.declared.extensions.Extension.{Extension}
use Rattle.x509_base.specs.declared.extensions.Extensions.{Extensions}
use Rattle.x509_base.specs.declared.digests.SubjectKeyIdentifier.{SubjectKeyIdentifier}
use Rattle.pkcs7_verifier.specs.Heads.{certificate_head}
use Rattle.pkcs7_verifier.specs.Matches.{IsNamedBy, NeedsExtensions, IsSigners}
use Rattle.pkcs7_verifier.specs.KeyIdentifiers.{explicit_extensions, has_tag, subject_key_identifier_oid, rest_of, AreExtensionsOf, extension_with, IsKeyIdOf, HasExtensions, HasNone, Answers}
use Rattle.pkcs7_verifier.specs.laws.KeyIdentifiers.{lawful_explicit_extensions}

-- a `?` passes on why there is no answer
pub has_refused_none : {T V : Type 0} (value : T → V) (P : List ElementOctets → V → Type 0) (rest : List ElementOctets) {r : Result T Error} {e : Error} → ((x : Error) × (r ≡ Err x) × (x ≡ e)) → HasNone P rest e → Answers value P rest r
has_refused_none value P rest {r} {e} p h = subst (Answers value P rest) (sym p.1) (subst (HasNone P rest) (sym p.2) h)

some_same : {X : Type 0} {o : Option X} {a b : X} → o ≡ Some a → o ≡ Some b → a ≡ b
some_same {X} {o} {a} {b} p q = let e : Some a ≡ Some b = sym p ∙ q in cc

some_none : {X : Type 0} {o : Option X} {a : X} → o ≡ Some a → o ≡ None → ⊥
some_none {X} {o} {a} p q = let e : Some a ≡ None = sym p ∙ q in cc

-- what an object identifier's test says, as `bytes_eq` does
pub oid_found : (a b : List ℕ) → (IsTrue true ↔ (a ≡ b)) → true ≡ bytes_eq a b
oid_found a b f = sym ((bytes_eq-Decides a b).1 (f.0 refl))

pub oid_passed : (a b : List ℕ) → (IsTrue false ↔ (a ≡ b)) → false ≡ bytes_eq a b
oid_passed a b f = sym (false_from_ne_true (bytes_eq a b) (λ e. true≢false (sym (f.1 ((bytes_eq-Decides a b).0 e)))))

module _ (rest : List ElementOctets) where
  none_read : (b c : ElementOctets) (e : Error) → find (has_tag 0xA3) rest ≡ Some b → c ≡ b → HasNoValue explicit_extensions 64 c e → e ≢ Memory → (v : Option (List extension.Value)) → AreExtensionsOf rest v → ⊥
  none_read b c e f g h m None a = some_none f a
  none_read b c e f g h m (Some es) a = h.none m es (subst (λ x. explicit_extensions.Reads 64 x es) (some_same a.1 f ∙ sym g) a.2)

  pub no_extensions : (b c : ElementOctets) (e : Error) → find (has_tag 0xA3) rest ≡ Some b → c ≡ b → HasNoValue explicit_extensions 64 c e → HasNone AreExtensionsOf rest e
  no_extensions b c e f g h = record { there = some_none f; kind = h.kind; none = none_read b c e f g h }

  one_list : (xs ys : List extension.Value) → AreExtensionsOf rest (Some xs) → AreExtensionsOf rest (Some ys) → xs ≡ ys
  one_list xs ys p q = lawful_explicit_extensions.components.one_value 64 q.0 xs ys (subst (λ b. explicit_extensions.Reads 64 b xs) (some_same p.1 q.1) p.2) q.2

  not_absent : (xs : List extension.Value) → AreExtensionsOf rest (Some xs) → AreExtensionsOf rest None → ⊥
  not_absent xs p n = some_none p.1 n

  no_key_of_none : (e : Error) → HasNone AreExtensionsOf rest e → e ≢ Memory → (v : Option Octets) → IsKeyIdOf rest v → ⊥
  no_key_of_none e h m None (inl a) = h.none m None a
  no_key_of_none e h m None (inr a) = h.none m (Some a.0) a.1
  no_key_of_none e h m (Some key) a = h.none m (Some a.0) a.1

  pub no_key_without : (e : Error) → HasNone AreExtensionsOf rest e → HasNone IsKeyIdOf rest e
  no_key_without e h = record { there = h.there; kind = h.kind; none = no_key_of_none e h }

  -- the extension with the key's identifier
  pub record IsKeyExtension (x : extension.Value) : Type 0 where
    pub es : List extension.Value
    pub are : AreExtensionsOf rest (Some es)
    pub first : extension_with subject_key_identifier_oid es ≡ Some x

  pub key_extension : (o : Option Extensions) (extensions : Extensions) (xs : List Extension) (x : Extension) → AreExtensionsOf rest (option_value extensions_value o) → o ≡ Some extensions → xs ≡ extensions.0.items → Some (extension_value x) ≡ extension_with subject_key_identifier_oid (map extension_value xs) → IsKeyExtension (extension_value x)
  key_extension o extensions xs x a e g f = record {
    es = extensions_value extensions;
    are = subst (λ y. AreExtensionsOf rest (option_value extensions_value y)) e a;
    first = ap (λ ys. extension_with subject_key_identifier_oid (map extension_value ys)) (sym g) ∙ sym f;
  }

  same_first_one : (x : extension.Value) (k : IsKeyExtension x) (ys : List extension.Value) → AreExtensionsOf rest (Some ys) → extension_with subject_key_identifier_oid ys ≡ Some x
  same_first_one x k ys b = ap (extension_with subject_key_identifier_oid) (one_list ys k.es b k.are) ∙ k.first

  module _ (x : extension.Value) (k : IsKeyExtension x) (c : List ℕ) (g : c ≡ x.1.1.0) where
    no_key_read : (e : Error) → HasNoValue octet_string 64 c e → e ≢ Memory → (v : Option Octets) → IsKeyIdOf rest v → ⊥
    no_key_read e h m None (inl n) = not_absent k.es k.are n
    no_key_read e h m None (inr b) = some_none (same_first_one x k b.0 b.1) b.2
    no_key_read e h m (Some key) b = h.none m key (subst (λ y. octet_string.Reads 64 y key) (ap (λ y. y.1.1.0) (some_same b.3 (same_first_one x k b.0 b.1)) ∙ sym g) b.4)

    pub no_key_in : (e : Error) → HasNoValue octet_string 64 c e → HasNone IsKeyIdOf rest e
    no_key_in e h = record { there = not_absent k.es k.are; kind = h.kind; none = no_key_read e h }

    pub key_in : (key : List ℕ) → octet_string.Reads 64 c key → IsKeyIdOf rest (Some key)
    key_in key r = (k.es, k.are, x, k.first, subst (λ y. octet_string.Reads 64 y key) g r)

  pub one_key : (v w : Octets) → IsKeyIdOf rest (Some v) → IsKeyIdOf rest (Some w) → v ≡ w
  one_key v w p q =
      let x : p.2 ≡ q.2 = some_same p.3 (same_first_one q.2 (record { es = q.0; are = q.1; first = q.3 }) p.0 p.1) in
      lawful_octet_string.components.one_value 64 q.2.1.1.0 v w (subst (λ y. octet_string.Reads 64 y.1.1.0 v) x p.4) q.4

  -- the key, and no other
  pub same_key : (b : Bool) (own key : Octets) → IsKeyIdOf rest (Some own) → (IsTrue b ↔ (own ≡ key)) → IsTrue b ↔ IsKeyIdOf rest (Some key)
  same_key b own key k f = (λ t. subst (λ y. IsKeyIdOf rest (Some y)) (f.0 t) k, λ q. f.1 (one_key own key k q))

  pub not_none : (key : Octets) → IsKeyIdOf rest None → IsKeyIdOf rest (Some key) → ⊥
  not_none key (inl n) q = not_absent q.0 q.1 n
  not_none key (inr n) q = some_none (same_first_one q.2 (record { es = q.0; are = q.1; first = q.3 }) n.0 n.1) n.2

  pub no_own_key : (key : Octets) → IsKeyIdOf rest None → IsTrue false ↔ IsKeyIdOf rest (Some key)
  no_own_key key n = (λ t. absurd (true≢false (sym t)), λ q. absurd (not_none key n q))

-- nothing is the answer, or memory was refused
not_it : (P : Type 0) (Q : Error → Type 0) (r : Result Bool Error) (e : Error) → (e ≢ Memory → P → ⊥) → Q Memory → MatchResult r (λ b. (b ≡ false) × (e ≢ Memory)) (λ x. (x ≡ Memory) × (e ≡ Memory)) → MatchResult r (λ b. IsTrue b ↔ P) Q
not_it P Q (Ok b) e n q m = (λ t. absurd (true≢false (sym t ∙ m.0)), λ p. absurd (n m.1 p))
not_it P Q (Err x) e n q m = subst Q (sym m.0) q

-- a signer that names the identifier of a key
pub named_by_key : (s : SignerIdentifier) (k : ImplicitContextTag0 SubjectKeyIdentifier) (v : certificate_head.Value) (r : Result Bool Error) → s ≡ By.SubjectKeyIdentifier k → MatchResult r (λ b. IsTrue b ↔ IsKeyIdOf (rest_of v) (Some k.0.0.0.items)) (λ e. (e ≡ Memory) × HasExtensions (rest_of v)) → MatchResult r (λ b. IsTrue b ↔ IsNamedBy (signer_identifier_value s) v) (λ e. (e ≡ Memory) × NeedsExtensions (signer_identifier_value s) v)
named_by_key s k v r e m = subst (λ x. MatchResult r (λ b. IsTrue b ↔ IsNamedBy (signer_identifier_value x) v) (λ y. (y ≡ Memory) × NeedsExtensions (signer_identifier_value x) v)) (sym e) m

-- an element that was read is a signer's where what was read is
pub signers_if_named : (id : signer_identifier.Value) (b : List ℕ) (v : certificate_head.Value) (r : Result Bool Error) → IsValueOf (SEQUENCE certificate_head).format 64 b v → MatchResult r (λ t. IsTrue t ↔ IsNamedBy id v) (λ e. (e ≡ Memory) × NeedsExtensions id v) → MatchResult r (λ t. IsTrue t ↔ IsSigners id b) (λ e. e ≡ Memory)
signers_if_named id b v (Ok t) o m = (λ h. (v, o.reads, m.0 h), λ s. m.1 (subst (IsNamedBy id) (o.only s.0 s.1) s.2))
signers_if_named id b v (Err e) o m = m.0

pub not_signers : (id : signer_identifier.Value) (b : List ℕ) (r : Result Bool Error) (e : Error) → HasNoValue (SEQUENCE certificate_head).format 64 b e → MatchResult r (λ t. (t ≡ false) × (e ≢ Memory)) (λ x. (x ≡ Memory) × (e ≡ Memory)) → MatchResult r (λ t. IsTrue t ↔ IsSigners id b) (λ x. x ≡ Memory)
not_signers id b r e h m = not_it (IsSigners id b) (λ x. x ≡ Memory) r e (λ n s. h.none n s.0 s.1) refl m

pub not_key : (rest : List ElementOctets) (key : Octets) (r : Result Bool Error) (e : Error) → HasNone IsKeyIdOf rest e → MatchResult r (λ t. (t ≡ false) × (e ≢ Memory)) (λ x. (x ≡ Memory) × (e ≡ Memory)) → MatchResult r (λ t. IsTrue t ↔ IsKeyIdOf rest (Some key)) (λ x. (x ≡ Memory) × HasExtensions rest)
not_key rest key r e h m = not_it (IsKeyIdOf rest (Some key)) (λ x. (x ≡ Memory) × HasExtensions rest) r e (λ n k. h.none n (Some key) k) (refl, h.there) m
