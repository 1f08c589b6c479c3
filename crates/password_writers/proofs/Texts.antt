-- What is written for a given algorithm is the encoding of the algorithm identifier, and of what holds it.
use Rattle.std.specs.Prelude.{◌≡◌, ℕ, List, [], ◌++◌, length, Option, None, Some, Result, Ok, Err, MatchResult}
use Rattle.std.proofs.Common.{ap, arith, inl, inr, refl, subst, sym, ◌∙◌}
use Rattle.asn1_core.specs.Asn1.{IMPLICIT, OBJECT_IDENTIFIER, OCTET_STRING, SEQUENCE}
use Rattle.asn1_core.specs.Der.{Format, IsLawful, IsOid, Octets, element, oid_from_test, optional, nothing, version}
use Rattle.asn1_core_element.specs.declared.error.Error.{Error}
use Rattle.asn1_borrowed.specs.Written.{IsNotWritten}
use Rattle.asn1_core_format.specs.Whole.{IsValueOf}
use Rattle.asn1_core_oid.specs.Known.{data_oid}
use Rattle.password_ranges.specs.Heads.{ALGORITHM, encrypted_data_oid, encrypted_info_head, encrypted_key_head, pbes2_head}
use Rattle.password_ranges.specs.Holders.{encrypted_info, encrypted_key}
use Rattle.password_writers.proofs.ReadBack.{algorithm_normal, are_parts, given_formed, read_back}
use Rattle.password_writers.specs.Given.{DerivationValue, EncryptionValue, GivenValue, Pbes2PartsValue, algorithm_of, derivation, derivation_of, encryption, encryption_of, given, given_info, given_key, pbes2_parts, pbes2_of}
use Rattle.password_writers.specs.Written.{IsNotWrittenAs, IsWrittenAs, given_info_of, info_of, key_of}

derivation_text : (d : DerivationValue) → derivation.text d ≡ ALGORITHM.format.text (derivation_of d)
derivation_text (inl v) = refl
derivation_text (inr w) = refl

encryption_text : (d : EncryptionValue) → encryption.text d ≡ ALGORITHM.format.text (encryption_of d)
encryption_text (inl v) = refl
encryption_text (inr w) = refl

two_texts : (a b c d : List ℕ) → a ≡ c → b ≡ d → element 0x30 (a ++ (b ++ [])) ≡ element 0x30 (c ++ (d ++ []))
two_texts a b c d e f = cc

pbes2_text : (s : Pbes2PartsValue) → pbes2_parts.text s ≡ (SEQUENCE pbes2_head).format.text (pbes2_of s)
pbes2_text s = two_texts _ _ _ _ (derivation_text s.0) (encryption_text s.1.0)

given_text : (g : GivenValue) → given.text g ≡ ALGORITHM.format.text (algorithm_of g)
given_text (inl v) = refl
given_text (inr (inl v)) = ap (λ x. element 0x30 (OBJECT_IDENTIFIER.format.text v.0 ++ (x ++ []))) (pbes2_text v.1.0)
given_text (inr (inr w)) = refl

-- what holds the encoding of an algorithm
abbrev key_with : Octets → List ℕ → List ℕ
key_with x a = element 0x30 (a ++ (OCTET_STRING.format.text x ++ []))

abbrev info_with : Option Octets → List ℕ → List ℕ
info_with o a =
    element 0x30 (OBJECT_IDENTIFIER.format.text encrypted_data_oid ++ (element 0xA0 (element 0x30 ((version 0).text 0 ++ (element 0x30 (OBJECT_IDENTIFIER.format.text data_oid ++ (a ++ (optional (IMPLICIT 0 OCTET_STRING).format nothing).text (o, tt))) ++ []))) ++ []))

info_normal : (g : GivenValue) (o : Option Octets) → encrypted_info.normal (info_of g o) ≡ info_of g o
info_normal g None = ap (λ w. (encrypted_data_oid, ((0, ((data_oid, (w, (None, tt))), tt)), tt))) (algorithm_normal (algorithm_of g))
info_normal g (Some x) = ap (λ w. (encrypted_data_oid, ((0, ((data_oid, (w, (Some x, tt))), tt)), tt))) (algorithm_normal (algorithm_of g))

module _ (g : GivenValue) (h : given.IsWellFormed 64 g) where
  written : {V : Type 0} (F : Format V) → IsLawful F → (v : V) → F.IsWellFormed 64 v → F.normal v ≡ v → (text : List ℕ) → text ≡ F.text v → IsWrittenAs F v g text
  written {V} F f v formed e text is = record {
    text_is = is;
    reads = subst (λ t. IsValueOf F 64 t v) (sym is) (read_back F f v formed e);
    parts = are_parts g h;
  }

  algorithm_written : (text : List ℕ) → text ≡ ALGORITHM.format.text (algorithm_of g) → IsWrittenAs ALGORITHM.format (algorithm_of g) g text
  algorithm_written text is = written ALGORITHM.format ALGORITHM.law (algorithm_of g) (given_formed g h) (algorithm_normal (algorithm_of g)) text is

key_written : (g : GivenValue) (x : Octets) → given_key.IsWellFormed 64 (g, (x, tt)) → (text : List ℕ) → text ≡ encrypted_key.text (key_of g x) → IsWrittenAs encrypted_key (key_of g x) g text
key_written g x h text is =
    written g h.0 encrypted_key (SEQUENCE encrypted_key_head).law (key_of g x) (given_formed g h.0, h.1) (ap (λ w. (w, (x, tt))) (algorithm_normal (algorithm_of g))) text is

info_written : (g : GivenValue) (o : Option Octets) → given_info.IsWellFormed 64 (given_info_of g o) → (text : List ℕ) → text ≡ encrypted_info.text (info_of g o) → IsWrittenAs encrypted_info (info_of g o) g text
info_written g o h text is =
    written g h.1.0.1.0.1.0 encrypted_info (SEQUENCE encrypted_info_head).law (info_of g o) (refl, ((refl, ((h.1.0.1.0.0, (given_formed g h.1.0.1.0.1.0, h.1.0.1.0.1.1)), tt)), tt)) (info_normal g o) text is

data_is_oid : IsOid data_oid
data_is_oid = oid_from_test data_oid refl

encrypted_is_oid : IsOid encrypted_data_oid
encrypted_is_oid = oid_from_test encrypted_data_oid refl

given_octets : (o : Option Octets) → (optional (IMPLICIT 0 OCTET_STRING).format nothing).IsWellFormed 64 (o, tt)
given_octets None = (tt, tt)
given_octets (Some x) = (tt, tt)

info_formed : (g : GivenValue) (o : Option Octets) → given.IsWellFormed 64 g → given_info.IsWellFormed 64 (given_info_of g o)
info_formed g o h = (encrypted_is_oid, ((refl, ((data_is_oid, (h, given_octets o)), tt)), tt))

-- The result of writing x by W, which is the encoding of v by F.
module _ {A : Type 0} (items : A → List ℕ) {V X : Type 0} (F : Format V) (v : V) (W : Format X) (x : X) (g : GivenValue) (same : W.text x ≡ F.text v) (formed : given.IsWellFormed 64 g → W.IsWellFormed 64 x) (is_written : W.IsWellFormed 64 x → (text : List ℕ) → text ≡ F.text v → IsWrittenAs F v g text) where
  not_written : (e : Error) → IsNotWritten W x e → IsNotWrittenAs F v g e
  not_written e (inl n) = inl (n.0, λ h. n.1 (formed h))
  not_written e (inr (inl n)) = inr (inl (n.1, is_written n.0 (F.text v) refl, omega (arith, n.2, ap length same)))
  not_written e (inr (inr n)) = inr (inr n)

  result_written : (r : Result A Error) → MatchResult r (λ t. W.IsWellFormed 64 x × (items t ≡ W.text x)) (λ e. IsNotWritten W x e) → MatchResult r (λ t. IsWrittenAs F v g (items t)) (λ e. IsNotWrittenAs F v g e)
  result_written (Ok t) h = is_written h.0 (items t) (h.1 ∙ same)
  result_written (Err e) h = not_written e h

module _ {A : Type 0} (items : A → List ℕ) (g : GivenValue) (r : Result A Error) where
  pub algorithm_result : MatchResult r (λ t. given.IsWellFormed 64 g × (items t ≡ given.text g)) (λ e. IsNotWritten given g e) → MatchResult r (λ t. IsWrittenAs ALGORITHM.format (algorithm_of g) g (items t)) (λ e. IsNotWrittenAs ALGORITHM.format (algorithm_of g) g e)
  algorithm_result = result_written items ALGORITHM.format (algorithm_of g) given g g (given_text g) (λ h. h) (algorithm_written g) r

  pub key_result : (x : Octets) → MatchResult r (λ t. given_key.IsWellFormed 64 (g, (x, tt)) × (items t ≡ given_key.text (g, (x, tt)))) (λ e. IsNotWritten given_key (g, (x, tt)) e) → MatchResult r (λ t. IsWrittenAs encrypted_key (key_of g x) g (items t)) (λ e. IsNotWrittenAs encrypted_key (key_of g x) g e)
  key_result x = result_written items encrypted_key (key_of g x) given_key (g, (x, tt)) g (ap (key_with x) (given_text g)) (λ h. (h, (tt, tt))) (key_written g x) r

  pub info_result : (o : Option Octets) → MatchResult r (λ t. given_info.IsWellFormed 64 (given_info_of g o) × (items t ≡ given_info.text (given_info_of g o))) (λ e. IsNotWritten given_info (given_info_of g o) e) → MatchResult r (λ t. IsWrittenAs encrypted_info (info_of g o) g (items t)) (λ e. IsNotWrittenAs encrypted_info (info_of g o) g e)
  info_result o = result_written items encrypted_info (info_of g o) given_info (given_info_of g o) g (ap (info_with o) (given_text g)) (info_formed g o) (info_written g o) r
