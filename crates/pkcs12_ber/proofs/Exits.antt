-- Ways out of the functions.
use Rattle.std.proofs.Common.{◌≡◌, ◌≢◌, ℕ, true, List, ◌∷◌, [], ◌++◌, sym, subst, inl, inr, Result, Ok, Err, MatchResult}
use Rattle.asn1_core.specs.Der.{Format, Octets, HasNoValue, sequence}
use Rattle.asn1_core_element.specs.declared.error.Error.{Error}
use Rattle.asn1_core_element.specs.declared.error.Error.TheVariants.{Memory}
use Rattle.ber_der.specs.Ber.{IsBer}
use Rattle.ber_der.specs.laws.BerLaws.{one_der}
use Rattle.ber_der.specs.Typed.{HasNoBerValue}
use Rattle.ber_der.specs.declared.contexts.Role.TheVariants.{Whole}
use Rattle.x509_pkcs12.specs.Agree.{DataReadsAs}
use Rattle.x509_pkcs12.specs.AuthSafes.{AuthSafeValue}
use Rattle.pkcs12_ber.specs.Files.{ReadsInDer, HasNoReading, HasNoContents}
use Rattle.pkcs12_ber.specs.InDer.{info, safe, IsInfoInDer, IsSafeInDer, HasNoSafe, HasAppended, HaveNoDer}
use Rattle.pkcs12_ber.specs.Pfxs.{ber_pfx}
use Rattle.pkcs12_ber.specs.Places.{InAuthSafe, InData, InOctets}
use Rattle.pkcs12_ber.specs.declared.reading.BufferOffset.{BufferOffset}
use Rattle.pkcs12_ber.specs.declared.reading.BufferOffset.TheVariants.{File, AuthSafe, Data, FileDer, AuthSafeDer, Contents}
use Rattle.pkcs12_ber.proofs.Appended.{one_appended}
use Rattle.pkcs12_ber.proofs.Safes.{one_safe}

-- by `?`
pub refused : {A X : Type 0} (P : A → Type 0) (Q : X → Type 0) {r : Result A X} {e : X} → ((y : X) × (r ≡ Err y) × (y ≡ e)) → Q e → MatchResult r P Q
refused P Q p q = subst (λ r. MatchResult r P Q) (sym p.1) (subst Q (sym p.2) q)

-- a content was written in DER
pub written : (c d : AuthSafeValue Octets) (o old new : List ℕ) (r : Result (Unit {0}) (Error × ℕ)) → c ≡ inl o → IsInfoInDer (inl o) d → MatchResult r (λ _. new ≡ old ++ info.text d) (λ e. e.0 ≡ Memory)
    → MatchResult r (λ _. HasAppended (c ∷ []) old new) (λ e. e.0 ≢ Memory → HaveNoDer (c ∷ []) × InData (c ∷ []) (Data 0 e.1))
written c d o old new (Ok x) i p h = one_appended c d old new (subst (λ a. IsInfoInDer a d) (sym i) p) h
written c d o old new (Err e) i p h = λ m. absurd (m h)

-- places in data, and in the contents of the octets that a MAC covers
pub in_data : {a : AuthSafeValue Octets} {o : List ℕ} (place : BufferOffset) → a ≡ inl o → InOctets o place → InAuthSafe a place
in_data {a} {o} place e p = subst (λ x. InAuthSafe x place) (sym e) p

pub in_octets : (octets outer : List ℕ) (contents : List (AuthSafeValue Octets)) → IsBer 64 Whole octets outer → safe.Reads 64 outer contents → (place : BufferOffset) → InData contents place → InOctets octets place
in_octets octets outer contents is reads (Data index at) p = (outer, contents, is, reads, p)
in_octets octets outer contents is reads (File at) p = absurd p
in_octets octets outer contents is reads (AuthSafe at) p = absurd p
in_octets octets outer contents is reads (FileDer at) p = absurd p
in_octets octets outer contents is reads (AuthSafeDer at) p = absurd p
in_octets octets outer contents is reads (Contents at) p = absurd p

-- the file's DER is no PFX
pub no_octets : (b d : List ℕ) (e : Error) → IsBer 64 Whole b d → HasNoValue (sequence ber_pfx.format) 64 d e → HasNoBerValue (sequence ber_pfx.format) b e
no_octets b d e p h = λ m der v q reads. h.none m v (subst (λ z. (sequence ber_pfx.format).Reads 64 z v) (one_der true 64 Whole b der d q p) reads)

module _ {V : Type 0} (F : Format V) where
  none_in : (o : List ℕ) → HasNoSafe o → HasNoContents F (inl o)
  none_in o none (inl v) p = none p.0 p.1
  none_in o none (inr v) p = p

  -- the octets are no AuthenticatedSafe
  pub no_safe : (a : AuthSafeValue Octets) (o : List ℕ) → a ≡ inl o → HasNoSafe o → HasNoContents F a
  no_safe a o e none v p = none_in o none v (subst (λ x. DataReadsAs (ReadsInDer F) x v) e p)

  none_of : (o d : List ℕ) (e : Error) → IsSafeInDer o d → HasNoValue F 64 d e → e ≢ Memory → HasNoContents F (inl o)
  none_of o d e s h m (inl v) p = h.none m v (subst (λ z. F.Reads 64 z v) (one_safe o p.0 d p.1 s) p.2)
  none_of o d e s h m (inr v) p = p

  -- their DER is not what F reads
  pub no_value : (a : AuthSafeValue Octets) (o d : List ℕ) (e : Error) → a ≡ inl o → IsSafeInDer o d → HasNoValue F 64 d e → e ≢ Memory → HasNoContents F a
  no_value a o d e i s h m v p = none_of o d e s h m v (subst (λ x. DataReadsAs (ReadsInDer F) x v) i p)

  pub no_file : (b : List ℕ) (e : Error) → HasNoBerValue (sequence ber_pfx.format) b e → e ≢ Memory → HasNoReading F b
  no_file b e h m w v q = h m q.der w q.is_der q.reads
