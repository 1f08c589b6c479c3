-- From a text, or why there is none, to what a call answers whose only refusal of what it is given is DER_INVALID.
use Rattle.std.specs.Prelude.{◌≡◌, ◌≢◌, ◌⊎◌, ℕ, List}
use Rattle.std.proofs.Common.{arith, inl, inr, refl, ⊎_elim}
use Rattle.asn1_core_element.specs.declared.error.Error.{Error}
use Rattle.asn1_core_element.specs.declared.error.Error.TheVariants.{Invalid, Memory}
use Rattle.call_values.proofs.Statuses.{error_written, puts}
use Rattle.call_values.specs.Statuses.{refusing, Puts}
use Rattle.text_calls.specs.Names.{IsStatusWithoutText, WritesTextOrInvalid}
use Rattle.text_calls.proofs.OidTexts.{oid_error}

module _ (IsText : List ℕ → Type 0) (HasNone : Type 0) where
  pub text_put : (t old new : List ℕ) (count status : ℕ) → IsText t → Puts t old new count status → WritesTextOrInvalid IsText HasNone old new count status
  text_put t old new count status is p = (puts IsText (refusing HasNone) t old new count status is p, λ low high. absurd (⊎_elim (λ h. omega (arith, low, h)) (λ h. omega (arith, high, h)) p.range))

  pub no_text : (old : List ℕ) (e : Error) (status : ℕ) → (e ≢ Memory → HasNone) → IsStatusWithoutText e status → WritesTextOrInvalid IsText HasNone old old 0 status
  no_text old e status none (inl memory) = (error_written IsText (refusing HasNone) old Memory status memory.1 (oid_error HasNone Memory (inl refl)), λ low high. absurd (omega (arith, high, memory.1)))
  no_text old e status none (inr why) = (error_written IsText (refusing HasNone) old Invalid status why.1 (oid_error HasNone Invalid (inr (refl, none why.0))), λ low high. why.1)

  -- of what is refused as `Invalid`, for a reason P
  pub no_text_for : (P : Type 0) (old : List ℕ) (e : Error) (status : ℕ) → (P → HasNone) → (e ≡ Memory) ⊎ ((e ≡ Invalid) × P) → IsStatusWithoutText e status → WritesTextOrInvalid IsText HasNone old old 0 status
  no_text_for P old e status to (inl memory) is = no_text old e status (λ m. absurd (m memory)) is
  no_text_for P old e status to (inr why) is = no_text old e status (λ _. to why.1) is
