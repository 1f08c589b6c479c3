-- The calls of a closure that reads signers a level down.
use Rattle.std.specs.Prelude.{ℕ, Result}
use Rattle.std.proofs.Common.{MutBor}
use Rattle.asn1_core.specs.Der.{Position, MayBelow, GivesBelow}
use Rattle.asn1_core_element.specs.declared.error.Error.{Error}
use Rattle.pkcs7_signed.specs.Signers.{signer}
use Rattle.pkcs7_signed.specs.SignerValues.{signer_value}
use Rattle.pkcs7_signed.specs.declared.boxed.Boxed.{Boxed}
use Rattle.pkcs7_signed.specs.declared.signers.SignerInfo.{SignerInfo}

-- it may be called at fewer levels than k, and its answers are signers of so many levels
pub record ReadsSigners (Pre : MutBor Position → ℕ → Type 0) (Post : MutBor Position → ℕ → Result (Boxed SignerInfo) Error → MutBor Position → Type 0) (k : ℕ) : Type 0 where
  pub called : MayBelow Pre k
  pub gives : GivesBelow Post (λ b. signer_value b.0.value) signer k
