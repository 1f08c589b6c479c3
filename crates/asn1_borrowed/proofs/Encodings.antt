-- What is written of a normal value is read as it.
use Rattle.std.specs.Prelude.{◌≡◌, ℕ, List, Result, Ok, Err, MatchResult}
use Rattle.std.proofs.Common.{subst, sym}
use Rattle.asn1_core.specs.Der.{Format, IsLawful}
use Rattle.asn1_core_element.specs.declared.error.Error.{Error}
use Rattle.asn1_core_format.specs.laws.Whole.{value_of}
use Rattle.asn1_borrowed.specs.Written.{IsEncodingOf, IsNotWritten}

module _ {V : Type 0} (F : Format V) (law : IsLawful F) (v : V) (normal : F.normal v ≡ v) where
  pub is_encoding : F.IsWellFormed 64 v → (text : List ℕ) → text ≡ F.text v → IsEncodingOf F v text
  is_encoding h text e =
      let reads = subst (F.Reads 64 (F.text v)) normal (law.components.text_reads 64 v h) in
      record { text_is = e; reads = value_of F 64 text v law (subst (λ b. F.Reads 64 b v) (sym e) reads) }

  pub encoding_result : {A : Type 0} (items : A → List ℕ) (r : Result A Error) → MatchResult r (λ t. F.IsWellFormed 64 v × (items t ≡ F.text v)) (λ e. IsNotWritten F v e) → MatchResult r (λ t. IsEncodingOf F v (items t)) (λ e. IsNotWritten F v e)
  encoding_result items (Ok t) h = is_encoding h.0 (items t) h.1
  encoding_result items (Err e) h = h
