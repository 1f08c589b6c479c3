-- What is written of a value, and why it is not written: it is ill-formed, its encoding is too long, or memory was refused.
use Rattle.std.specs.Prelude.{◌≡◌, ◌⊎◌, ◌≤◌, ◌^◌, ℕ, List, length}
use Rattle.asn1_core.specs.Der.{Format}
use Rattle.asn1_core_element.specs.declared.error.Error.{Error}
use Rattle.asn1_core_element.specs.declared.error.Error.TheVariants.{Invalid, TooLong, Memory}
use Rattle.asn1_core_format.specs.Whole.{IsValueOf}

-- the text is the encoding of the value, and is read as it and nothing else
pub record IsEncodingOf {V : Type 0} (F : Format V) (v : V) (text : List ℕ) : Type 0 where
  pub text_is : text ≡ F.text v
  pub reads : IsValueOf F 64 text v

abbrev pub IsNotWritten : {V : Type 0} → Format V → V → Error → Type 0
IsNotWritten F v e = ((e ≡ Invalid) × (F.IsWellFormed 64 v → ⊥)) ⊎ ((F.IsWellFormed 64 v × (e ≡ TooLong) × (2 ^ 64 ≤ length (F.text v))) ⊎ (e ≡ Memory))
