-- Why a call builds nothing.
use Rattle.std.specs.Prelude.{◌≡◌, ◌⊎◌, ◌≤◌, ◌^◌, ℕ, List, length, Result, Ok, Err}
use Rattle.asn1_core_element.specs.declared.error.Error.{Error}
use Rattle.asn1_core_element.specs.declared.error.Error.TheVariants.{TooLong, Memory}
use Rattle.password_calls.specs.Built.{GivesNone, HasBuilt}
use Rattle.password_calls.specs.WrongParts.{IsWrongPart}
use Rattle.call_values.specs.declared.not_built.NotBuilt.{NotBuilt}
use Rattle.call_values.specs.declared.not_built.NotBuilt.TheVariants.{Part, Refused}
use Rattle.password_calls.specs.declared.passwords.Holder.{Holder}
use Rattle.password_calls.specs.declared.passwords.Password.{Password}

-- a refusal of writing
abbrev pub unless_refused : {T : Type 0} → Result T Error → Result T NotBuilt
unless_refused (Ok x) = Ok x
unless_refused (Err e) = Err (Refused e)

-- the part with that number can't be written, the text is too long, or memory was refused
abbrev pub IsNotBuilt : Holder → List ℕ → Password → NotBuilt → Type 0
IsNotBuilt holder b row (Part n) = IsWrongPart holder b row n × GivesNone holder b row
IsNotBuilt holder b row (Refused e) = ((e ≡ TooLong) × (text : List ℕ) × HasBuilt holder b row text × (2 ^ 64 ≤ length text)) ⊎ (e ≡ Memory)
