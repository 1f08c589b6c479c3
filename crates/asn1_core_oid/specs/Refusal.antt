-- Why a call on object identifiers is refused.
use Rattle.std.specs.Prelude.{◌≡◌, ◌⊎◌}
use Rattle.asn1_core_element.specs.declared.error.Error.{Error}
use Rattle.asn1_core_element.specs.declared.error.Error.TheVariants.{Invalid, Memory}

-- memory was refused, or what was given is invalid, for which P is the reason
abbrev pub IsRefusal : Type 0 → Error → Type 0
IsRefusal P e = (e ≡ Memory) ⊎ ((e ≡ Invalid) × P)
