-- Laws of `Utf16.antt`.
use Rattle.std.specs.Prelude.{◌≡◌, ℕ, List}
use Rattle.asn1_core_element.specs.declared.error.Error.{Error}
use Rattle.asn1_core_element.specs.declared.error.Error.TheVariants.{Memory, Invalid}
use Rattle.std.proofs.Common.{refl}
use Rattle.x509_pkcs12.specs.Utf16.{IsUtf16, NoText}

-- of UTF-16, memory alone is refused
pub memory_alone : (octets : List ℕ) (e : Error) → IsUtf16 octets → NoText octets e → e ≡ Memory
memory_alone octets Invalid is none = absurd (none is)
memory_alone octets Memory is none = refl
memory_alone octets e is none = absurd none
