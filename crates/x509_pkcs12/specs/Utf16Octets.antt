-- The contents octets that a value holds.
use Rattle.std.specs.Prelude.{ℕ, List}
use Rattle.x509_pkcs12.specs.declared.utf16_strings.Utf16String.{Utf16String}

abbrev pub octets_of_utf16 : Utf16String → List ℕ
octets_of_utf16 s = s.octets.items
