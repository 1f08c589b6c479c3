-- The octets of an IA5String: those of ASCII.
use Rattle.std.specs.Prelude.{ℕ, ◌<◌, List}
use Rattle.std.specs.List.{All}

abbrev pub IsIa5 : List ℕ → Type 0
IsIa5 octets = All (λ octet. octet < 0x80) octets
