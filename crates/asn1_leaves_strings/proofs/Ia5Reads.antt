-- The octets of an IA5String are those that std calls ASCII.
use Rattle.std.proofs.Common.{◌↔◌, ℕ, Bool, true, false, MatchBool, IsTrue, List, refl, arith}
use Rattle.std.proofs.lemmas.Str.Ascii.{All-from_ascii, IsAscii-from_all}
use Rattle.std.specs.Str.{IsAscii, IsNotAscii}
use Rattle.asn1_leaves_strings.specs.Ia5.{IsIa5}

pub ascii_ia5 : (octets : List ℕ) (answer : Bool) → MatchBool answer (IsAscii octets) (IsNotAscii octets) → IsTrue answer ↔ IsIa5 octets
ascii_ia5 octets true a = (λ _. All-from_ascii octets a, λ _. refl)
ascii_ia5 octets false n = (λ t. absurd cc, λ each. let low = IsAscii-from_all octets each n.0 in absurd (omega (arith, n.1, low)))
