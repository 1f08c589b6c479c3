use Rattle.std.proofs.Common.{◌≡◌, ◌++◌, take}
use Rattle.std.specs.List.{flat_map}
use Rattle.x509_text.specs.Characters.{characters}
use Rattle.x509_text.specs.Values.{hex_pair}
use Rattle.x509_text.proofs.values.write_digits.Given as goal

abbrev pub invariant-loop-octet : goal.invariant-loop-octet
invariant-loop-octet l = characters l.text ≡ characters l.fn.text ++ flat_map hex_pair (take l.octet-index l.octets)
