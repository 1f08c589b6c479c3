-- What the loop of `utf16_of` keeps.
use Rattle.std.proofs.Common.{◌≡◌}
use Rattle.std.specs.List.{flat_map}
use Rattle.std.specs.Str.Iter.{encode_utf16_pending, encode_utf16_rest}
use Rattle.text_calls.proofs.Utf16Made.{AreUnitsBefore, unit_octets}
use Rattle.text_calls.proofs.texts.utf16_of.Given as goal

abbrev pub invariant-loop-unit : goal.invariant-loop-unit
invariant-loop-unit l = (l.octets.items ≡ flat_map unit_octets l.yielded)
    × AreUnitsBefore l.yielded (encode_utf16_pending l.unit-iterator) (encode_utf16_rest l.unit-iterator) l.text
