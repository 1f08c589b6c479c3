-- The octets of a BMPString, two by two.
use Rattle.std.proofs.Common.{ℕ, ◌+◌, ◌*◌, ◌<◌, List}
use Rattle.asn1_leaves_strings.specs.Bmp.{IsBmpUnit, IsBmp}

-- the unit of two octets
abbrev pub unit_of : ℕ → ℕ → ℕ
unit_of high low = high * 256 + low

-- The first two octets are those of a unit, and the others those of further units.
pub record IsUnitThen (high low : ℕ) (after : List ℕ) : Type 0 where
  pub first : IsBmpUnit (unit_of high low)
  pub high_octet : high < 256
  pub low_octet : low < 256
  pub others : IsBmp after
