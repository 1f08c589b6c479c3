-- Laws of `BmpLaws.antt`.
use Rattle.std.proofs.Common.{◌≡◌, true, ℕ, ◌/◌, ◌%◌, ◌^◌, ◌<◌, List, [], ◌∷◌, refl, subst, arith}
use Rattle.std.proofs.lemmas.Bool.Decides.{nat_tests}
use Rattle.std.proofs.lemmas.List.Elements.{All-nil, All-cons, All-head, All-tail}
use Rattle.std.specs.Char.{IsScalar, InScalarRange}
use Rattle.std.specs.Str.{all_scalars}
use Rattle.std.specs.List.{All, flat_map}
use Rattle.asn1_leaves_strings.specs.Bmp.{IsBmpUnit, unit_octets, IsBmp}
use Rattle.asn1_leaves_strings.specs.BmpLaws.{IsUnitThen, unit_of}

pub IsBmp-nil : IsBmp []
IsBmp-nil = record { units = []; each = All-nil IsBmpUnit; is = refl }

taken : (high low : ℕ) (after units : List ℕ) → All IsBmpUnit units → high ∷ low ∷ after ≡ flat_map unit_octets units → IsUnitThen high low after
taken high low after [] ok e = absurd cc
taken high low after (u ∷ us) ok e =
    let h : high ≡ u / 256 = cc in
    let l : low ≡ u % 256 = cc in
    let r : after ≡ flat_map unit_octets us = cc in
    let is : IsBmpUnit u = All-head IsBmpUnit u us ok in
    let w : u < 65536 = is.0 in
    let same : u ≡ unit_of high low = omega arith in
    record {
      first = subst IsBmpUnit same is;
      high_octet = omega arith;
      low_octet = omega arith;
      others = record { units = us; each = All-tail IsBmpUnit u us ok; is = r };
    }

pub IsBmp-first : (high low : ℕ) (after : List ℕ) → IsBmp (high ∷ low ∷ after) → IsUnitThen high low after
IsBmp-first high low after b = taken high low after b.units b.each b.is

pub IsBmp-more : (high low : ℕ) (after : List ℕ) → IsUnitThen high low after → IsBmp (high ∷ low ∷ after)
IsBmp-more high low after f =
    let u : ℕ = unit_of high low in
    let h : high ≡ u / 256 = omega (arith, f.high_octet, f.low_octet) in
    let l : low ≡ u % 256 = omega (arith, f.high_octet, f.low_octet) in
    let r : after ≡ flat_map unit_octets f.others.units = f.others.is in
    record { units = u ∷ f.others.units; each = All-cons IsBmpUnit u f.others.units f.first f.others.each; is = cc }

in_range : (c : ℕ) → IsScalar c → InScalarRange c
in_range c h = grind (arith, nat_tests)

-- a character of Unicode below 2 ^ 16 is one of the Basic Multilingual Plane
pub IsBmpUnit-scalar : (c : ℕ) → IsScalar c → c < 2 ^ 16 → IsBmpUnit c
IsBmpUnit-scalar c is low = let r = in_range c is in (low, λ s. omega (arith, r, s))

each_unit : (cs : List ℕ) → all_scalars cs ≡ true → All (λ c. c < 2 ^ 16) cs → All IsBmpUnit cs
each_unit [] is low = All-nil IsBmpUnit
each_unit (c ∷ cs) is low =
    let one : IsScalar c = grind arith in
    let others : all_scalars cs ≡ true = grind arith in
    All-cons IsBmpUnit c cs
    (IsBmpUnit-scalar c one (All-head (λ c. c < 2 ^ 16) c cs low))
    (each_unit cs others (All-tail (λ c. c < 2 ^ 16) c cs low))

-- characters of Unicode below 2 ^ 16 make a BMPString
pub IsBmp-chars : (cs : List ℕ) → all_scalars cs ≡ true → All (λ c. c < 2 ^ 16) cs → IsBmp (flat_map unit_octets cs)
IsBmp-chars cs is low = record { units = cs; each = each_unit cs is low; is = refl }
