-- What holds of the octets of each value.
use Rattle.std.proofs.Common.{◌≡◌, ℕ, ◌+◌, ◌*◌, ◌/◌, ◌%◌, List, [], ◌∷◌, refl, ap, ap₂, ◌∙◌, arith}
use Rattle.std.proofs.Math.Logic.{∥∥₁_elim}
use Rattle.std.proofs.Props.{props}
use Rattle.std.proofs.lemmas.List.Elements.{All-tail}
use Rattle.std.proofs.lemmas.Str.{IsUtf8-had}
use Rattle.std.specs.List.{All, flat_map}
use Rattle.std.specs.Str.{IsUtf8}
use Rattle.asn1_leaves_strings.specs.Bmp.{IsBmpUnit, unit_octets, IsBmp}
use Rattle.asn1_leaves_strings.specs.Octets.{octets_of_bmp, octets_of_utf8}
use Rattle.asn1_leaves_strings.specs.declared.bmp_string.BmpString.{BmpString}
use Rattle.asn1_leaves_strings.specs.declared.utf8_string.Utf8String.{Utf8String}

-- the units of octets, two by two
units_of : List ℕ → List ℕ
units_of [] = []
units_of (high ∷ []) = []
units_of (high ∷ low ∷ after) = (high * 256 + low) ∷ units_of after

units_back : (units : List ℕ) → All IsBmpUnit units → units_of (flat_map unit_octets units) ≡ units
unfolding units_of
units_back [] each = refl
units_back (u ∷ us) each =
    let same : u / 256 * 256 + u % 256 ≡ u = omega arith in
    ap₂ (λ v vs. v ∷ vs) same (units_back us (All-tail IsBmpUnit u us each))

-- the same fact, of the units that the octets themselves give
abbrev IsSpelled : List ℕ → Type 0
IsSpelled octets = All IsBmpUnit (units_of octets) × (octets ≡ flat_map unit_octets (units_of octets))

spelled : (octets : List ℕ) → IsBmp octets → IsSpelled octets
spelled octets b =
    let e : units_of octets ≡ b.units = ap units_of b.is ∙ units_back b.units b.each in
    rw e (b.each, b.is)

pub IsBmp-had : (octets : List ℕ) → ∥ IsBmp octets ∥₁ → IsBmp octets
IsBmp-had octets had =
    let s : IsSpelled octets = ∥∥₁_elim had (hlevel props) (spelled octets) in
    record { units = units_of octets; each = s.0; is = s.1 }

pub bmp_octets : (s : BmpString) → IsBmp (octets_of_bmp s)
bmp_octets s = IsBmp-had (octets_of_bmp s) s.of_set

pub utf8_octets : (s : Utf8String) → IsUtf8 (octets_of_utf8 s)
utf8_octets s = IsUtf8-had (octets_of_utf8 s) s.of_set
