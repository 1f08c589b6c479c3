-- Where the octets that a MAC covers are in an input.
use Rattle.std.specs.Prelude.{◌≡◌, ℕ, ◌≤◌, List, [], ◌∷◌, length, drop, Option, IfSome, slice_range}
use Rattle.asn1_core.specs.Der.{Format, raw, option_value, Octets, IsValueOf}
use Rattle.asn1_located.specs.Places.{Walk}
use Rattle.asn1_located.specs.declared.walks.Step.{Step}
use Rattle.asn1_located.specs.declared.walks.Step.TheVariants.{Inside, Element, After}
use Rattle.x509_pkcs12.specs.MacOctets.{mac_octets, Covers}
use Rattle.x509_pkcs12.specs.Pfxs.{PfxValue, pfx}

-- the steps to the contents of the OCTET STRING in authSafe: into the PFX, past the version to authSafe, into it, past its
-- object identifier, into [0], into the OCTET STRING
abbrev pub mac_steps : List Step
mac_steps = Inside ∷ After ∷ Element ∷ Inside ∷ After ∷ Inside ∷ Inside ∷ []

-- the contents octets of authSafe's OCTET STRING are in the input between these two places, which the steps lead to, and after
-- them comes what follows authSafe
pub record IsMacPlace (b : List ℕ) (start end : ℕ) : Type 0 where
  pub walk : Walk mac_steps 0 b start (slice_range b start end)
  pub covers : Covers b (slice_range b start end)
  pub after : drop end b ≡ covers.mac
  pub inside : (start ≤ end) × (end ≤ length b)

-- The octets in the range are the MAC octets of the PFX that the input is, in a format that reads them as octets. Where
-- there is no range it has none.
pub record IsMacRangeIn (F : Format (PfxValue Octets)) (b : List ℕ) (range : Option (ℕ × ℕ)) : Type 0 where
  pub value : PfxValue Octets
  pub is_value : IsValueOf F 64 b value
  pub octets : option_value (λ (r : ℕ × ℕ). slice_range b r.0 r.1) range ≡ mac_octets value
  pub place : IfSome range (λ r. IsMacPlace b r.0 r.1)

abbrev pub IsMacRange : List ℕ → Option (ℕ × ℕ) → Type 0
IsMacRange = IsMacRangeIn (pfx raw)
