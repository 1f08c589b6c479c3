-- What the calls on the MACs of PKCS #12 files say of an input, by their status.
use Rattle.std.specs.Prelude.{◌≡◌, ◌≢◌, ◌≤◌, ◌+◌, ℕ, List, Option, Some, None, Result, MatchResult}
use Rattle.std.proofs.Common.{Vec, Global}
use Rattle.asn1_core.specs.Der.{Format, Octets, raw, sequence}
use Rattle.asn1_core_element.specs.declared.error.Error.{Error}
use Rattle.container_parts.specs.Copies.{copied}
use Rattle.container_parts.specs.Inputs.{GivesNoPart, HasLongPart, Meaning}
use Rattle.container_parts.specs.MacParts.{HasCountIn, mac_part_in}
use Rattle.container_parts.specs.declared.ContainerPart.TheVariants.{Mac}
use Rattle.container_parts.specs.declared.macs.MacPart.{MacPart}
use Rattle.pkcs12_ber.specs.Pfxs.{ber_pfx}
use Rattle.x509_pkcs12.specs.MacRanges.{IsMacRangeIn}
use Rattle.x509_pkcs12.specs.Pfxs.{PfxValue, pfx}
use Rattle.part_calls.specs.Parts.{IsPartAt}
use Rattle.call_values.specs.Statuses.{Reasons, SaysWhy, Writes}
use Rattle.call_values.specs.declared.status.TheConstants.{NORMAL, LOOSE, NO_ROOM, NO_PART}

-- a PKCS #12 file in DER, of which the MAC may cover BER
abbrev pub ber_file : Format (PfxValue Octets)
ber_file = sequence ber_pfx.format

-- the input is no file in that format; at DER_NO_RANGE its authSafe isn't data
abbrev pub without_range : Format (PfxValue Octets) → List ℕ → Reasons
without_range F b = record { IsUnknown = ⊥; HasNone = (v : PfxValue Octets) → F.Reads 64 b v → ⊥; IsLong = ⊥; TakesMemory = Unit {0}; LacksRange = IsMacRangeIn F b None; IsAbsent = ⊥ }

-- what a call answers of the range of a MAC in the input b, a file in that format
pub record FindsRangeIn (F : Format (PfxValue Octets)) (b : List ℕ) (start len status : ℕ) : Type 0 where
  -- DER_NORMAL: these octets of the file the MAC covers
  pub found : status ≡ NORMAL → IsMacRangeIn F b (Some (start, start + len))
  pub why : SaysWhy (without_range F b) status
  -- without a range both numbers are none
  pub no_place : status ≢ NORMAL → (start ≡ 0) × (len ≡ 0)
  pub range : (status ≢ LOOSE) × ((status ≢ NO_ROOM) × (status ≤ NO_PART))

-- the input has octets that a MAC covers, if there is one: its authSafe is data
abbrev pub HasMacOctetsIn : Format (PfxValue Octets) → List ℕ → Type 0
HasMacOctetsIn F b = (start : ℕ) × (end : ℕ) × IsMacRangeIn F b (Some (start, end))

-- the same; at DER_NO_PART authSafe is data, and there is no MAC
abbrev pub without_mac : Format (PfxValue Octets) → List ℕ → Reasons
without_mac F b = record { IsUnknown = ⊥; HasNone = (v : PfxValue Octets) → F.Reads 64 b v → ⊥; IsLong = ⊥; TakesMemory = Unit {0}; LacksRange = IsMacRangeIn F b None; IsAbsent = HasMacOctetsIn F b × HasCountIn F b None }

-- what a call answers of a MAC that the input b, a file in that format, has
pub record FindsMacIn (F : Format (PfxValue Octets)) (b : List ℕ) (start len iterations status : ℕ) : Type 0 where
  -- DER_NORMAL: these octets of the file the MAC covers, and so often its key derivation hashes
  pub found : status ≡ NORMAL → IsMacRangeIn F b (Some (start, start + len)) × HasCountIn F b (Some iterations)
  pub why : SaysWhy (without_mac F b) status
  pub no_place : status ≢ NORMAL → (start ≡ 0) × ((len ≡ 0) × (iterations ≡ 0))
  pub range : (status ≢ LOOSE) × ((status ≢ NO_ROOM) × (status ≤ NO_PART))

-- what der_mac_range and der_mac answer of the input b: a file as RawPfx
abbrev pub FindsRange : List ℕ → ℕ → ℕ → ℕ → Type 0
FindsRange = FindsRangeIn (pfx raw)

abbrev pub FindsMac : List ℕ → ℕ → ℕ → ℕ → ℕ → Type 0
FindsMac = FindsMacIn (pfx raw)

-- p is the part of a MAC with that number among all parts
abbrev pub IsMacPartAt : ℕ → MacPart → Type 0
IsMacPartAt number p = IsPartAt number (Mac p)

abbrev pub NoMacPartAt : ℕ → Type 0
NoMacPartAt number = (p : MacPart) → IsMacPartAt number p → ⊥

-- a part of a MAC with that number, of which Q holds
abbrev pub OfMacPart : ℕ → (Meaning → Type 0) → Type 0
OfMacPart number Q = (p : MacPart) × IsMacPartAt number p × Q (mac_part_in ber_file p)

-- the part of a MAC was found, or there is none, or why not
abbrev pub GivesMacPart : Meaning → List ℕ → Result (Option (Vec ℕ Global)) Error → Type 0
GivesMacPart M b r = MatchResult r (λ found. M.Has b (copied found)) (λ e. GivesNoPart M b e)

-- why nothing is given of it
abbrev pub without_mac_part : ℕ → List ℕ → Reasons
without_mac_part number b = record {
  IsUnknown = NoMacPartAt number;
  HasNone = OfMacPart number (λ M. M.IsNoContainer b);
  IsLong = OfMacPart number (λ M. HasLongPart M b);
  TakesMemory = Unit {0};
  LacksRange = ⊥;
  IsAbsent = OfMacPart number (λ M. M.Has b None);
}

-- what der_mac_part_ber answers of the input b and a buffer: at DER_UNKNOWN_KIND no part of a MAC has the number
abbrev pub CopiesMacPart : ℕ → List ℕ → List ℕ → List ℕ → ℕ → ℕ → Type 0
CopiesMacPart number b = Writes (λ t. OfMacPart number (λ M. M.Has b (Some t))) (without_mac_part number b)
