-- Parts of the MAC of a PKCS #12 file, as octets: projections of its value.
use Rattle.std.specs.Prelude.{◌≡◌, ℕ, List, Option, unwrap_or}
use Rattle.asn1_core.specs.Der.{Format, raw, option_value, Octets, IsValueOf}
use Rattle.pkcs12_algs.specs.Algorithms.{into_raw}
use Rattle.pkcs12_algs.specs.Digests.{digest_oids, mac_data}
use Rattle.x509_pkcs12.specs.Pfxs.{PfxValue, pfx}
use Rattle.container_parts.specs.Inputs.{Meaning, part_of}
use Rattle.container_parts.specs.declared.macs.MacPart.{MacPart}
use Rattle.container_parts.specs.declared.macs.MacPart.TheVariants.{DigestAlgorithm, Digest, Salt}

-- the contents octets of the object identifier of the digest algorithm, the digest, and the salt
abbrev pub of_mac : MacPart → mac_data.Value → List ℕ
of_mac DigestAlgorithm m = (into_raw digest_oids m.0.0).0
of_mac Digest m = m.0.1.0
of_mac Salt m = m.1.0

abbrev pub mac_of : PfxValue Octets → Option mac_data.Value
mac_of v = v.1.1.0

-- how often the key derivation hashes: once where that is left out
abbrev pub iterations_of : mac_data.Value → ℕ
iterations_of m = unwrap_or m.1.1.0 1

-- the input is a PKCS #12 file, in that format, whose MAC has that count, or that has no MAC
pub record HasCountIn (F : Format (PfxValue Octets)) (b : List ℕ) (count : Option ℕ) : Type 0 where
  pub value : PfxValue Octets
  pub is_value : IsValueOf F 64 b value
  pub is : count ≡ option_value iterations_of (mac_of value)

abbrev pub HasCount : List ℕ → Option ℕ → Type 0
HasCount = HasCountIn (pfx raw)

-- these octets are the part, or the file has no MAC
abbrev pub IsMacPart : MacPart → PfxValue Octets → Option (List ℕ) → Type 0
IsMacPart part v octets = octets ≡ option_value (of_mac part) (mac_of v)

abbrev pub mac_part_in : Format (PfxValue Octets) → MacPart → Meaning
mac_part_in F part = part_of F (IsMacPart part)

abbrev pub in_mac : MacPart → Meaning
in_mac = mac_part_in (pfx raw)
