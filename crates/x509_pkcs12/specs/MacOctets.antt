-- What a MAC covers: the contents octets of the OCTET STRING in authSafe.
use Rattle.std.specs.Prelude.{◌≡◌, ◌↔◌, ℕ, List, ◌++◌, Option, None, Some}
use Rattle.asn1_core.specs.Der.{Format, element}
use Rattle.std.proofs.Common.{inl, inr}
use Rattle.pkcs12_bags.specs.Oids.{data_oid}
use Rattle.x509_pkcs12.specs.Pfxs.{PfxValue}

-- None where authSafe isn't data
abbrev pub mac_octets : PfxValue (List ℕ) → Option (List ℕ)
mac_octets (n, (inl octets, x)) = Some octets
mac_octets (n, (inr p, x)) = None

-- an authSafe whose OCTET STRING has these contents octets
abbrev pub auth_safe_of : List ℕ → List ℕ
auth_safe_of octets = element 0x30 (element 0x06 data_oid ++ element 0xA0 (element 0x04 octets))

-- an encoding of a PFX whose authSafe has these contents octets, between the version and the MAC data
pub record Covers (text octets : List ℕ) : Type 0 where
  pub version_octets : List ℕ
  pub mac : List ℕ
  pub is : text ≡ element 0x30 (element 0x02 version_octets ++ (auth_safe_of octets ++ mac))

-- what is written for the octets that a MAC covered: the same octets exactly where they are normal (canonical DER)
pub record Rewritten {V : Type 0} (F : Format V) (k : ℕ) (text octets : List ℕ) : Type 0 where
  pub written : List ℕ
  pub covers : Covers text written
  pub survives : (written ≡ octets) ↔ F.IsNormal k octets
