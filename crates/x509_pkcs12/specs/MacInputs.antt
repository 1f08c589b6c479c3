-- What a check of a MAC takes of a PFX.
use Rattle.std.specs.Prelude.{ℕ, Some, None, Result, Ok, Err, unwrap_or}
use Rattle.std.proofs.Common.{inl, inr}
use Rattle.asn1_core.specs.Der.{Octets}
use Rattle.pkcs12_algs.specs.Digests.{pkcs12_digest_algorithm}
use Rattle.x509_pkcs12.specs.Pfxs.{PfxValue}
use Rattle.x509_pkcs12.specs.declared.mac_inputs.NoMac.{NoMac}
use Rattle.x509_pkcs12.specs.declared.mac_inputs.NoMac.TheVariants.{NoData, NoMacData}

-- the octets that the MAC covers, the digest algorithm, the digest, the salt, and the count
abbrev pub MacInputValue : Type 0
MacInputValue = Octets × (pkcs12_digest_algorithm.Value × (Octets × (Octets × ℕ)))

-- those of a PFX, or which of the two it lacks: data, or MAC data
abbrev pub mac_input : PfxValue Octets → Result MacInputValue NoMac
mac_input (n, (inr other, mac)) = Err NoData
mac_input (n, (inl octets, (None, end))) = Err NoMacData
mac_input (n, (inl octets, (Some ((algorithm, (digest, e)), (salt, (count, f))), end))) = Ok (octets, (algorithm, (digest, (salt, unwrap_or count 1))))
