-- PFX ::= SEQUENCE { version INTEGER {v3(3)}(v3,...), authSafe ContentInfo, macData MacData OPTIONAL } (RFC 7292, 4)
use Rattle.asn1_core.specs.Asn1.{SEQUENCE}
use Rattle.std.specs.Prelude.{ℕ, Option}
use Rattle.asn1_core.specs.Der.{Format, sequence, part, optional, nothing, version}
use Rattle.pkcs12_algs.specs.Digests.{mac_data}
use Rattle.x509_pkcs12.specs.AuthSafes.{AuthSafeValue, auth_safe}

-- the version, what is authenticated, and the MAC
abbrev pub PfxValue : Type 0 → Type 0
PfxValue V = ℕ × (AuthSafeValue V × (Option mac_data.Value × Unit {0}))

abbrev pub pfx : {V : Type 0} → Format V → Format (PfxValue V)
pfx F = sequence (part (version 3) (part (auth_safe F) (optional (SEQUENCE mac_data).format nothing)))
