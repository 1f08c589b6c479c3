-- What a file in BER reads as.
use Rattle.std.specs.Prelude.{ℕ, List}
use Rattle.asn1_core.specs.Der.{Format, Octets, sequence}
use Rattle.ber_der.specs.Ber.{IsBer}
use Rattle.ber_der.specs.declared.contexts.Role.TheVariants.{Whole}
use Rattle.x509_pkcs12.specs.Agree.{DataReadsAs, ReadsAs}
use Rattle.x509_pkcs12.specs.AuthSafes.{AuthSafeValue}
use Rattle.x509_pkcs12.specs.Pfxs.{PfxValue}
use Rattle.pkcs12_ber.specs.InDer.{IsSafeInDer}
use Rattle.pkcs12_ber.specs.Pfxs.{ber_pfx}

-- the octets, in DER, are an encoding of v
abbrev pub ReadsInDer : {V : Type 0} → Format V → List ℕ → V → Type 0
ReadsInDer F octets v = (der : List ℕ) × IsSafeInDer octets der × F.Reads 64 der v

-- The file's DER is an encoding of a PFX with the octets that the MAC covers; and these, in DER, are an encoding of the
-- contents of v, which has the same version and MAC data.
pub record IsBerFile {V : Type 0} (F : Format V) (b : List ℕ) (w : PfxValue Octets) (v : PfxValue V) : Type 0 where
  pub der : List ℕ
  pub is_der : IsBer 64 Whole b der
  pub reads : (sequence ber_pfx.format).Reads 64 der w
  pub contents : ReadsAs (ReadsInDer F) w v

-- the file is no such
abbrev pub HasNoReading : {V : Type 0} → Format V → List ℕ → Type 0
HasNoReading {V} F b = (w : PfxValue Octets) (v : PfxValue V) → IsBerFile F b w v → ⊥

-- the authSafe has no such contents
abbrev pub HasNoContents : {V : Type 0} → Format V → AuthSafeValue Octets → Type 0
HasNoContents {V} F a = (v : AuthSafeValue V) → DataReadsAs (ReadsInDer F) a v → ⊥
