-- A PFX in any representation, and the raw PFX that the same input is read as.
use Rattle.std.specs.Prelude.{◌≡◌, ℕ, List}
use Rattle.std.proofs.Common.{inl, inr}
use Rattle.x509_pkcs12.specs.AuthSafes.{AuthSafeValue}
use Rattle.x509_pkcs12.specs.Pfxs.{PfxValue}

-- the raw data reads as the data, and other contents are the same
abbrev pub DataReadsAs : {V : Type 0} → (List ℕ → V → Type 0) → AuthSafeValue (List ℕ) → AuthSafeValue V → Type 0
DataReadsAs Q (inl octets) (inl v) = Q octets v
DataReadsAs Q (inl octets) (inr q) = ⊥
DataReadsAs Q (inr p) (inl v) = ⊥
DataReadsAs Q (inr p) (inr q) = p ≡ q

pub record ReadsAs {V : Type 0} (Q : List ℕ → V → Type 0) (w : PfxValue (List ℕ)) (v : PfxValue V) : Type 0 where
  pub version : w.0 ≡ v.0
  pub auth_safe : DataReadsAs Q w.1.0 v.1.0
  pub mac_data : w.1.1 ≡ v.1.1
