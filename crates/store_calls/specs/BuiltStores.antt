-- What the call from C says, by its status, of a PKCS #12 file that it builds from what it is given.
use Rattle.std.specs.Prelude.{◌≡◌, ◌≢◌, ◌⊎◌, ◌≤◌, ◌^◌, ℕ, List, length, Option, None, Some}
use Rattle.asn1_core.specs.Der.{Octets as OctetList, raw}
use Rattle.asn1_core_element.specs.declared.error.Error.TheVariants.{TooLong, Memory}
use Rattle.call_values.specs.Given.{HasNone, IfGiven, IsNumberOf, IsPartOf}
use Rattle.password_calls.specs.Others.{IsOtherOf, IsWrongOther}
use Rattle.call_values.specs.Read.{IsReadAs}
use Rattle.call_values.specs.Statuses.{Reasons, Writes}
use Rattle.call_values.specs.declared.not_built.NotBuilt.{NotBuilt}
use Rattle.call_values.specs.declared.not_built.NotBuilt.TheVariants.{Part, Refused}
use Rattle.store_calls.specs.declared.built_stores.StoreGiven.{StoreGiven}
use Rattle.store_calls.specs.declared.built_stores.TheConstants.{SAFE, DIGEST_ALGORITHM, DIGEST_PARAMETERS, DIGEST, SALT, ITERATIONS}
use Rattle.call_values.specs.declared.status.TheConstants.{INVALID, MALFORMED, MISSING, TOO_DEEP}
use Rattle.password_ranges.specs.Parameters.{AlgorithmValue}
use Rattle.pkcs12_algs.specs.Algorithms.{from_raw}
use Rattle.pkcs12_algs.specs.Digests.{digest_oids, mac_data}
use Rattle.store_writers.specs.Written.{CONTENTS, IsStoreOf, store_value}
use Rattle.x509_pkcs12.specs.Pfxs.{pfx}

-- an AuthenticatedSafe
abbrev pub IsSafeOf : List ℕ → StoreGiven → OctetList → Type 0
IsSafeOf b row x = IsPartOf b row.safe x × IsReadAs CONTENTS.format x

-- a count, of which 1 is left out, as the default
abbrev pub IsCountOf : ℕ → Option ℕ → Type 0
IsCountOf n None = n ≡ 1
IsCountOf n (Some m) = (n ≢ 1) × IsNumberOf n m

-- the digest algorithm that an algorithm identifier names, which drops the parameters of those that are known
abbrev pub IsDigestAlgorithmOf : List ℕ → StoreGiven → mac_data.Value → Type 0
IsDigestAlgorithmOf b row v = (w : AlgorithmValue) × IsOtherOf b row.digest_algorithm row.has_digest_parameters row.digest_parameters w × (v.0.0 ≡ from_raw digest_oids w)

-- a MAC
pub record IsMacOf (b : List ℕ) (row : StoreGiven) (v : mac_data.Value) : Type 0 where
  pub algorithm : IsDigestAlgorithmOf b row v
  pub digest : IsPartOf b row.digest v.0.1.0
  pub salt : IsPartOf b row.salt v.1.0
  pub iterations : IsCountOf row.iterations v.1.1.0

-- what a row gives: an AuthenticatedSafe, and its MAC, if there is one
pub record IsStoreBy (b : List ℕ) (row : StoreGiven) (safe : OctetList) (mac : Option mac_data.Value) : Type 0 where
  pub safe_is : IsSafeOf b row safe
  pub mac_is : IfGiven row.has_mac (IsMacOf b row) mac

abbrev pub GivesNoStore : List ℕ → StoreGiven → Type 0
GivesNoStore b row = (safe : OctetList) (mac : Option mac_data.Value) → IsStoreBy b row safe mac → ⊥

-- the text is the encoding of the PFX that the row gives, is read as its normal value, and has the octets that a MAC covers
abbrev pub HasBuiltStore : List ℕ → StoreGiven → List ℕ → Type 0
HasBuiltStore b row text = (safe : OctetList) × (mac : Option mac_data.Value) × IsStoreBy b row safe mac × IsStoreOf safe mac text

abbrev pub IsTooLong : List ℕ → StoreGiven → Type 0
IsTooLong b row = (safe : OctetList) × (mac : Option mac_data.Value) × IsStoreBy b row safe mac × (2 ^ 64 ≤ length ((pfx raw).text (store_value safe mac)))

-- which part of the MAC can't be written, by its number, a der_store_part
pub data IsWrongMac (b : List ℕ) (row : StoreGiven) : ℕ → Type 0 where
  mac_algorithm : (n : ℕ) → IsWrongOther b row.digest_algorithm DIGEST_ALGORITHM row.has_digest_parameters row.digest_parameters DIGEST_PARAMETERS n → IsWrongMac b row n
  mac_digest : HasNone (IsPartOf b row.digest) → IsWrongMac b row DIGEST
  mac_salt : HasNone (IsPartOf b row.salt) → IsWrongMac b row SALT
  mac_iterations : HasNone (IsCountOf row.iterations) → IsWrongMac b row ITERATIONS

-- which part of the file
pub data IsWrongStore (b : List ℕ) (row : StoreGiven) : ℕ → Type 0 where
  store_safe : HasNone (IsSafeOf b row) → IsWrongStore b row SAFE
  store_mac : (n : ℕ) → row.has_mac ≢ 0 → IsWrongMac b row n → IsWrongStore b row n

-- why no file is built
abbrev pub IsNoStore : List ℕ → StoreGiven → NotBuilt → Type 0
IsNoStore b row (Part n) = IsWrongStore b row n × GivesNoStore b row
IsNoStore b row (Refused e) = ((e ≡ TooLong) × IsTooLong b row) ⊎ (e ≡ Memory)

abbrev pub without_store : List ℕ → StoreGiven → Reasons
without_store b row = record {
  IsUnknown = ⊥;
  HasNone = GivesNoStore b row;
  IsLong = IsTooLong b row;
  TakesMemory = Unit {0};
  LacksRange = ⊥;
  IsAbsent = ⊥;
}

-- what der_build_store answers
pub record BuildsStore (b : List ℕ) (row : StoreGiven) (old new : List ℕ) (written part status : ℕ) : Type 0 where
  pub writes : Writes (HasBuiltStore b row) (without_store b row) old new written status
  -- the part with that number can't be written
  pub at : status ≡ INVALID → IsWrongStore b row part
  pub no_part : status ≢ INVALID → part ≡ 0
  -- no other refusal
  pub refused : (status ≢ MALFORMED) × (status ≢ MISSING) × (status ≢ TOO_DEEP)
