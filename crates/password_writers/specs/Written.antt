-- What is written for a given algorithm, and what reading it gives.
use Rattle.std.specs.Prelude.{◌≡◌, ◌⊎◌, ◌≤◌, ◌^◌, ℕ, List, length, Option}
use Rattle.std.proofs.Common.{inl, inr}
use Rattle.asn1_core.specs.Asn1.{OCTET_STRING, SEQUENCE}
use Rattle.asn1_core.specs.Der.{Format, Octets}
use Rattle.asn1_core_element.specs.declared.error.Error.{Error}
use Rattle.asn1_core_element.specs.declared.error.Error.TheVariants.{Invalid, TooLong, Memory}
use Rattle.asn1_core_format.specs.Whole.{IsValueOf}
use Rattle.asn1_core_oid.specs.Known.{data_oid}
use Rattle.password_ranges.specs.Heads.{encrypted_data_oid, encrypted_info_head, encrypted_key_head, pbes2_head, pbkdf2_head}
use Rattle.password_ranges.specs.Parameters.{AlgorithmValue, AreParameters}
use Rattle.password_writers.specs.Given.{DerivationValue, EncryptionValue, GivenInfoValue, GivenValue, algorithm_of, derivation_of, encryption_of, given, pbkdf2_of, pbes2_of}
use Rattle.pkcs12_algs.specs.Pbes1.{pbes1_params}

-- parameters that were given one by one are read as these
abbrev pub AreDerivationOf : DerivationValue → AlgorithmValue → Type 0
AreDerivationOf (inl v) w = AreParameters (SEQUENCE pbkdf2_head).format w (pbkdf2_of v.1.0)
AreDerivationOf (inr v) w = w ≡ v

abbrev pub AreEncryptionOf : EncryptionValue → AlgorithmValue → Type 0
AreEncryptionOf (inl v) w = AreParameters OCTET_STRING.format w v.1.0
AreEncryptionOf (inr v) w = w ≡ v

abbrev pub ArePartsOf : GivenValue → AlgorithmValue → Type 0
ArePartsOf (inl v) w = AreParameters (SEQUENCE pbes1_params).format w v.1.0
ArePartsOf (inr (inl v)) w =
    AreParameters (SEQUENCE pbes2_head).format w (pbes2_of v.1.0)
    × AreDerivationOf v.1.0.0 (derivation_of v.1.0.0)
    × AreEncryptionOf v.1.0.1.0 (encryption_of v.1.0.1.0)
ArePartsOf (inr (inr v)) w = w ≡ v

-- the text is the encoding of v by F, and is read as v; and what was given one by one is read in the algorithm of g
pub record IsWrittenAs {V : Type 0} (F : Format V) (v : V) (g : GivenValue) (text : List ℕ) : Type 0 where
  pub text_is : text ≡ F.text v
  pub reads : IsValueOf F 64 text v
  pub parts : ArePartsOf g (algorithm_of g)

-- EncryptedPrivateKeyInfo
abbrev pub key_of : GivenValue → Octets → encrypted_key_head.Value
key_of g encrypted = (algorithm_of g, (encrypted, tt))

-- ContentInfo of encryptedData whose content is of the type data (RFC 5652, 4)
abbrev pub info_of : GivenValue → Option Octets → encrypted_info_head.Value
info_of g encrypted = (encrypted_data_oid, ((0, ((data_oid, (algorithm_of g, (encrypted, tt))), tt)), tt))

-- why nothing is written for it: an object identifier or an element in it isn't one, the text is too long, or memory was refused
abbrev pub IsNotWrittenAs : {V : Type 0} → Format V → V → GivenValue → Error → Type 0
IsNotWrittenAs F v g e =
    ((e ≡ Invalid) × (given.IsWellFormed 64 g → ⊥))
    ⊎ (((e ≡ TooLong) × IsWrittenAs F v g (F.text v) × (2 ^ 64 ≤ length (F.text v)))
    ⊎ (e ≡ Memory))

-- what is given of such a ContentInfo
abbrev pub given_info_of : GivenValue → Option Octets → GivenInfoValue
given_info_of g encrypted = (encrypted_data_oid, ((0, ((data_oid, (g, (encrypted, tt))), tt)), tt))
