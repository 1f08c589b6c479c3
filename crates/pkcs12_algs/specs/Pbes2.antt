-- Encryption by PBES2 (RFC 8018, 6.2 and appendix A.4).
--
-- PBES2-params ::= SEQUENCE {
--     keyDerivationFunc AlgorithmIdentifier {{PBES2-KDFs}},
--     encryptionScheme AlgorithmIdentifier {{PBES2-Encs}} }
--
-- PBES2-KDFs ALGORITHM-IDENTIFIER ::= { {PBKDF2-params IDENTIFIED BY id-PBKDF2}, ... }
-- The parameters of AES in CBC mode are its initialization vector, an OCTET STRING (RFC 8018, appendix B.2.5).
use Rattle.std.specs.Prelude.{◌≡◌, ℕ, List, [], ◌∷◌, Some}
use Rattle.asn1_core.specs.Asn1.{Contents, contents, ◌then◌, end, OCTET_STRING, SEQUENCE}
use Rattle.std.proofs.Common.{refl, inl, inr, rules}
use Rattle.x509_base.specs.AlgorithmParts.{raw_algorithm_identifier_value}
use Rattle.asn1_choices.specs.ByOid.{if_oid, if_in, chosen, alone}
use Rattle.asn1_choices.specs.Tables.{Table, IsTable}
use Rattle.x509_base.specs.OtherAlgorithms.{other_algorithm}
use Rattle.pkcs12_algs.specs.Oids.{aes128_cbc_pad_oid, aes192_cbc_pad_oid, aes256_cbc_pad_oid, pbkdf2_oid}
use Rattle.pkcs12_algs.specs.Pbkdf2.{pbkdf2_params, pbkdf2_params_value}
use Rattle.pkcs12_algs.specs.Tables.{table, alternative_with}
use Rattle.pkcs12_algs.specs.laws.TableLaws.{is_table}
use Rattle.pkcs12_algs.specs.declared.pbes2.Pbes2AesCbcEncryption.{Pbes2AesCbcEncryption}
use Rattle.pkcs12_algs.specs.declared.pbes2.Pbes2AesCbcEncryption.TheVariants.{Aes128, Aes192, Aes256}
use Rattle.pkcs12_algs.specs.declared.pbes2.Pbes2EncryptionScheme.{Pbes2EncryptionScheme}
use Rattle.pkcs12_algs.specs.declared.pbes2.Pbes2EncryptionScheme.TheVariants as Scheme
use Rattle.pkcs12_algs.specs.declared.pbes2.Pbes2KeyDerivationFunc.{Pbes2KeyDerivationFunc}
use Rattle.pkcs12_algs.specs.declared.pbes2.Pbes2KeyDerivationFunc.TheVariants as Kdf
use Rattle.pkcs12_algs.specs.declared.pbes2.Pbes2Params.{Pbes2Params}

abbrev pub aes_oid : Pbes2AesCbcEncryption → List ℕ
aes_oid Aes128 = aes128_cbc_pad_oid
aes_oid Aes192 = aes192_cbc_pad_oid
aes_oid Aes256 = aes256_cbc_pad_oid

abbrev pub aes_kinds : List Pbes2AesCbcEncryption
aes_kinds = Aes128 ∷ Aes192 ∷ Aes256 ∷ []

abbrev pub aes_table : Table Pbes2AesCbcEncryption
aes_table = table aes_oid aes_kinds

pub found_aes : (a : Pbes2AesCbcEncryption) → alternative_with aes_oid aes_kinds (aes_oid a) ≡ Some a
found_aes a = search rules

pub aes_is_table : IsTable aes_table
aes_is_table = is_table aes_oid aes_kinds found_aes

-- PBKDF2 with its parameters, or any other function
abbrev pub pbes2_key_derivation_func : Contents
pbes2_key_derivation_func = chosen (if_oid pbkdf2_oid (alone (SEQUENCE pbkdf2_params)) other_algorithm)

abbrev pub pbes2_key_derivation_func_value : Pbes2KeyDerivationFunc → pbes2_key_derivation_func.Value
pbes2_key_derivation_func_value (Kdf.Pbkdf2 x) = inl (pbkdf2_params_value x)
pbes2_key_derivation_func_value (Kdf.Unknown a) = inr (raw_algorithm_identifier_value a)

-- AES in CBC mode with its initialization vector, or any other scheme
abbrev pub pbes2_encryption_scheme : Contents
pbes2_encryption_scheme = chosen (if_in aes_is_table (alone OCTET_STRING) other_algorithm)

abbrev pub pbes2_encryption_scheme_value : Pbes2EncryptionScheme → pbes2_encryption_scheme.Value
pbes2_encryption_scheme_value (Scheme.AesCbc kind iv) = inl (kind, iv.0.items)
pbes2_encryption_scheme_value (Scheme.Unknown a) = inr (raw_algorithm_identifier_value a)

-- the function, and the scheme
abbrev pub pbes2_params : Contents
pbes2_params = contents (SEQUENCE pbes2_key_derivation_func then SEQUENCE pbes2_encryption_scheme then end) refl

abbrev pub pbes2_params_value : Pbes2Params → pbes2_params.Value
pbes2_params_value x = (pbes2_key_derivation_func_value x.key_derivation_func, (pbes2_encryption_scheme_value x.encryption_scheme, tt))
