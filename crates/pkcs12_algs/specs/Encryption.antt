-- The encryption of what a PKCS #12 file protects by a password.
--
-- ContentEncryptionAlgorithmIdentifier ::= AlgorithmIdentifier (RFC 2315, 6.2), whose algorithm is id-PBES2 with
-- PBES2-params (RFC 8018, appendix A.4), one of pkcs-12PbeIds with pkcs-12PbeParams (RFC 7292, appendix C), or another.
use Rattle.std.proofs.Common.{inl, inr}
use Rattle.asn1_core.specs.Asn1.{Contents, SEQUENCE}
use Rattle.asn1_choices.specs.ByOid.{if_oid, if_in, chosen, alone}
use Rattle.x509_base.specs.AlgorithmParts.{raw_algorithm_identifier_value}
use Rattle.x509_base.specs.OtherAlgorithms.{other_algorithm}
use Rattle.pkcs12_algs.specs.Oids.{pbes2_oid}
use Rattle.pkcs12_algs.specs.Pbes1.{pbes1_params, pbes1_params_value}
use Rattle.pkcs12_algs.specs.laws.Pbes1.{pbe_is_table}
use Rattle.pkcs12_algs.specs.Pbes2.{pbes2_params, pbes2_params_value}
use Rattle.pkcs12_algs.specs.declared.encryptions.Pkcs12EncryptionAlgorithm.{Pkcs12EncryptionAlgorithm}
use Rattle.pkcs12_algs.specs.declared.encryptions.Pkcs12EncryptionAlgorithm.TheVariants.{Pbes1, Pbes2, Unknown}

-- PBES2, one of the older kinds, or any other algorithm
abbrev pub pkcs12_encryption_algorithm : Contents
pkcs12_encryption_algorithm =
    chosen (if_oid pbes2_oid (alone (SEQUENCE pbes2_params)) (if_in pbe_is_table (alone (SEQUENCE pbes1_params)) other_algorithm))

abbrev pub pkcs12_encryption_algorithm_value : Pkcs12EncryptionAlgorithm → pkcs12_encryption_algorithm.Value
pkcs12_encryption_algorithm_value (Pbes1 kind params) = inr (inl (kind, pbes1_params_value params))
pkcs12_encryption_algorithm_value (Pbes2 params) = inl (pbes2_params_value params)
pkcs12_encryption_algorithm_value (Unknown a) = inr (inr (raw_algorithm_identifier_value a))
