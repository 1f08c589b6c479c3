-- Algorithms that encrypt with a password as they are given to be written: each parameter as it is, or all as an element.
use Rattle.std.specs.Prelude.{◌⊎◌, ◌^◌, ℕ, Option, Some}
use Rattle.std.proofs.Common.{inl, inr, refl}
use Rattle.asn1_core.specs.Asn1.{Contents, IMPLICIT, INTEGER_BELOW, OBJECT_IDENTIFIER, OCTET_STRING, SEQUENCE, contents, end, ◌then◌, ◌OPTIONAL◌}
use Rattle.asn1_core.specs.Der.{Format, OidOctets, Octets, either, nothing, optional, part, sequence, version, within}
use Rattle.password_ranges.specs.Heads.{ALGORITHM, pbes2_head, pbkdf2_head}
use Rattle.password_ranges.specs.Parameters.{AlgorithmValue}
use Rattle.pkcs12_algs.specs.Pbes1.{pbes1_params}

-- an algorithm of PBES1 or of PKCS #12, with a salt and a count
abbrev pub with_salt : Contents
with_salt = contents (OBJECT_IDENTIFIER then SEQUENCE pbes1_params then end) refl

-- PBKDF2-params with a salt that is specified (RFC 8018, appendix A.2)
abbrev pub salted_pbkdf2 : Contents
salted_pbkdf2 = contents (OCTET_STRING then INTEGER_BELOW (2 ^ 32) then INTEGER_BELOW (2 ^ 32) OPTIONAL ALGORITHM OPTIONAL end) refl

abbrev pub with_pbkdf2 : Contents
with_pbkdf2 = contents (OBJECT_IDENTIFIER then SEQUENCE salted_pbkdf2 then end) refl

-- an encryption scheme with an initialization vector (RFC 8018, appendix B.2)
abbrev pub with_vector : Contents
with_vector = contents (OBJECT_IDENTIFIER then OCTET_STRING then end) refl

-- keyDerivationFunc: PBKDF2, or any other
abbrev pub DerivationValue : Type 0
DerivationValue = with_pbkdf2.Value ⊎ AlgorithmValue

abbrev pub derivation : Format DerivationValue
derivation = either (SEQUENCE with_pbkdf2).format ALGORITHM.format

-- encryptionScheme
abbrev pub EncryptionValue : Type 0
EncryptionValue = with_vector.Value ⊎ AlgorithmValue

abbrev pub encryption : Format EncryptionValue
encryption = either (SEQUENCE with_vector).format ALGORITHM.format

-- PBES2
abbrev pub Pbes2PartsValue : Type 0
Pbes2PartsValue = DerivationValue × (EncryptionValue × Unit {0})

abbrev pub pbes2_parts : Format Pbes2PartsValue
pbes2_parts = sequence (part derivation (part encryption nothing))

abbrev pub WithPbes2Value : Type 0
WithPbes2Value = OidOctets × (Pbes2PartsValue × Unit {0})

abbrev pub with_pbes2 : Format WithPbes2Value
with_pbes2 = sequence (part OBJECT_IDENTIFIER.format (part pbes2_parts nothing))

-- one with a salt and a count, PBES2, or any other
abbrev pub GivenValue : Type 0
GivenValue = with_salt.Value ⊎ (WithPbes2Value ⊎ AlgorithmValue)

abbrev pub given : Format GivenValue
given = either (SEQUENCE with_salt).format (either with_pbes2 ALGORITHM.format)

-- what is written for these: an AlgorithmIdentifier whose parameters are the element of the given ones
abbrev pub with_parameters : {P : Type 0} → Format P → OidOctets → P → AlgorithmValue
with_parameters G oid p = (oid, (Some (G.text p), tt))

abbrev pub pbkdf2_of : salted_pbkdf2.Value → pbkdf2_head.Value
pbkdf2_of p = (inl p.0, p.1)

abbrev pub derivation_of : DerivationValue → AlgorithmValue
derivation_of (inl v) = with_parameters (SEQUENCE pbkdf2_head).format v.0 (pbkdf2_of v.1.0)
derivation_of (inr w) = w

abbrev pub encryption_of : EncryptionValue → AlgorithmValue
encryption_of (inl v) = with_parameters OCTET_STRING.format v.0 v.1.0
encryption_of (inr w) = w

abbrev pub pbes2_of : Pbes2PartsValue → pbes2_head.Value
pbes2_of s = (derivation_of s.0, (encryption_of s.1.0, tt))

abbrev pub algorithm_of : GivenValue → AlgorithmValue
algorithm_of (inl v) = with_parameters (SEQUENCE pbes1_params).format v.0 v.1.0
algorithm_of (inr (inl v)) = with_parameters (SEQUENCE pbes2_head).format v.0 (pbes2_of v.1.0)
algorithm_of (inr (inr w)) = w

-- EncryptedPrivateKeyInfo (RFC 5958, 3) of such an algorithm
abbrev pub GivenKeyValue : Type 0
GivenKeyValue = GivenValue × (Octets × Unit {0})

abbrev pub given_key : Format GivenKeyValue
given_key = sequence (part given (part OCTET_STRING.format nothing))

-- ContentInfo of encryptedData (RFC 2315, 13)
abbrev pub GivenInfoValue : Type 0
GivenInfoValue = OidOctets × ((ℕ × ((OidOctets × (GivenValue × (Option Octets × Unit {0}))) × Unit {0})) × Unit {0})

abbrev pub given_info : Format GivenInfoValue
given_info =
    sequence (part OBJECT_IDENTIFIER.format (part (within 0xA0 (sequence (part (version 0) (part (sequence (part OBJECT_IDENTIFIER.format (part given (optional (IMPLICIT 0 OCTET_STRING).format nothing)))) nothing)))) nothing))
