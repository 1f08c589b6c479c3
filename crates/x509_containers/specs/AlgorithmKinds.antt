-- Algorithms of PKCS #12 and of encryption by password, as kinds of input: their words, and what inputs are written as.
use Rattle.asn1_core.specs.Asn1.{SEQUENCE}
use Rattle.std.specs.Prelude.{List, [], ◌∷◌, codes}
use Rattle.pkcs12_algs.specs.Digests.{pkcs12_digest_info, mac_data}
use Rattle.pkcs12_algs.specs.Encryption.{pkcs12_encryption_algorithm}
use Rattle.pkcs12_algs.specs.Pbes1.{pbes1_params}
use Rattle.pkcs12_algs.specs.Pbes2.{pbes2_encryption_scheme, pbes2_key_derivation_func, pbes2_params}
use Rattle.pkcs12_algs.specs.Pbkdf2.{pbkdf2_params}
use Rattle.x509_containers.specs.Entries.{Entry, entry}
use Rattle.x509_containers.specs.declared.kinds.algorithms.AlgorithmKind.{AlgorithmKind}
use Rattle.x509_containers.specs.declared.kinds.algorithms.AlgorithmKind.TheVariants as Kind

abbrev pub entry_of : AlgorithmKind → Entry
entry_of Kind.MacData = entry (codes "macdata") (SEQUENCE mac_data).format
entry_of Kind.Pbes1Params = entry (codes "pbes1params") (SEQUENCE pbes1_params).format
entry_of Kind.Pbes2EncryptionScheme = entry (codes "pbes2encryptionscheme") (SEQUENCE pbes2_encryption_scheme).format
entry_of Kind.Pbes2KeyDerivationFunc = entry (codes "pbes2keyderivationfunc") (SEQUENCE pbes2_key_derivation_func).format
entry_of Kind.Pbes2Params = entry (codes "pbes2params") (SEQUENCE pbes2_params).format
entry_of Kind.Pbkdf2Params = entry (codes "pbkdf2params") (SEQUENCE pbkdf2_params).format
entry_of Kind.Pkcs12DigestInfo = entry (codes "pkcs12digestinfo") (SEQUENCE pkcs12_digest_info).format
entry_of Kind.Pkcs12EncryptionAlgorithm = entry (codes "pkcs12encryptionalgorithm") (SEQUENCE pkcs12_encryption_algorithm).format

abbrev pub kinds : List AlgorithmKind
kinds = Kind.MacData ∷ Kind.Pbes1Params ∷ Kind.Pbes2EncryptionScheme ∷ Kind.Pbes2KeyDerivationFunc ∷ Kind.Pbes2Params ∷ Kind.Pbkdf2Params ∷ Kind.Pkcs12DigestInfo ∷ Kind.Pkcs12EncryptionAlgorithm ∷ []
