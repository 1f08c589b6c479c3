-- The words for algorithms, as OpenSSL writes them.
use Rattle.std.specs.Prelude.{ℕ, List, codes}
use Rattle.pkcs12_algs.specs.declared.digests.Pkcs12DigestAlgorithm.{Pkcs12DigestAlgorithm}
use Rattle.pkcs12_algs.specs.declared.digests.Pkcs12DigestAlgorithm.TheVariants.{Sha1, Sha224, Sha256, Sha384, Sha512, Unknown}
use Rattle.pkcs12_algs.specs.declared.pbes1.Pbes1AlgorithmKind.{Pbes1AlgorithmKind}
use Rattle.pkcs12_algs.specs.declared.pbes1.Pbes1AlgorithmKind.TheVariants.{ShaAnd40BitRc2Cbc, ShaAnd3Key3DesCbc}
use Rattle.pkcs12_algs.specs.declared.pbes2.Pbes2AesCbcEncryption.{Pbes2AesCbcEncryption}
use Rattle.pkcs12_algs.specs.declared.pbes2.Pbes2AesCbcEncryption.TheVariants.{Aes128, Aes192, Aes256}
use Rattle.pkcs12_algs.specs.declared.prfs.Pbkdf2Prf.{Pbkdf2Prf}
use Rattle.pkcs12_algs.specs.declared.prfs.Pbkdf2Prf.TheVariants as Prf

abbrev pub digest_name : Pkcs12DigestAlgorithm → List ℕ
digest_name Sha1 = codes "SHA1"
digest_name Sha224 = codes "SHA224"
digest_name Sha256 = codes "SHA256"
digest_name Sha384 = codes "SHA384"
digest_name Sha512 = codes "SHA512"
digest_name (Unknown a) = codes "unknown"

abbrev pub prf_name : Pbkdf2Prf → List ℕ
prf_name Prf.HmacWithSha1 = codes "hmacWithSHA1"
prf_name Prf.HmacWithSha224 = codes "hmacWithSHA224"
prf_name Prf.HmacWithSha256 = codes "hmacWithSHA256"
prf_name Prf.HmacWithSha384 = codes "hmacWithSHA384"
prf_name Prf.HmacWithSha512 = codes "hmacWithSHA512"
prf_name (Prf.Unknown a) = codes "unknown"

abbrev pub pbe_name : Pbes1AlgorithmKind → List ℕ
pbe_name ShaAnd40BitRc2Cbc = codes "pbeWithSHA1And40BitRC2-CBC"
pbe_name ShaAnd3Key3DesCbc = codes "pbeWithSHA1And3-KeyTripleDES-CBC"

abbrev pub aes_name : Pbes2AesCbcEncryption → List ℕ
aes_name Aes128 = codes "AES-128-CBC"
aes_name Aes192 = codes "AES-192-CBC"
aes_name Aes256 = codes "AES-256-CBC"
