-- Names of keys and signatures of RSA and DSA. Made of asn1/object_identifiers.txt.
use Rattle.std.specs.Prelude.{ℕ, List, [], ◌∷◌, codes}
use Rattle.asn1_core_oid.specs.Arcs.{arcs}

abbrev pub rsa_and_dsa_names : List (List ℕ × List ℕ)
rsa_and_dsa_names =
    (arcs (1 ∷ 2 ∷ 840 ∷ 113549 ∷ 1 ∷ 1 ∷ 1 ∷ []), codes "rsaEncryption") ∷
    (arcs (1 ∷ 2 ∷ 840 ∷ 113549 ∷ 1 ∷ 1 ∷ 2 ∷ []), codes "md2WithRSAEncryption") ∷
    (arcs (1 ∷ 2 ∷ 840 ∷ 113549 ∷ 1 ∷ 1 ∷ 3 ∷ []), codes "md4WithRSAEncryption") ∷
    (arcs (1 ∷ 2 ∷ 840 ∷ 113549 ∷ 1 ∷ 1 ∷ 4 ∷ []), codes "md5WithRSAEncryption") ∷
    (arcs (1 ∷ 2 ∷ 840 ∷ 113549 ∷ 1 ∷ 1 ∷ 5 ∷ []), codes "sha1WithRSAEncryption") ∷
    (arcs (1 ∷ 2 ∷ 840 ∷ 113549 ∷ 1 ∷ 1 ∷ 7 ∷ []), codes "rsaesOaep") ∷
    (arcs (1 ∷ 2 ∷ 840 ∷ 113549 ∷ 1 ∷ 1 ∷ 8 ∷ []), codes "mgf1") ∷
    (arcs (1 ∷ 2 ∷ 840 ∷ 113549 ∷ 1 ∷ 1 ∷ 9 ∷ []), codes "pSpecified") ∷
    (arcs (1 ∷ 2 ∷ 840 ∷ 113549 ∷ 1 ∷ 1 ∷ 10 ∷ []), codes "rsassaPss") ∷
    (arcs (1 ∷ 2 ∷ 840 ∷ 113549 ∷ 1 ∷ 1 ∷ 11 ∷ []), codes "sha256WithRSAEncryption") ∷
    (arcs (1 ∷ 2 ∷ 840 ∷ 113549 ∷ 1 ∷ 1 ∷ 12 ∷ []), codes "sha384WithRSAEncryption") ∷
    (arcs (1 ∷ 2 ∷ 840 ∷ 113549 ∷ 1 ∷ 1 ∷ 13 ∷ []), codes "sha512WithRSAEncryption") ∷
    (arcs (1 ∷ 2 ∷ 840 ∷ 113549 ∷ 1 ∷ 1 ∷ 14 ∷ []), codes "sha224WithRSAEncryption") ∷
    (arcs (1 ∷ 2 ∷ 840 ∷ 113549 ∷ 1 ∷ 1 ∷ 15 ∷ []), codes "sha512-224WithRSAEncryption") ∷
    (arcs (1 ∷ 2 ∷ 840 ∷ 113549 ∷ 1 ∷ 1 ∷ 16 ∷ []), codes "sha512-256WithRSAEncryption") ∷
    (arcs (1 ∷ 3 ∷ 14 ∷ 3 ∷ 2 ∷ 29 ∷ []), codes "sha1WithRSA") ∷
    (arcs (1 ∷ 3 ∷ 14 ∷ 3 ∷ 2 ∷ 3 ∷ []), codes "md5WithRSA") ∷
    (arcs (1 ∷ 3 ∷ 36 ∷ 3 ∷ 3 ∷ 1 ∷ 2 ∷ []), codes "ripemd160WithRSA") ∷
    (arcs (2 ∷ 16 ∷ 840 ∷ 1 ∷ 101 ∷ 3 ∷ 4 ∷ 3 ∷ 13 ∷ []), codes "RSA-SHA3-224") ∷
    (arcs (2 ∷ 16 ∷ 840 ∷ 1 ∷ 101 ∷ 3 ∷ 4 ∷ 3 ∷ 14 ∷ []), codes "RSA-SHA3-256") ∷
    (arcs (2 ∷ 16 ∷ 840 ∷ 1 ∷ 101 ∷ 3 ∷ 4 ∷ 3 ∷ 15 ∷ []), codes "RSA-SHA3-384") ∷
    (arcs (2 ∷ 16 ∷ 840 ∷ 1 ∷ 101 ∷ 3 ∷ 4 ∷ 3 ∷ 16 ∷ []), codes "RSA-SHA3-512") ∷
    (arcs (1 ∷ 2 ∷ 840 ∷ 10040 ∷ 4 ∷ 1 ∷ []), codes "dsaEncryption") ∷
    (arcs (1 ∷ 2 ∷ 840 ∷ 10040 ∷ 4 ∷ 3 ∷ []), codes "dsaWithSHA1") ∷
    (arcs (1 ∷ 3 ∷ 14 ∷ 3 ∷ 2 ∷ 12 ∷ []), codes "dsaEncryption-old") ∷
    (arcs (1 ∷ 3 ∷ 14 ∷ 3 ∷ 2 ∷ 27 ∷ []), codes "dsaWithSHA1-old") ∷
    (arcs (2 ∷ 16 ∷ 840 ∷ 1 ∷ 101 ∷ 3 ∷ 4 ∷ 3 ∷ 1 ∷ []), codes "dsa_with_SHA224") ∷
    (arcs (2 ∷ 16 ∷ 840 ∷ 1 ∷ 101 ∷ 3 ∷ 4 ∷ 3 ∷ 2 ∷ []), codes "dsa_with_SHA256") ∷
    (arcs (2 ∷ 16 ∷ 840 ∷ 1 ∷ 101 ∷ 3 ∷ 4 ∷ 3 ∷ 3 ∷ []), codes "dsa_with_SHA384") ∷
    (arcs (2 ∷ 16 ∷ 840 ∷ 1 ∷ 101 ∷ 3 ∷ 4 ∷ 3 ∷ 4 ∷ []), codes "dsa_with_SHA512") ∷ []
