-- Names of keys and signatures over elliptic curves. Made of asn1/object_identifiers.txt.
use Rattle.std.specs.Prelude.{ℕ, List, [], ◌∷◌, codes}
use Rattle.asn1_core_oid.specs.Arcs.{arcs}

abbrev pub curves_names : List (List ℕ × List ℕ)
curves_names =
    (arcs (1 ∷ 2 ∷ 840 ∷ 10045 ∷ 2 ∷ 1 ∷ []), codes "id-ecPublicKey") ∷
    (arcs (1 ∷ 2 ∷ 840 ∷ 10045 ∷ 4 ∷ 1 ∷ []), codes "ecdsa-with-SHA1") ∷
    (arcs (1 ∷ 2 ∷ 840 ∷ 10045 ∷ 4 ∷ 3 ∷ 1 ∷ []), codes "ecdsa-with-SHA224") ∷
    (arcs (1 ∷ 2 ∷ 840 ∷ 10045 ∷ 4 ∷ 3 ∷ 2 ∷ []), codes "ecdsa-with-SHA256") ∷
    (arcs (1 ∷ 2 ∷ 840 ∷ 10045 ∷ 4 ∷ 3 ∷ 3 ∷ []), codes "ecdsa-with-SHA384") ∷
    (arcs (1 ∷ 2 ∷ 840 ∷ 10045 ∷ 4 ∷ 3 ∷ 4 ∷ []), codes "ecdsa-with-SHA512") ∷
    (arcs (2 ∷ 16 ∷ 840 ∷ 1 ∷ 101 ∷ 3 ∷ 4 ∷ 3 ∷ 9 ∷ []), codes "ecdsa_with_SHA3-224") ∷
    (arcs (2 ∷ 16 ∷ 840 ∷ 1 ∷ 101 ∷ 3 ∷ 4 ∷ 3 ∷ 10 ∷ []), codes "ecdsa_with_SHA3-256") ∷
    (arcs (2 ∷ 16 ∷ 840 ∷ 1 ∷ 101 ∷ 3 ∷ 4 ∷ 3 ∷ 11 ∷ []), codes "ecdsa_with_SHA3-384") ∷
    (arcs (2 ∷ 16 ∷ 840 ∷ 1 ∷ 101 ∷ 3 ∷ 4 ∷ 3 ∷ 12 ∷ []), codes "ecdsa_with_SHA3-512") ∷
    (arcs (1 ∷ 2 ∷ 840 ∷ 10045 ∷ 1 ∷ 1 ∷ []), codes "prime-field") ∷
    (arcs (1 ∷ 2 ∷ 840 ∷ 10045 ∷ 1 ∷ 2 ∷ []), codes "characteristic-two-field") ∷
    (arcs (1 ∷ 2 ∷ 840 ∷ 10045 ∷ 3 ∷ 1 ∷ 1 ∷ []), codes "prime192v1") ∷
    (arcs (1 ∷ 3 ∷ 132 ∷ 0 ∷ 33 ∷ []), codes "secp224r1") ∷
    (arcs (1 ∷ 2 ∷ 840 ∷ 10045 ∷ 3 ∷ 1 ∷ 7 ∷ []), codes "prime256v1") ∷
    (arcs (1 ∷ 3 ∷ 132 ∷ 0 ∷ 34 ∷ []), codes "secp384r1") ∷
    (arcs (1 ∷ 3 ∷ 132 ∷ 0 ∷ 35 ∷ []), codes "secp521r1") ∷
    (arcs (1 ∷ 3 ∷ 132 ∷ 0 ∷ 8 ∷ []), codes "secp160r1") ∷
    (arcs (1 ∷ 3 ∷ 132 ∷ 0 ∷ 10 ∷ []), codes "secp256k1") ∷
    (arcs (1 ∷ 3 ∷ 132 ∷ 0 ∷ 26 ∷ []), codes "sect233k1") ∷
    (arcs (1 ∷ 3 ∷ 132 ∷ 0 ∷ 16 ∷ []), codes "sect283k1") ∷
    (arcs (1 ∷ 3 ∷ 132 ∷ 0 ∷ 38 ∷ []), codes "sect571k1") ∷
    (arcs (1 ∷ 3 ∷ 36 ∷ 3 ∷ 3 ∷ 2 ∷ 8 ∷ 1 ∷ 1 ∷ 7 ∷ []), codes "brainpoolP256r1") ∷
    (arcs (1 ∷ 3 ∷ 36 ∷ 3 ∷ 3 ∷ 2 ∷ 8 ∷ 1 ∷ 1 ∷ 8 ∷ []), codes "brainpoolP256t1") ∷
    (arcs (1 ∷ 3 ∷ 36 ∷ 3 ∷ 3 ∷ 2 ∷ 8 ∷ 1 ∷ 1 ∷ 11 ∷ []), codes "brainpoolP384r1") ∷
    (arcs (1 ∷ 3 ∷ 36 ∷ 3 ∷ 3 ∷ 2 ∷ 8 ∷ 1 ∷ 1 ∷ 12 ∷ []), codes "brainpoolP384t1") ∷
    (arcs (1 ∷ 3 ∷ 36 ∷ 3 ∷ 3 ∷ 2 ∷ 8 ∷ 1 ∷ 1 ∷ 13 ∷ []), codes "brainpoolP512r1") ∷
    (arcs (1 ∷ 3 ∷ 36 ∷ 3 ∷ 3 ∷ 2 ∷ 8 ∷ 1 ∷ 1 ∷ 14 ∷ []), codes "brainpoolP512t1") ∷
    (arcs (1 ∷ 2 ∷ 156 ∷ 10197 ∷ 1 ∷ 301 ∷ []), codes "sm2") ∷
    (arcs (1 ∷ 2 ∷ 156 ∷ 10197 ∷ 1 ∷ 501 ∷ []), codes "SM2-with-SM3") ∷ []
