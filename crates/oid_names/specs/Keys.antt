-- Names of other keys and signatures, and key agreements. Made of asn1/object_identifiers.txt.
use Rattle.std.specs.Prelude.{ℕ, List, [], ◌∷◌, codes}
use Rattle.asn1_core_oid.specs.Arcs.{arcs}

abbrev pub keys_names : List (List ℕ × List ℕ)
keys_names =
    (arcs (1 ∷ 3 ∷ 101 ∷ 110 ∷ []), codes "X25519") ∷
    (arcs (1 ∷ 3 ∷ 101 ∷ 111 ∷ []), codes "X448") ∷
    (arcs (1 ∷ 3 ∷ 101 ∷ 112 ∷ []), codes "ED25519") ∷
    (arcs (1 ∷ 3 ∷ 101 ∷ 113 ∷ []), codes "ED448") ∷
    (arcs (1 ∷ 2 ∷ 840 ∷ 113549 ∷ 1 ∷ 3 ∷ 1 ∷ []), codes "dhKeyAgreement") ∷
    (arcs (1 ∷ 2 ∷ 840 ∷ 10046 ∷ 2 ∷ 1 ∷ []), codes "X9.42 DH") ∷
    (arcs (1 ∷ 2 ∷ 643 ∷ 2 ∷ 2 ∷ 19 ∷ []), codes "GOST R 34.10-2001") ∷
    (arcs (1 ∷ 2 ∷ 643 ∷ 7 ∷ 1 ∷ 1 ∷ 1 ∷ 1 ∷ []), codes "GOST R 34.10-2012 with 256 bit modulus") ∷
    (arcs (1 ∷ 2 ∷ 643 ∷ 7 ∷ 1 ∷ 1 ∷ 1 ∷ 2 ∷ []), codes "GOST R 34.10-2012 with 512 bit modulus") ∷
    (arcs (1 ∷ 2 ∷ 643 ∷ 7 ∷ 1 ∷ 1 ∷ 3 ∷ 2 ∷ []), codes "GOST R 34.10-2012 with GOST R 34.11-2012 (256 bit)") ∷
    (arcs (1 ∷ 2 ∷ 643 ∷ 7 ∷ 1 ∷ 1 ∷ 3 ∷ 3 ∷ []), codes "GOST R 34.10-2012 with GOST R 34.11-2012 (512 bit)") ∷
    (arcs (2 ∷ 16 ∷ 840 ∷ 1 ∷ 101 ∷ 3 ∷ 4 ∷ 3 ∷ 17 ∷ []), codes "ML-DSA-44") ∷
    (arcs (2 ∷ 16 ∷ 840 ∷ 1 ∷ 101 ∷ 3 ∷ 4 ∷ 3 ∷ 18 ∷ []), codes "ML-DSA-65") ∷
    (arcs (2 ∷ 16 ∷ 840 ∷ 1 ∷ 101 ∷ 3 ∷ 4 ∷ 3 ∷ 19 ∷ []), codes "ML-DSA-87") ∷
    (arcs (2 ∷ 16 ∷ 840 ∷ 1 ∷ 101 ∷ 3 ∷ 4 ∷ 4 ∷ 1 ∷ []), codes "ML-KEM-512") ∷
    (arcs (2 ∷ 16 ∷ 840 ∷ 1 ∷ 101 ∷ 3 ∷ 4 ∷ 4 ∷ 2 ∷ []), codes "ML-KEM-768") ∷
    (arcs (2 ∷ 16 ∷ 840 ∷ 1 ∷ 101 ∷ 3 ∷ 4 ∷ 4 ∷ 3 ∷ []), codes "ML-KEM-1024") ∷
    (arcs (1 ∷ 2 ∷ 840 ∷ 113549 ∷ 1 ∷ 9 ∷ 16 ∷ 3 ∷ 5 ∷ []), codes "id-smime-alg-ESDH") ∷
    (arcs (1 ∷ 3 ∷ 133 ∷ 16 ∷ 840 ∷ 63 ∷ 0 ∷ 2 ∷ []), codes "dhSinglePass-stdDH-sha1kdf-scheme") ∷
    (arcs (1 ∷ 3 ∷ 133 ∷ 16 ∷ 840 ∷ 63 ∷ 0 ∷ 3 ∷ []), codes "dhSinglePass-cofactorDH-sha1kdf-scheme") ∷
    (arcs (1 ∷ 3 ∷ 132 ∷ 1 ∷ 11 ∷ 0 ∷ []), codes "dhSinglePass-stdDH-sha224kdf-scheme") ∷
    (arcs (1 ∷ 3 ∷ 132 ∷ 1 ∷ 11 ∷ 1 ∷ []), codes "dhSinglePass-stdDH-sha256kdf-scheme") ∷
    (arcs (1 ∷ 3 ∷ 132 ∷ 1 ∷ 11 ∷ 2 ∷ []), codes "dhSinglePass-stdDH-sha384kdf-scheme") ∷
    (arcs (1 ∷ 3 ∷ 132 ∷ 1 ∷ 11 ∷ 3 ∷ []), codes "dhSinglePass-stdDH-sha512kdf-scheme") ∷
    (arcs (1 ∷ 3 ∷ 132 ∷ 1 ∷ 14 ∷ 0 ∷ []), codes "dhSinglePass-cofactorDH-sha224kdf-scheme") ∷
    (arcs (1 ∷ 3 ∷ 132 ∷ 1 ∷ 14 ∷ 1 ∷ []), codes "dhSinglePass-cofactorDH-sha256kdf-scheme") ∷
    (arcs (1 ∷ 3 ∷ 132 ∷ 1 ∷ 14 ∷ 2 ∷ []), codes "dhSinglePass-cofactorDH-sha384kdf-scheme") ∷
    (arcs (1 ∷ 3 ∷ 132 ∷ 1 ∷ 14 ∷ 3 ∷ []), codes "dhSinglePass-cofactorDH-sha512kdf-scheme") ∷ []
