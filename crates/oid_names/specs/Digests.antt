-- Names of digests and the functions that are made of them. Made of asn1/object_identifiers.txt.
use Rattle.std.specs.Prelude.{ℕ, List, [], ◌∷◌, codes}
use Rattle.asn1_core_oid.specs.Arcs.{arcs}

abbrev pub digests_names : List (List ℕ × List ℕ)
digests_names =
    (arcs (1 ∷ 2 ∷ 840 ∷ 113549 ∷ 2 ∷ 2 ∷ []), codes "md2") ∷
    (arcs (1 ∷ 2 ∷ 840 ∷ 113549 ∷ 2 ∷ 4 ∷ []), codes "md4") ∷
    (arcs (1 ∷ 2 ∷ 840 ∷ 113549 ∷ 2 ∷ 5 ∷ []), codes "md5") ∷
    (arcs (1 ∷ 3 ∷ 14 ∷ 3 ∷ 2 ∷ 26 ∷ []), codes "sha1") ∷
    (arcs (2 ∷ 16 ∷ 840 ∷ 1 ∷ 101 ∷ 3 ∷ 4 ∷ 2 ∷ 1 ∷ []), codes "sha256") ∷
    (arcs (2 ∷ 16 ∷ 840 ∷ 1 ∷ 101 ∷ 3 ∷ 4 ∷ 2 ∷ 2 ∷ []), codes "sha384") ∷
    (arcs (2 ∷ 16 ∷ 840 ∷ 1 ∷ 101 ∷ 3 ∷ 4 ∷ 2 ∷ 3 ∷ []), codes "sha512") ∷
    (arcs (2 ∷ 16 ∷ 840 ∷ 1 ∷ 101 ∷ 3 ∷ 4 ∷ 2 ∷ 4 ∷ []), codes "sha224") ∷
    (arcs (2 ∷ 16 ∷ 840 ∷ 1 ∷ 101 ∷ 3 ∷ 4 ∷ 2 ∷ 5 ∷ []), codes "sha512-224") ∷
    (arcs (2 ∷ 16 ∷ 840 ∷ 1 ∷ 101 ∷ 3 ∷ 4 ∷ 2 ∷ 6 ∷ []), codes "sha512-256") ∷
    (arcs (2 ∷ 16 ∷ 840 ∷ 1 ∷ 101 ∷ 3 ∷ 4 ∷ 2 ∷ 7 ∷ []), codes "sha3-224") ∷
    (arcs (2 ∷ 16 ∷ 840 ∷ 1 ∷ 101 ∷ 3 ∷ 4 ∷ 2 ∷ 8 ∷ []), codes "sha3-256") ∷
    (arcs (2 ∷ 16 ∷ 840 ∷ 1 ∷ 101 ∷ 3 ∷ 4 ∷ 2 ∷ 9 ∷ []), codes "sha3-384") ∷
    (arcs (2 ∷ 16 ∷ 840 ∷ 1 ∷ 101 ∷ 3 ∷ 4 ∷ 2 ∷ 10 ∷ []), codes "sha3-512") ∷
    (arcs (2 ∷ 16 ∷ 840 ∷ 1 ∷ 101 ∷ 3 ∷ 4 ∷ 2 ∷ 11 ∷ []), codes "shake128") ∷
    (arcs (2 ∷ 16 ∷ 840 ∷ 1 ∷ 101 ∷ 3 ∷ 4 ∷ 2 ∷ 12 ∷ []), codes "shake256") ∷
    (arcs (1 ∷ 3 ∷ 36 ∷ 3 ∷ 2 ∷ 1 ∷ []), codes "ripemd160") ∷
    (arcs (1 ∷ 0 ∷ 10118 ∷ 3 ∷ 0 ∷ 55 ∷ []), codes "whirlpool") ∷
    (arcs (1 ∷ 2 ∷ 156 ∷ 10197 ∷ 1 ∷ 401 ∷ []), codes "sm3") ∷
    (arcs (1 ∷ 2 ∷ 643 ∷ 2 ∷ 2 ∷ 9 ∷ []), codes "GOST R 34.11-94") ∷
    (arcs (1 ∷ 2 ∷ 643 ∷ 7 ∷ 1 ∷ 1 ∷ 2 ∷ 2 ∷ []), codes "GOST R 34.11-2012 with 256 bit hash") ∷
    (arcs (1 ∷ 2 ∷ 643 ∷ 7 ∷ 1 ∷ 1 ∷ 2 ∷ 3 ∷ []), codes "GOST R 34.11-2012 with 512 bit hash") ∷
    (arcs (1 ∷ 3 ∷ 6 ∷ 1 ∷ 4 ∷ 1 ∷ 1722 ∷ 12 ∷ 2 ∷ 1 ∷ 16 ∷ []), codes "blake2b512") ∷
    (arcs (1 ∷ 3 ∷ 6 ∷ 1 ∷ 4 ∷ 1 ∷ 1722 ∷ 12 ∷ 2 ∷ 2 ∷ 8 ∷ []), codes "blake2s256") ∷ []
