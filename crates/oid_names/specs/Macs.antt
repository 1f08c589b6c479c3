-- Names of message authentication codes and key derivations. Made of asn1/object_identifiers.txt.
use Rattle.std.specs.Prelude.{ℕ, List, [], ◌∷◌, codes}
use Rattle.asn1_core_oid.specs.Arcs.{arcs}

abbrev pub macs_names : List (List ℕ × List ℕ)
macs_names =
    (arcs (1 ∷ 2 ∷ 840 ∷ 113549 ∷ 2 ∷ 6 ∷ []), codes "hmacWithMD5") ∷
    (arcs (1 ∷ 2 ∷ 840 ∷ 113549 ∷ 2 ∷ 7 ∷ []), codes "hmacWithSHA1") ∷
    (arcs (1 ∷ 2 ∷ 840 ∷ 113549 ∷ 2 ∷ 8 ∷ []), codes "hmacWithSHA224") ∷
    (arcs (1 ∷ 2 ∷ 840 ∷ 113549 ∷ 2 ∷ 9 ∷ []), codes "hmacWithSHA256") ∷
    (arcs (1 ∷ 2 ∷ 840 ∷ 113549 ∷ 2 ∷ 10 ∷ []), codes "hmacWithSHA384") ∷
    (arcs (1 ∷ 2 ∷ 840 ∷ 113549 ∷ 2 ∷ 11 ∷ []), codes "hmacWithSHA512") ∷
    (arcs (1 ∷ 2 ∷ 840 ∷ 113549 ∷ 2 ∷ 12 ∷ []), codes "hmacWithSHA512-224") ∷
    (arcs (1 ∷ 2 ∷ 840 ∷ 113549 ∷ 2 ∷ 13 ∷ []), codes "hmacWithSHA512-256") ∷
    (arcs (2 ∷ 16 ∷ 840 ∷ 1 ∷ 101 ∷ 3 ∷ 4 ∷ 2 ∷ 13 ∷ []), codes "hmac-sha3-224") ∷
    (arcs (2 ∷ 16 ∷ 840 ∷ 1 ∷ 101 ∷ 3 ∷ 4 ∷ 2 ∷ 14 ∷ []), codes "hmac-sha3-256") ∷
    (arcs (2 ∷ 16 ∷ 840 ∷ 1 ∷ 101 ∷ 3 ∷ 4 ∷ 2 ∷ 15 ∷ []), codes "hmac-sha3-384") ∷
    (arcs (2 ∷ 16 ∷ 840 ∷ 1 ∷ 101 ∷ 3 ∷ 4 ∷ 2 ∷ 16 ∷ []), codes "hmac-sha3-512") ∷
    (arcs (1 ∷ 3 ∷ 6 ∷ 1 ∷ 5 ∷ 5 ∷ 8 ∷ 1 ∷ 1 ∷ []), codes "hmac-md5") ∷
    (arcs (1 ∷ 3 ∷ 6 ∷ 1 ∷ 5 ∷ 5 ∷ 8 ∷ 1 ∷ 2 ∷ []), codes "hmac-sha1") ∷
    (arcs (1 ∷ 2 ∷ 840 ∷ 113533 ∷ 7 ∷ 66 ∷ 13 ∷ []), codes "password based MAC") ∷
    (arcs (1 ∷ 2 ∷ 840 ∷ 113533 ∷ 7 ∷ 66 ∷ 30 ∷ []), codes "Diffie-Hellman based MAC") ∷
    (arcs (1 ∷ 2 ∷ 643 ∷ 7 ∷ 1 ∷ 1 ∷ 4 ∷ 1 ∷ []), codes "HMAC GOST 34.11-2012 256 bit") ∷
    (arcs (1 ∷ 2 ∷ 643 ∷ 7 ∷ 1 ∷ 1 ∷ 4 ∷ 2 ∷ []), codes "HMAC GOST 34.11-2012 512 bit") ∷
    (arcs (1 ∷ 2 ∷ 840 ∷ 113549 ∷ 1 ∷ 9 ∷ 16 ∷ 3 ∷ 28 ∷ []), codes "id-alg-hkdf-with-sha256") ∷
    (arcs (1 ∷ 2 ∷ 840 ∷ 113549 ∷ 1 ∷ 9 ∷ 16 ∷ 3 ∷ 29 ∷ []), codes "id-alg-hkdf-with-sha384") ∷
    (arcs (1 ∷ 2 ∷ 840 ∷ 113549 ∷ 1 ∷ 9 ∷ 16 ∷ 3 ∷ 30 ∷ []), codes "id-alg-hkdf-with-sha512") ∷ []
