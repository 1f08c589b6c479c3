-- Names of ciphers, key wraps and compressions, also as S/MIME capabilities. Made of asn1/object_identifiers.txt.
use Rattle.std.specs.Prelude.{ℕ, List, [], ◌∷◌, codes}
use Rattle.asn1_core_oid.specs.Arcs.{arcs}

abbrev pub ciphers_names : List (List ℕ × List ℕ)
ciphers_names =
    (arcs (1 ∷ 2 ∷ 840 ∷ 113549 ∷ 3 ∷ 2 ∷ []), codes "rc2-cbc") ∷
    (arcs (1 ∷ 2 ∷ 840 ∷ 113549 ∷ 3 ∷ 4 ∷ []), codes "rc4") ∷
    (arcs (1 ∷ 2 ∷ 840 ∷ 113549 ∷ 3 ∷ 7 ∷ []), codes "des-ede3-cbc") ∷
    (arcs (1 ∷ 2 ∷ 840 ∷ 113549 ∷ 3 ∷ 8 ∷ []), codes "rc5-cbc") ∷
    (arcs (1 ∷ 3 ∷ 14 ∷ 3 ∷ 2 ∷ 7 ∷ []), codes "des-cbc") ∷
    (arcs (2 ∷ 16 ∷ 840 ∷ 1 ∷ 101 ∷ 3 ∷ 4 ∷ 1 ∷ 1 ∷ []), codes "aes-128-ecb") ∷
    (arcs (2 ∷ 16 ∷ 840 ∷ 1 ∷ 101 ∷ 3 ∷ 4 ∷ 1 ∷ 2 ∷ []), codes "aes-128-cbc") ∷
    (arcs (2 ∷ 16 ∷ 840 ∷ 1 ∷ 101 ∷ 3 ∷ 4 ∷ 1 ∷ 5 ∷ []), codes "id-aes128-wrap") ∷
    (arcs (2 ∷ 16 ∷ 840 ∷ 1 ∷ 101 ∷ 3 ∷ 4 ∷ 1 ∷ 6 ∷ []), codes "aes-128-gcm") ∷
    (arcs (2 ∷ 16 ∷ 840 ∷ 1 ∷ 101 ∷ 3 ∷ 4 ∷ 1 ∷ 7 ∷ []), codes "aes-128-ccm") ∷
    (arcs (2 ∷ 16 ∷ 840 ∷ 1 ∷ 101 ∷ 3 ∷ 4 ∷ 1 ∷ 8 ∷ []), codes "id-aes128-wrap-pad") ∷
    (arcs (2 ∷ 16 ∷ 840 ∷ 1 ∷ 101 ∷ 3 ∷ 4 ∷ 1 ∷ 22 ∷ []), codes "aes-192-cbc") ∷
    (arcs (2 ∷ 16 ∷ 840 ∷ 1 ∷ 101 ∷ 3 ∷ 4 ∷ 1 ∷ 25 ∷ []), codes "id-aes192-wrap") ∷
    (arcs (2 ∷ 16 ∷ 840 ∷ 1 ∷ 101 ∷ 3 ∷ 4 ∷ 1 ∷ 26 ∷ []), codes "aes-192-gcm") ∷
    (arcs (2 ∷ 16 ∷ 840 ∷ 1 ∷ 101 ∷ 3 ∷ 4 ∷ 1 ∷ 27 ∷ []), codes "aes-192-ccm") ∷
    (arcs (2 ∷ 16 ∷ 840 ∷ 1 ∷ 101 ∷ 3 ∷ 4 ∷ 1 ∷ 28 ∷ []), codes "id-aes192-wrap-pad") ∷
    (arcs (2 ∷ 16 ∷ 840 ∷ 1 ∷ 101 ∷ 3 ∷ 4 ∷ 1 ∷ 42 ∷ []), codes "aes-256-cbc") ∷
    (arcs (2 ∷ 16 ∷ 840 ∷ 1 ∷ 101 ∷ 3 ∷ 4 ∷ 1 ∷ 45 ∷ []), codes "id-aes256-wrap") ∷
    (arcs (2 ∷ 16 ∷ 840 ∷ 1 ∷ 101 ∷ 3 ∷ 4 ∷ 1 ∷ 46 ∷ []), codes "aes-256-gcm") ∷
    (arcs (2 ∷ 16 ∷ 840 ∷ 1 ∷ 101 ∷ 3 ∷ 4 ∷ 1 ∷ 47 ∷ []), codes "aes-256-ccm") ∷
    (arcs (2 ∷ 16 ∷ 840 ∷ 1 ∷ 101 ∷ 3 ∷ 4 ∷ 1 ∷ 48 ∷ []), codes "id-aes256-wrap-pad") ∷
    (arcs (1 ∷ 2 ∷ 840 ∷ 113549 ∷ 1 ∷ 9 ∷ 16 ∷ 3 ∷ 6 ∷ []), codes "id-smime-alg-CMS3DESwrap") ∷
    (arcs (1 ∷ 2 ∷ 840 ∷ 113549 ∷ 1 ∷ 9 ∷ 16 ∷ 3 ∷ 7 ∷ []), codes "id-smime-alg-CMSRC2wrap") ∷
    (arcs (1 ∷ 2 ∷ 840 ∷ 113549 ∷ 1 ∷ 9 ∷ 16 ∷ 3 ∷ 8 ∷ []), codes "zlib compression") ∷
    (arcs (1 ∷ 2 ∷ 840 ∷ 113549 ∷ 1 ∷ 9 ∷ 16 ∷ 3 ∷ 18 ∷ []), codes "id-alg-AEADChaCha20Poly1305") ∷ []
