-- Names of ciphers that are seldom met. Made of asn1/object_identifiers.txt.
use Rattle.std.specs.Prelude.{ℕ, List, [], ◌∷◌, codes}
use Rattle.asn1_core_oid.specs.Arcs.{arcs}

abbrev pub further_ciphers_names : List (List ℕ × List ℕ)
further_ciphers_names =
    (arcs (1 ∷ 2 ∷ 392 ∷ 200011 ∷ 61 ∷ 1 ∷ 1 ∷ 1 ∷ 2 ∷ []), codes "camellia-128-cbc") ∷
    (arcs (1 ∷ 2 ∷ 392 ∷ 200011 ∷ 61 ∷ 1 ∷ 1 ∷ 1 ∷ 3 ∷ []), codes "camellia-192-cbc") ∷
    (arcs (1 ∷ 2 ∷ 392 ∷ 200011 ∷ 61 ∷ 1 ∷ 1 ∷ 1 ∷ 4 ∷ []), codes "camellia-256-cbc") ∷
    (arcs (1 ∷ 2 ∷ 392 ∷ 200011 ∷ 61 ∷ 1 ∷ 1 ∷ 3 ∷ 2 ∷ []), codes "id-camellia128-wrap") ∷
    (arcs (1 ∷ 2 ∷ 392 ∷ 200011 ∷ 61 ∷ 1 ∷ 1 ∷ 3 ∷ 3 ∷ []), codes "id-camellia192-wrap") ∷
    (arcs (1 ∷ 2 ∷ 392 ∷ 200011 ∷ 61 ∷ 1 ∷ 1 ∷ 3 ∷ 4 ∷ []), codes "id-camellia256-wrap") ∷
    (arcs (1 ∷ 2 ∷ 410 ∷ 200004 ∷ 1 ∷ 4 ∷ []), codes "seed-cbc") ∷
    (arcs (1 ∷ 2 ∷ 410 ∷ 200046 ∷ 1 ∷ 1 ∷ 2 ∷ []), codes "aria-128-cbc") ∷
    (arcs (1 ∷ 2 ∷ 410 ∷ 200046 ∷ 1 ∷ 1 ∷ 7 ∷ []), codes "aria-192-cbc") ∷
    (arcs (1 ∷ 2 ∷ 410 ∷ 200046 ∷ 1 ∷ 1 ∷ 12 ∷ []), codes "aria-256-cbc") ∷
    (arcs (1 ∷ 3 ∷ 6 ∷ 1 ∷ 4 ∷ 1 ∷ 188 ∷ 7 ∷ 1 ∷ 1 ∷ 2 ∷ []), codes "idea-cbc") ∷
    (arcs (1 ∷ 2 ∷ 840 ∷ 113533 ∷ 7 ∷ 66 ∷ 10 ∷ []), codes "cast5-cbc") ∷
    (arcs (1 ∷ 2 ∷ 156 ∷ 10197 ∷ 1 ∷ 104 ∷ 2 ∷ []), codes "sm4-cbc") ∷
    (arcs (1 ∷ 2 ∷ 643 ∷ 2 ∷ 2 ∷ 21 ∷ []), codes "GOST 28147-89") ∷
    (arcs (1 ∷ 2 ∷ 643 ∷ 2 ∷ 2 ∷ 31 ∷ 1 ∷ []), codes "id-Gost28147-89-CryptoPro-A-ParamSet") ∷
    (arcs (1 ∷ 2 ∷ 643 ∷ 7 ∷ 1 ∷ 1 ∷ 5 ∷ 1 ∷ 1 ∷ []), codes "magma-ctr-acpkm") ∷
    (arcs (1 ∷ 2 ∷ 643 ∷ 7 ∷ 1 ∷ 1 ∷ 5 ∷ 1 ∷ 2 ∷ []), codes "magma-ctr-acpkm-omac") ∷
    (arcs (1 ∷ 2 ∷ 643 ∷ 7 ∷ 1 ∷ 1 ∷ 5 ∷ 2 ∷ 1 ∷ []), codes "kuznyechik-ctr-acpkm") ∷
    (arcs (1 ∷ 2 ∷ 643 ∷ 7 ∷ 1 ∷ 1 ∷ 5 ∷ 2 ∷ 2 ∷ []), codes "kuznyechik-ctr-acpkm-omac") ∷ []
