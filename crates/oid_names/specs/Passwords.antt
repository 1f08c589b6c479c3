-- Names of encryption by passwords. Made of asn1/object_identifiers.txt.
use Rattle.std.specs.Prelude.{ℕ, List, [], ◌∷◌, codes}
use Rattle.asn1_core_oid.specs.Arcs.{arcs}

abbrev pub passwords_names : List (List ℕ × List ℕ)
passwords_names =
    (arcs (1 ∷ 2 ∷ 840 ∷ 113549 ∷ 1 ∷ 12 ∷ 1 ∷ 1 ∷ []), codes "pbeWithSHA1And128BitRC4") ∷
    (arcs (1 ∷ 2 ∷ 840 ∷ 113549 ∷ 1 ∷ 12 ∷ 1 ∷ 2 ∷ []), codes "pbeWithSHA1And40BitRC4") ∷
    (arcs (1 ∷ 2 ∷ 840 ∷ 113549 ∷ 1 ∷ 12 ∷ 1 ∷ 3 ∷ []), codes "pbeWithSHA1And3-KeyTripleDES-CBC") ∷
    (arcs (1 ∷ 2 ∷ 840 ∷ 113549 ∷ 1 ∷ 12 ∷ 1 ∷ 4 ∷ []), codes "pbeWithSHA1And2-KeyTripleDES-CBC") ∷
    (arcs (1 ∷ 2 ∷ 840 ∷ 113549 ∷ 1 ∷ 12 ∷ 1 ∷ 5 ∷ []), codes "pbeWithSHA1And128BitRC2-CBC") ∷
    (arcs (1 ∷ 2 ∷ 840 ∷ 113549 ∷ 1 ∷ 12 ∷ 1 ∷ 6 ∷ []), codes "pbeWithSHA1And40BitRC2-CBC") ∷
    (arcs (1 ∷ 2 ∷ 840 ∷ 113549 ∷ 1 ∷ 5 ∷ 1 ∷ []), codes "pbeWithMD2AndDES-CBC") ∷
    (arcs (1 ∷ 2 ∷ 840 ∷ 113549 ∷ 1 ∷ 5 ∷ 3 ∷ []), codes "pbeWithMD5AndDES-CBC") ∷
    (arcs (1 ∷ 2 ∷ 840 ∷ 113549 ∷ 1 ∷ 5 ∷ 4 ∷ []), codes "pbeWithMD2AndRC2-CBC") ∷
    (arcs (1 ∷ 2 ∷ 840 ∷ 113549 ∷ 1 ∷ 5 ∷ 6 ∷ []), codes "pbeWithMD5AndRC2-CBC") ∷
    (arcs (1 ∷ 2 ∷ 840 ∷ 113549 ∷ 1 ∷ 5 ∷ 10 ∷ []), codes "pbeWithSHA1AndDES-CBC") ∷
    (arcs (1 ∷ 2 ∷ 840 ∷ 113549 ∷ 1 ∷ 5 ∷ 11 ∷ []), codes "pbeWithSHA1AndRC2-CBC") ∷
    (arcs (1 ∷ 2 ∷ 840 ∷ 113549 ∷ 1 ∷ 5 ∷ 12 ∷ []), codes "PBKDF2") ∷
    (arcs (1 ∷ 2 ∷ 840 ∷ 113549 ∷ 1 ∷ 5 ∷ 13 ∷ []), codes "PBES2") ∷
    (arcs (1 ∷ 2 ∷ 840 ∷ 113549 ∷ 1 ∷ 5 ∷ 14 ∷ []), codes "PBMAC1") ∷
    (arcs (1 ∷ 3 ∷ 6 ∷ 1 ∷ 4 ∷ 1 ∷ 11591 ∷ 4 ∷ 11 ∷ []), codes "scrypt") ∷
    (arcs (1 ∷ 2 ∷ 840 ∷ 113549 ∷ 1 ∷ 9 ∷ 16 ∷ 3 ∷ 9 ∷ []), codes "id-alg-PWRI-KEK") ∷ []
