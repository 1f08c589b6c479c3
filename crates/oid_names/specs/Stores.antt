-- Names of bags of PKCS #12 and their attributes. Made of asn1/object_identifiers.txt.
use Rattle.std.specs.Prelude.{ℕ, List, [], ◌∷◌, codes}
use Rattle.asn1_core_oid.specs.Arcs.{arcs}

abbrev pub stores_names : List (List ℕ × List ℕ)
stores_names =
    (arcs (1 ∷ 2 ∷ 840 ∷ 113549 ∷ 1 ∷ 12 ∷ 10 ∷ 1 ∷ 1 ∷ []), codes "keyBag") ∷
    (arcs (1 ∷ 2 ∷ 840 ∷ 113549 ∷ 1 ∷ 12 ∷ 10 ∷ 1 ∷ 2 ∷ []), codes "pkcs8ShroudedKeyBag") ∷
    (arcs (1 ∷ 2 ∷ 840 ∷ 113549 ∷ 1 ∷ 12 ∷ 10 ∷ 1 ∷ 3 ∷ []), codes "certBag") ∷
    (arcs (1 ∷ 2 ∷ 840 ∷ 113549 ∷ 1 ∷ 12 ∷ 10 ∷ 1 ∷ 4 ∷ []), codes "crlBag") ∷
    (arcs (1 ∷ 2 ∷ 840 ∷ 113549 ∷ 1 ∷ 12 ∷ 10 ∷ 1 ∷ 5 ∷ []), codes "secretBag") ∷
    (arcs (1 ∷ 2 ∷ 840 ∷ 113549 ∷ 1 ∷ 12 ∷ 10 ∷ 1 ∷ 6 ∷ []), codes "safeContentsBag") ∷
    (arcs (1 ∷ 2 ∷ 840 ∷ 113549 ∷ 1 ∷ 9 ∷ 20 ∷ []), codes "friendlyName") ∷
    (arcs (1 ∷ 2 ∷ 840 ∷ 113549 ∷ 1 ∷ 9 ∷ 21 ∷ []), codes "localKeyID") ∷
    (arcs (1 ∷ 2 ∷ 840 ∷ 113549 ∷ 1 ∷ 9 ∷ 22 ∷ 1 ∷ []), codes "x509Certificate") ∷
    (arcs (1 ∷ 2 ∷ 840 ∷ 113549 ∷ 1 ∷ 9 ∷ 22 ∷ 2 ∷ []), codes "sdsiCertificate") ∷
    (arcs (1 ∷ 2 ∷ 840 ∷ 113549 ∷ 1 ∷ 9 ∷ 23 ∷ 1 ∷ []), codes "x509Crl") ∷
    (arcs (1 ∷ 3 ∷ 6 ∷ 1 ∷ 4 ∷ 1 ∷ 311 ∷ 17 ∷ 1 ∷ []), codes "Microsoft CSP Name") ∷
    (arcs (1 ∷ 3 ∷ 6 ∷ 1 ∷ 4 ∷ 1 ∷ 311 ∷ 17 ∷ 2 ∷ []), codes "Microsoft Local Key set") ∷
    (arcs (2 ∷ 16 ∷ 840 ∷ 1 ∷ 113894 ∷ 746875 ∷ 1 ∷ 1 ∷ []), codes "Trusted key usage (Oracle)") ∷ []
