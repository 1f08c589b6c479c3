-- Names of contents of PKCS #7 and CMS. Made of asn1/object_identifiers.txt.
use Rattle.std.specs.Prelude.{ℕ, List, [], ◌∷◌, codes}
use Rattle.asn1_core_oid.specs.Arcs.{arcs}

abbrev pub content_types_names : List (List ℕ × List ℕ)
content_types_names =
    (arcs (1 ∷ 2 ∷ 840 ∷ 113549 ∷ 1 ∷ 7 ∷ 1 ∷ []), codes "pkcs7-data") ∷
    (arcs (1 ∷ 2 ∷ 840 ∷ 113549 ∷ 1 ∷ 7 ∷ 2 ∷ []), codes "pkcs7-signedData") ∷
    (arcs (1 ∷ 2 ∷ 840 ∷ 113549 ∷ 1 ∷ 7 ∷ 3 ∷ []), codes "pkcs7-envelopedData") ∷
    (arcs (1 ∷ 2 ∷ 840 ∷ 113549 ∷ 1 ∷ 7 ∷ 4 ∷ []), codes "pkcs7-signedAndEnvelopedData") ∷
    (arcs (1 ∷ 2 ∷ 840 ∷ 113549 ∷ 1 ∷ 7 ∷ 5 ∷ []), codes "pkcs7-digestData") ∷
    (arcs (1 ∷ 2 ∷ 840 ∷ 113549 ∷ 1 ∷ 7 ∷ 6 ∷ []), codes "pkcs7-encryptedData") ∷
    (arcs (1 ∷ 2 ∷ 840 ∷ 113549 ∷ 1 ∷ 9 ∷ 16 ∷ 1 ∷ 1 ∷ []), codes "id-smime-ct-receipt") ∷
    (arcs (1 ∷ 2 ∷ 840 ∷ 113549 ∷ 1 ∷ 9 ∷ 16 ∷ 1 ∷ 2 ∷ []), codes "id-smime-ct-authData") ∷
    (arcs (1 ∷ 2 ∷ 840 ∷ 113549 ∷ 1 ∷ 9 ∷ 16 ∷ 1 ∷ 4 ∷ []), codes "id-smime-ct-TSTInfo") ∷
    (arcs (1 ∷ 2 ∷ 840 ∷ 113549 ∷ 1 ∷ 9 ∷ 16 ∷ 1 ∷ 6 ∷ []), codes "id-smime-ct-contentInfo") ∷
    (arcs (1 ∷ 2 ∷ 840 ∷ 113549 ∷ 1 ∷ 9 ∷ 16 ∷ 1 ∷ 7 ∷ []), codes "id-smime-ct-DVCSRequestData") ∷
    (arcs (1 ∷ 2 ∷ 840 ∷ 113549 ∷ 1 ∷ 9 ∷ 16 ∷ 1 ∷ 8 ∷ []), codes "id-smime-ct-DVCSResponseData") ∷
    (arcs (1 ∷ 2 ∷ 840 ∷ 113549 ∷ 1 ∷ 9 ∷ 16 ∷ 1 ∷ 9 ∷ []), codes "id-smime-ct-compressedData") ∷
    (arcs (1 ∷ 2 ∷ 840 ∷ 113549 ∷ 1 ∷ 9 ∷ 16 ∷ 1 ∷ 19 ∷ []), codes "id-smime-ct-contentCollection") ∷
    (arcs (1 ∷ 2 ∷ 840 ∷ 113549 ∷ 1 ∷ 9 ∷ 16 ∷ 1 ∷ 23 ∷ []), codes "id-smime-ct-authEnvelopedData") ∷
    (arcs (1 ∷ 2 ∷ 840 ∷ 113549 ∷ 1 ∷ 9 ∷ 16 ∷ 1 ∷ 24 ∷ []), codes "id-ct-routeOriginAuthz") ∷
    (arcs (1 ∷ 2 ∷ 840 ∷ 113549 ∷ 1 ∷ 9 ∷ 16 ∷ 1 ∷ 26 ∷ []), codes "id-ct-rpkiManifest") ∷
    (arcs (1 ∷ 2 ∷ 840 ∷ 113549 ∷ 1 ∷ 9 ∷ 16 ∷ 1 ∷ 27 ∷ []), codes "id-ct-asciiTextWithCRLF") ∷
    (arcs (1 ∷ 2 ∷ 840 ∷ 113549 ∷ 1 ∷ 9 ∷ 16 ∷ 1 ∷ 28 ∷ []), codes "id-ct-xml") ∷
    (arcs (1 ∷ 2 ∷ 840 ∷ 113549 ∷ 1 ∷ 9 ∷ 16 ∷ 1 ∷ 35 ∷ []), codes "id-ct-rpkiGhostbusters") ∷
    (arcs (1 ∷ 3 ∷ 6 ∷ 1 ∷ 5 ∷ 5 ∷ 7 ∷ 16 ∷ 2 ∷ []), codes "id-ri-ocsp-response") ∷ []
