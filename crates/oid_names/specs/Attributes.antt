-- Names of attributes of PKCS #9, and of signers. Made of asn1/object_identifiers.txt.
use Rattle.std.specs.Prelude.{ℕ, List, [], ◌∷◌, codes}
use Rattle.asn1_core_oid.specs.Arcs.{arcs}

abbrev pub attributes_names : List (List ℕ × List ℕ)
attributes_names =
    (arcs (1 ∷ 2 ∷ 840 ∷ 113549 ∷ 1 ∷ 9 ∷ 1 ∷ []), codes "emailAddress") ∷
    (arcs (1 ∷ 2 ∷ 840 ∷ 113549 ∷ 1 ∷ 9 ∷ 2 ∷ []), codes "unstructuredName") ∷
    (arcs (1 ∷ 2 ∷ 840 ∷ 113549 ∷ 1 ∷ 9 ∷ 3 ∷ []), codes "contentType") ∷
    (arcs (1 ∷ 2 ∷ 840 ∷ 113549 ∷ 1 ∷ 9 ∷ 4 ∷ []), codes "messageDigest") ∷
    (arcs (1 ∷ 2 ∷ 840 ∷ 113549 ∷ 1 ∷ 9 ∷ 5 ∷ []), codes "signingTime") ∷
    (arcs (1 ∷ 2 ∷ 840 ∷ 113549 ∷ 1 ∷ 9 ∷ 6 ∷ []), codes "countersignature") ∷
    (arcs (1 ∷ 2 ∷ 840 ∷ 113549 ∷ 1 ∷ 9 ∷ 7 ∷ []), codes "challengePassword") ∷
    (arcs (1 ∷ 2 ∷ 840 ∷ 113549 ∷ 1 ∷ 9 ∷ 8 ∷ []), codes "unstructuredAddress") ∷
    (arcs (1 ∷ 2 ∷ 840 ∷ 113549 ∷ 1 ∷ 9 ∷ 9 ∷ []), codes "extendedCertificateAttributes") ∷
    (arcs (1 ∷ 2 ∷ 840 ∷ 113549 ∷ 1 ∷ 9 ∷ 14 ∷ []), codes "Extension Request") ∷
    (arcs (1 ∷ 2 ∷ 840 ∷ 113549 ∷ 1 ∷ 9 ∷ 15 ∷ []), codes "S/MIME Capabilities") ∷
    (arcs (1 ∷ 2 ∷ 840 ∷ 113549 ∷ 1 ∷ 9 ∷ 25 ∷ 3 ∷ []), codes "randomNonce") ∷
    (arcs (1 ∷ 2 ∷ 840 ∷ 113549 ∷ 1 ∷ 9 ∷ 25 ∷ 4 ∷ []), codes "sequenceNumber") ∷
    (arcs (1 ∷ 2 ∷ 840 ∷ 113549 ∷ 1 ∷ 9 ∷ 52 ∷ []), codes "id-aa-CMSAlgorithmProtection") ∷
    (arcs (1 ∷ 3 ∷ 6 ∷ 1 ∷ 5 ∷ 5 ∷ 7 ∷ 9 ∷ 1 ∷ []), codes "id-pda-dateOfBirth") ∷
    (arcs (1 ∷ 3 ∷ 6 ∷ 1 ∷ 5 ∷ 5 ∷ 7 ∷ 9 ∷ 2 ∷ []), codes "id-pda-placeOfBirth") ∷
    (arcs (1 ∷ 3 ∷ 6 ∷ 1 ∷ 5 ∷ 5 ∷ 7 ∷ 9 ∷ 3 ∷ []), codes "id-pda-gender") ∷
    (arcs (1 ∷ 3 ∷ 6 ∷ 1 ∷ 5 ∷ 5 ∷ 7 ∷ 9 ∷ 4 ∷ []), codes "id-pda-countryOfCitizenship") ∷
    (arcs (1 ∷ 3 ∷ 6 ∷ 1 ∷ 5 ∷ 5 ∷ 7 ∷ 9 ∷ 5 ∷ []), codes "id-pda-countryOfResidence") ∷
    (arcs (1 ∷ 2 ∷ 840 ∷ 113583 ∷ 1 ∷ 1 ∷ 8 ∷ []), codes "adbe-revocationInfoArchival") ∷ []
