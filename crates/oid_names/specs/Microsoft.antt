-- Names of Authenticode, trust lists and certificates of Microsoft. Made of asn1/object_identifiers.txt.
use Rattle.std.specs.Prelude.{ℕ, List, [], ◌∷◌, codes}
use Rattle.asn1_core_oid.specs.Arcs.{arcs}

abbrev pub microsoft_names : List (List ℕ × List ℕ)
microsoft_names =
    (arcs (1 ∷ 3 ∷ 6 ∷ 1 ∷ 4 ∷ 1 ∷ 311 ∷ 2 ∷ 1 ∷ 4 ∷ []), codes "SpcIndirectDataContent") ∷
    (arcs (1 ∷ 3 ∷ 6 ∷ 1 ∷ 4 ∷ 1 ∷ 311 ∷ 2 ∷ 1 ∷ 10 ∷ []), codes "SpcAgencyInfo") ∷
    (arcs (1 ∷ 3 ∷ 6 ∷ 1 ∷ 4 ∷ 1 ∷ 311 ∷ 2 ∷ 1 ∷ 11 ∷ []), codes "SpcStatementType") ∷
    (arcs (1 ∷ 3 ∷ 6 ∷ 1 ∷ 4 ∷ 1 ∷ 311 ∷ 2 ∷ 1 ∷ 12 ∷ []), codes "SpcSpOpusInfo") ∷
    (arcs (1 ∷ 3 ∷ 6 ∷ 1 ∷ 4 ∷ 1 ∷ 311 ∷ 2 ∷ 1 ∷ 14 ∷ []), codes "Microsoft Extension Request") ∷
    (arcs (1 ∷ 3 ∷ 6 ∷ 1 ∷ 4 ∷ 1 ∷ 311 ∷ 2 ∷ 1 ∷ 15 ∷ []), codes "SpcPeImageData") ∷
    (arcs (1 ∷ 3 ∷ 6 ∷ 1 ∷ 4 ∷ 1 ∷ 311 ∷ 2 ∷ 1 ∷ 21 ∷ []), codes "Microsoft Individual Code Signing") ∷
    (arcs (1 ∷ 3 ∷ 6 ∷ 1 ∷ 4 ∷ 1 ∷ 311 ∷ 2 ∷ 1 ∷ 22 ∷ []), codes "Microsoft Commercial Code Signing") ∷
    (arcs (1 ∷ 3 ∷ 6 ∷ 1 ∷ 4 ∷ 1 ∷ 311 ∷ 2 ∷ 1 ∷ 25 ∷ []), codes "SpcCabData") ∷
    (arcs (1 ∷ 3 ∷ 6 ∷ 1 ∷ 4 ∷ 1 ∷ 311 ∷ 2 ∷ 1 ∷ 30 ∷ []), codes "SpcSipInfo") ∷
    (arcs (1 ∷ 3 ∷ 6 ∷ 1 ∷ 4 ∷ 1 ∷ 311 ∷ 2 ∷ 3 ∷ 1 ∷ []), codes "SpcPageHashesV1") ∷
    (arcs (1 ∷ 3 ∷ 6 ∷ 1 ∷ 4 ∷ 1 ∷ 311 ∷ 2 ∷ 3 ∷ 2 ∷ []), codes "SpcPageHashesV2") ∷
    (arcs (1 ∷ 3 ∷ 6 ∷ 1 ∷ 4 ∷ 1 ∷ 311 ∷ 2 ∷ 4 ∷ 1 ∷ []), codes "nestedSignature") ∷
    (arcs (1 ∷ 3 ∷ 6 ∷ 1 ∷ 4 ∷ 1 ∷ 311 ∷ 3 ∷ 3 ∷ 1 ∷ []), codes "timestampToken") ∷
    (arcs (1 ∷ 3 ∷ 6 ∷ 1 ∷ 4 ∷ 1 ∷ 311 ∷ 10 ∷ 1 ∷ []), codes "certTrustList") ∷
    (arcs (1 ∷ 3 ∷ 6 ∷ 1 ∷ 4 ∷ 1 ∷ 311 ∷ 10 ∷ 2 ∷ []), codes "nextUpdateLocation") ∷
    (arcs (1 ∷ 3 ∷ 6 ∷ 1 ∷ 4 ∷ 1 ∷ 311 ∷ 10 ∷ 3 ∷ 9 ∷ []), codes "rootListSigner") ∷
    (arcs (1 ∷ 3 ∷ 6 ∷ 1 ∷ 4 ∷ 1 ∷ 311 ∷ 12 ∷ 1 ∷ 1 ∷ []), codes "catalogList") ∷
    (arcs (1 ∷ 3 ∷ 6 ∷ 1 ∷ 4 ∷ 1 ∷ 311 ∷ 12 ∷ 1 ∷ 2 ∷ []), codes "catalogListMember") ∷
    (arcs (1 ∷ 3 ∷ 6 ∷ 1 ∷ 4 ∷ 1 ∷ 311 ∷ 20 ∷ 2 ∷ []), codes "certificateTemplateName") ∷
    (arcs (1 ∷ 3 ∷ 6 ∷ 1 ∷ 4 ∷ 1 ∷ 311 ∷ 20 ∷ 2 ∷ 3 ∷ []), codes "Microsoft User Principal Name") ∷
    (arcs (1 ∷ 3 ∷ 6 ∷ 1 ∷ 4 ∷ 1 ∷ 311 ∷ 21 ∷ 1 ∷ []), codes "cAVersion") ∷
    (arcs (1 ∷ 3 ∷ 6 ∷ 1 ∷ 4 ∷ 1 ∷ 311 ∷ 21 ∷ 7 ∷ []), codes "Microsoft certificate template") ∷
    (arcs (1 ∷ 3 ∷ 6 ∷ 1 ∷ 4 ∷ 1 ∷ 311 ∷ 21 ∷ 10 ∷ []), codes "Microsoft Application Policies Extension") ∷
    (arcs (1 ∷ 3 ∷ 6 ∷ 1 ∷ 4 ∷ 1 ∷ 311 ∷ 25 ∷ 2 ∷ []), codes "Microsoft NTDS CA Extension") ∷ []
