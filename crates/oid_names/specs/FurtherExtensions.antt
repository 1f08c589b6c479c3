-- Names of extensions of other documents than RFC 5280. Made of asn1/object_identifiers.txt.
use Rattle.std.specs.Prelude.{ℕ, List, [], ◌∷◌, codes}
use Rattle.asn1_core_oid.specs.Arcs.{arcs}

abbrev pub further_extensions_names : List (List ℕ × List ℕ)
further_extensions_names =
    (arcs (1 ∷ 3 ∷ 6 ∷ 1 ∷ 5 ∷ 5 ∷ 7 ∷ 1 ∷ 1 ∷ []), codes "Authority Information Access") ∷
    (arcs (1 ∷ 3 ∷ 6 ∷ 1 ∷ 5 ∷ 5 ∷ 7 ∷ 1 ∷ 2 ∷ []), codes "Biometric Info") ∷
    (arcs (1 ∷ 3 ∷ 6 ∷ 1 ∷ 5 ∷ 5 ∷ 7 ∷ 1 ∷ 3 ∷ []), codes "qcStatements") ∷
    (arcs (1 ∷ 3 ∷ 6 ∷ 1 ∷ 5 ∷ 5 ∷ 7 ∷ 1 ∷ 7 ∷ []), codes "sbgp-ipAddrBlock") ∷
    (arcs (1 ∷ 3 ∷ 6 ∷ 1 ∷ 5 ∷ 5 ∷ 7 ∷ 1 ∷ 8 ∷ []), codes "sbgp-autonomousSysNum") ∷
    (arcs (1 ∷ 3 ∷ 6 ∷ 1 ∷ 5 ∷ 5 ∷ 7 ∷ 1 ∷ 11 ∷ []), codes "Subject Information Access") ∷
    (arcs (1 ∷ 3 ∷ 6 ∷ 1 ∷ 5 ∷ 5 ∷ 7 ∷ 1 ∷ 14 ∷ []), codes "Proxy Certificate Information") ∷
    (arcs (1 ∷ 3 ∷ 6 ∷ 1 ∷ 5 ∷ 5 ∷ 7 ∷ 1 ∷ 24 ∷ []), codes "TLS Feature") ∷
    (arcs (1 ∷ 3 ∷ 6 ∷ 1 ∷ 5 ∷ 5 ∷ 7 ∷ 2 ∷ 1 ∷ []), codes "Policy Qualifier CPS") ∷
    (arcs (1 ∷ 3 ∷ 6 ∷ 1 ∷ 5 ∷ 5 ∷ 7 ∷ 2 ∷ 2 ∷ []), codes "Policy Qualifier User Notice") ∷
    (arcs (1 ∷ 3 ∷ 6 ∷ 1 ∷ 5 ∷ 5 ∷ 7 ∷ 21 ∷ 1 ∷ []), codes "Inherit all") ∷
    (arcs (1 ∷ 3 ∷ 6 ∷ 1 ∷ 5 ∷ 5 ∷ 7 ∷ 11 ∷ 1 ∷ []), codes "id-qcs-pkixQCSyntax-v1") ∷
    (arcs (1 ∷ 3 ∷ 6 ∷ 1 ∷ 4 ∷ 1 ∷ 11129 ∷ 2 ∷ 4 ∷ 2 ∷ []), codes "CT Precertificate SCTs") ∷
    (arcs (1 ∷ 3 ∷ 6 ∷ 1 ∷ 4 ∷ 1 ∷ 11129 ∷ 2 ∷ 4 ∷ 3 ∷ []), codes "CT Precertificate Poison") ∷
    (arcs (1 ∷ 3 ∷ 6 ∷ 1 ∷ 4 ∷ 1 ∷ 11129 ∷ 2 ∷ 4 ∷ 4 ∷ []), codes "CT Precertificate Signer") ∷
    (arcs (1 ∷ 3 ∷ 6 ∷ 1 ∷ 4 ∷ 1 ∷ 11129 ∷ 2 ∷ 4 ∷ 5 ∷ []), codes "CT Certificate SCTs") ∷
    (arcs (2 ∷ 16 ∷ 840 ∷ 1 ∷ 113730 ∷ 1 ∷ 1 ∷ []), codes "Netscape Cert Type") ∷
    (arcs (2 ∷ 16 ∷ 840 ∷ 1 ∷ 113730 ∷ 1 ∷ 2 ∷ []), codes "Netscape Base Url") ∷
    (arcs (2 ∷ 16 ∷ 840 ∷ 1 ∷ 113730 ∷ 1 ∷ 3 ∷ []), codes "Netscape Revocation Url") ∷
    (arcs (2 ∷ 16 ∷ 840 ∷ 1 ∷ 113730 ∷ 1 ∷ 4 ∷ []), codes "Netscape CA Revocation Url") ∷
    (arcs (2 ∷ 16 ∷ 840 ∷ 1 ∷ 113730 ∷ 1 ∷ 7 ∷ []), codes "Netscape Renewal Url") ∷
    (arcs (2 ∷ 16 ∷ 840 ∷ 1 ∷ 113730 ∷ 1 ∷ 8 ∷ []), codes "Netscape CA Policy Url") ∷
    (arcs (2 ∷ 16 ∷ 840 ∷ 1 ∷ 113730 ∷ 1 ∷ 12 ∷ []), codes "Netscape SSL Server Name") ∷
    (arcs (2 ∷ 16 ∷ 840 ∷ 1 ∷ 113730 ∷ 1 ∷ 13 ∷ []), codes "Netscape Comment") ∷ []
