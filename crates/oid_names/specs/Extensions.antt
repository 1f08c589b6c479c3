-- Names of extensions of certificates and of revocation lists. Made of asn1/object_identifiers.txt.
use Rattle.std.specs.Prelude.{ℕ, List, [], ◌∷◌, codes}
use Rattle.asn1_core_oid.specs.Arcs.{arcs}

abbrev pub extensions_names : List (List ℕ × List ℕ)
extensions_names =
    (arcs (2 ∷ 5 ∷ 29 ∷ 9 ∷ []), codes "X509v3 Subject Directory Attributes") ∷
    (arcs (2 ∷ 5 ∷ 29 ∷ 14 ∷ []), codes "X509v3 Subject Key Identifier") ∷
    (arcs (2 ∷ 5 ∷ 29 ∷ 15 ∷ []), codes "X509v3 Key Usage") ∷
    (arcs (2 ∷ 5 ∷ 29 ∷ 16 ∷ []), codes "X509v3 Private Key Usage Period") ∷
    (arcs (2 ∷ 5 ∷ 29 ∷ 17 ∷ []), codes "X509v3 Subject Alternative Name") ∷
    (arcs (2 ∷ 5 ∷ 29 ∷ 18 ∷ []), codes "X509v3 Issuer Alternative Name") ∷
    (arcs (2 ∷ 5 ∷ 29 ∷ 19 ∷ []), codes "X509v3 Basic Constraints") ∷
    (arcs (2 ∷ 5 ∷ 29 ∷ 20 ∷ []), codes "X509v3 CRL Number") ∷
    (arcs (2 ∷ 5 ∷ 29 ∷ 21 ∷ []), codes "X509v3 CRL Reason Code") ∷
    (arcs (2 ∷ 5 ∷ 29 ∷ 23 ∷ []), codes "Hold Instruction Code") ∷
    (arcs (2 ∷ 5 ∷ 29 ∷ 24 ∷ []), codes "Invalidity Date") ∷
    (arcs (2 ∷ 5 ∷ 29 ∷ 27 ∷ []), codes "X509v3 Delta CRL Indicator") ∷
    (arcs (2 ∷ 5 ∷ 29 ∷ 28 ∷ []), codes "X509v3 Issuing Distribution Point") ∷
    (arcs (2 ∷ 5 ∷ 29 ∷ 29 ∷ []), codes "X509v3 Certificate Issuer") ∷
    (arcs (2 ∷ 5 ∷ 29 ∷ 30 ∷ []), codes "X509v3 Name Constraints") ∷
    (arcs (2 ∷ 5 ∷ 29 ∷ 31 ∷ []), codes "X509v3 CRL Distribution Points") ∷
    (arcs (2 ∷ 5 ∷ 29 ∷ 32 ∷ []), codes "X509v3 Certificate Policies") ∷
    (arcs (2 ∷ 5 ∷ 29 ∷ 32 ∷ 0 ∷ []), codes "X509v3 Any Policy") ∷
    (arcs (2 ∷ 5 ∷ 29 ∷ 33 ∷ []), codes "X509v3 Policy Mappings") ∷
    (arcs (2 ∷ 5 ∷ 29 ∷ 35 ∷ []), codes "X509v3 Authority Key Identifier") ∷
    (arcs (2 ∷ 5 ∷ 29 ∷ 36 ∷ []), codes "X509v3 Policy Constraints") ∷
    (arcs (2 ∷ 5 ∷ 29 ∷ 37 ∷ []), codes "X509v3 Extended Key Usage") ∷
    (arcs (2 ∷ 5 ∷ 29 ∷ 46 ∷ []), codes "X509v3 Freshest CRL") ∷
    (arcs (2 ∷ 5 ∷ 29 ∷ 54 ∷ []), codes "X509v3 Inhibit Any Policy") ∷
    (arcs (2 ∷ 5 ∷ 29 ∷ 55 ∷ []), codes "X509v3 AC Targeting") ∷
    (arcs (2 ∷ 5 ∷ 29 ∷ 56 ∷ []), codes "X509v3 No Revocation Available") ∷ []
