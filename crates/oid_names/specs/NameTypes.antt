-- Names of types of attributes in names. Made of asn1/object_identifiers.txt.
use Rattle.std.specs.Prelude.{ℕ, List, [], ◌∷◌, codes}
use Rattle.asn1_core_oid.specs.Arcs.{arcs}

abbrev pub name_types_names : List (List ℕ × List ℕ)
name_types_names =
    (arcs (2 ∷ 5 ∷ 4 ∷ 3 ∷ []), codes "commonName") ∷
    (arcs (2 ∷ 5 ∷ 4 ∷ 4 ∷ []), codes "surname") ∷
    (arcs (2 ∷ 5 ∷ 4 ∷ 5 ∷ []), codes "serialNumber") ∷
    (arcs (2 ∷ 5 ∷ 4 ∷ 6 ∷ []), codes "countryName") ∷
    (arcs (2 ∷ 5 ∷ 4 ∷ 7 ∷ []), codes "localityName") ∷
    (arcs (2 ∷ 5 ∷ 4 ∷ 8 ∷ []), codes "stateOrProvinceName") ∷
    (arcs (2 ∷ 5 ∷ 4 ∷ 9 ∷ []), codes "streetAddress") ∷
    (arcs (2 ∷ 5 ∷ 4 ∷ 10 ∷ []), codes "organizationName") ∷
    (arcs (2 ∷ 5 ∷ 4 ∷ 11 ∷ []), codes "organizationalUnitName") ∷
    (arcs (2 ∷ 5 ∷ 4 ∷ 12 ∷ []), codes "title") ∷
    (arcs (2 ∷ 5 ∷ 4 ∷ 13 ∷ []), codes "description") ∷
    (arcs (2 ∷ 5 ∷ 4 ∷ 15 ∷ []), codes "businessCategory") ∷
    (arcs (2 ∷ 5 ∷ 4 ∷ 16 ∷ []), codes "postalAddress") ∷
    (arcs (2 ∷ 5 ∷ 4 ∷ 17 ∷ []), codes "postalCode") ∷
    (arcs (2 ∷ 5 ∷ 4 ∷ 18 ∷ []), codes "postOfficeBox") ∷
    (arcs (2 ∷ 5 ∷ 4 ∷ 20 ∷ []), codes "telephoneNumber") ∷
    (arcs (2 ∷ 5 ∷ 4 ∷ 41 ∷ []), codes "name") ∷
    (arcs (2 ∷ 5 ∷ 4 ∷ 42 ∷ []), codes "givenName") ∷
    (arcs (2 ∷ 5 ∷ 4 ∷ 43 ∷ []), codes "initials") ∷
    (arcs (2 ∷ 5 ∷ 4 ∷ 44 ∷ []), codes "generationQualifier") ∷
    (arcs (2 ∷ 5 ∷ 4 ∷ 45 ∷ []), codes "x500UniqueIdentifier") ∷
    (arcs (2 ∷ 5 ∷ 4 ∷ 46 ∷ []), codes "dnQualifier") ∷
    (arcs (2 ∷ 5 ∷ 4 ∷ 49 ∷ []), codes "distinguishedName") ∷
    (arcs (2 ∷ 5 ∷ 4 ∷ 65 ∷ []), codes "pseudonym") ∷
    (arcs (2 ∷ 5 ∷ 4 ∷ 72 ∷ []), codes "role") ∷
    (arcs (2 ∷ 5 ∷ 4 ∷ 97 ∷ []), codes "organizationIdentifier") ∷
    (arcs (0 ∷ 9 ∷ 2342 ∷ 19200300 ∷ 100 ∷ 1 ∷ 1 ∷ []), codes "userId") ∷
    (arcs (0 ∷ 9 ∷ 2342 ∷ 19200300 ∷ 100 ∷ 1 ∷ 3 ∷ []), codes "rfc822Mailbox") ∷
    (arcs (0 ∷ 9 ∷ 2342 ∷ 19200300 ∷ 100 ∷ 1 ∷ 25 ∷ []), codes "domainComponent") ∷
    (arcs (1 ∷ 3 ∷ 6 ∷ 1 ∷ 4 ∷ 1 ∷ 311 ∷ 60 ∷ 2 ∷ 1 ∷ 1 ∷ []), codes "jurisdictionLocalityName") ∷
    (arcs (1 ∷ 3 ∷ 6 ∷ 1 ∷ 4 ∷ 1 ∷ 311 ∷ 60 ∷ 2 ∷ 1 ∷ 2 ∷ []), codes "jurisdictionStateOrProvinceName") ∷
    (arcs (1 ∷ 3 ∷ 6 ∷ 1 ∷ 4 ∷ 1 ∷ 311 ∷ 60 ∷ 2 ∷ 1 ∷ 3 ∷ []), codes "jurisdictionCountryName") ∷ []
