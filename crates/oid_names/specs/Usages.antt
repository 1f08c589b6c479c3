-- Names of extended key usages. Made of asn1/object_identifiers.txt.
use Rattle.std.specs.Prelude.{ℕ, List, [], ◌∷◌, codes}
use Rattle.asn1_core_oid.specs.Arcs.{arcs}

abbrev pub usages_names : List (List ℕ × List ℕ)
usages_names =
    (arcs (2 ∷ 5 ∷ 29 ∷ 37 ∷ 0 ∷ []), codes "Any Extended Key Usage") ∷
    (arcs (1 ∷ 3 ∷ 6 ∷ 1 ∷ 5 ∷ 5 ∷ 7 ∷ 3 ∷ 1 ∷ []), codes "TLS Web Server Authentication") ∷
    (arcs (1 ∷ 3 ∷ 6 ∷ 1 ∷ 5 ∷ 5 ∷ 7 ∷ 3 ∷ 2 ∷ []), codes "TLS Web Client Authentication") ∷
    (arcs (1 ∷ 3 ∷ 6 ∷ 1 ∷ 5 ∷ 5 ∷ 7 ∷ 3 ∷ 3 ∷ []), codes "Code Signing") ∷
    (arcs (1 ∷ 3 ∷ 6 ∷ 1 ∷ 5 ∷ 5 ∷ 7 ∷ 3 ∷ 4 ∷ []), codes "E-mail Protection") ∷
    (arcs (1 ∷ 3 ∷ 6 ∷ 1 ∷ 5 ∷ 5 ∷ 7 ∷ 3 ∷ 5 ∷ []), codes "IPSec End System") ∷
    (arcs (1 ∷ 3 ∷ 6 ∷ 1 ∷ 5 ∷ 5 ∷ 7 ∷ 3 ∷ 6 ∷ []), codes "IPSec Tunnel") ∷
    (arcs (1 ∷ 3 ∷ 6 ∷ 1 ∷ 5 ∷ 5 ∷ 7 ∷ 3 ∷ 7 ∷ []), codes "IPSec User") ∷
    (arcs (1 ∷ 3 ∷ 6 ∷ 1 ∷ 5 ∷ 5 ∷ 7 ∷ 3 ∷ 8 ∷ []), codes "Time Stamping") ∷
    (arcs (1 ∷ 3 ∷ 6 ∷ 1 ∷ 5 ∷ 5 ∷ 7 ∷ 3 ∷ 9 ∷ []), codes "OCSP Signing") ∷
    (arcs (1 ∷ 3 ∷ 6 ∷ 1 ∷ 5 ∷ 5 ∷ 7 ∷ 3 ∷ 10 ∷ []), codes "dvcs") ∷
    (arcs (1 ∷ 3 ∷ 6 ∷ 1 ∷ 5 ∷ 5 ∷ 7 ∷ 3 ∷ 17 ∷ []), codes "ipsec Internet Key Exchange") ∷
    (arcs (1 ∷ 3 ∷ 6 ∷ 1 ∷ 5 ∷ 5 ∷ 7 ∷ 3 ∷ 21 ∷ []), codes "SSH Client") ∷
    (arcs (1 ∷ 3 ∷ 6 ∷ 1 ∷ 5 ∷ 5 ∷ 7 ∷ 3 ∷ 22 ∷ []), codes "SSH Server") ∷
    (arcs (1 ∷ 3 ∷ 6 ∷ 1 ∷ 5 ∷ 5 ∷ 7 ∷ 3 ∷ 27 ∷ []), codes "CMC Certificate Authority") ∷
    (arcs (1 ∷ 3 ∷ 6 ∷ 1 ∷ 5 ∷ 5 ∷ 7 ∷ 3 ∷ 28 ∷ []), codes "CMC Registration Authority") ∷
    (arcs (1 ∷ 3 ∷ 6 ∷ 1 ∷ 5 ∷ 5 ∷ 7 ∷ 3 ∷ 30 ∷ []), codes "BGPsec Router") ∷
    (arcs (1 ∷ 3 ∷ 6 ∷ 1 ∷ 5 ∷ 2 ∷ 3 ∷ 4 ∷ []), codes "PKINIT Client Auth") ∷
    (arcs (1 ∷ 3 ∷ 6 ∷ 1 ∷ 5 ∷ 2 ∷ 3 ∷ 5 ∷ []), codes "Signing KDC Response") ∷
    (arcs (1 ∷ 3 ∷ 6 ∷ 1 ∷ 4 ∷ 1 ∷ 311 ∷ 10 ∷ 3 ∷ 1 ∷ []), codes "Microsoft Trust List Signing") ∷
    (arcs (1 ∷ 3 ∷ 6 ∷ 1 ∷ 4 ∷ 1 ∷ 311 ∷ 10 ∷ 3 ∷ 3 ∷ []), codes "Microsoft Server Gated Crypto") ∷
    (arcs (1 ∷ 3 ∷ 6 ∷ 1 ∷ 4 ∷ 1 ∷ 311 ∷ 10 ∷ 3 ∷ 4 ∷ []), codes "Microsoft Encrypted File System") ∷
    (arcs (1 ∷ 3 ∷ 6 ∷ 1 ∷ 4 ∷ 1 ∷ 311 ∷ 20 ∷ 2 ∷ 2 ∷ []), codes "Microsoft Smartcard Login") ∷
    (arcs (2 ∷ 16 ∷ 840 ∷ 1 ∷ 113730 ∷ 4 ∷ 1 ∷ []), codes "Netscape Server Gated Crypto") ∷ []
