-- The attributes that a signer has by name (RFC 5652, 11).
use Rattle.std.specs.Prelude.{ℕ, List, [], ◌∷◌}
use Rattle.asn1_core.specs.Der.{arcs}

-- below the arc of PKCS #9
abbrev pkcs9 : ℕ → List ℕ
pkcs9 n = arcs (1 ∷ 2 ∷ 840 ∷ 113549 ∷ 1 ∷ 9 ∷ n ∷ [])

-- id-contentType (11.1)
abbrev pub content_type_oid : List ℕ
content_type_oid = pkcs9 3

-- id-messageDigest (11.2)
abbrev pub message_digest_oid : List ℕ
message_digest_oid = pkcs9 4

-- id-signingTime (11.3)
abbrev pub signing_time_oid : List ℕ
signing_time_oid = pkcs9 5
