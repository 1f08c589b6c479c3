-- The object identifiers that bags, attributes and contents are known by, by their arcs.
use Rattle.std.specs.Prelude.{ℕ, zero, suc, List, [], ◌∷◌}
use Rattle.asn1_core.specs.Der.{arcs}
pub use Rattle.asn1_core_oid.specs.Known.{data_oid}

abbrev pkcs : List ℕ → List ℕ
pkcs further = 1 ∷ 2 ∷ 840 ∷ 113549 ∷ 1 ∷ further

-- the arcs of each, in the order of their numbers
abbrev pub known_arcs : List (List ℕ)
known_arcs =
    pkcs (7 ∷ 1 ∷ [])  -- pkcs7-data
    ∷ pkcs (7 ∷ 6 ∷ [])  -- pkcs7-encryptedData
    ∷ pkcs (9 ∷ 20 ∷ [])  -- pkcs-9-at-friendlyName
    ∷ pkcs (9 ∷ 21 ∷ [])  -- pkcs-9-at-localKeyId
    ∷ pkcs (9 ∷ 22 ∷ 1 ∷ [])  -- x509Certificate
    ∷ pkcs (9 ∷ 23 ∷ 1 ∷ [])  -- x509CRL
    ∷ pkcs (12 ∷ 10 ∷ 1 ∷ 1 ∷ [])  -- keyBag
    ∷ pkcs (12 ∷ 10 ∷ 1 ∷ 2 ∷ [])  -- pkcs8ShroudedKeyBag
    ∷ pkcs (12 ∷ 10 ∷ 1 ∷ 3 ∷ [])  -- certBag
    ∷ pkcs (12 ∷ 10 ∷ 1 ∷ 4 ∷ [])  -- crlBag
    ∷ pkcs (12 ∷ 10 ∷ 1 ∷ 5 ∷ [])  -- secretBag
    ∷ pkcs (12 ∷ 10 ∷ 1 ∷ 6 ∷ [])  -- safeContentsBag
    ∷ []

-- the arcs of a number; past the last those of 2.999, which is registered for examples and names nothing
abbrev pub row_at : List (List ℕ) → ℕ → List ℕ
row_at [] n = 2 ∷ 999 ∷ []
row_at (row ∷ rows) zero = row
row_at (row ∷ rows) (suc n) = row_at rows n

-- the contents octets of the object identifier with that number
abbrev pub oid : ℕ → List ℕ
oid n = arcs (row_at known_arcs n)
