-- Properties of certificates, which trust lists give as attributes: each has a number, and the object identifier
-- 1.3.6.1.4.1.311.10.11 with the number after it.
use Rattle.std.specs.Prelude.{◌==◌, ℕ, List, [], ◌∷◌, if◌then◌else◌}
use Rattle.asn1_core.specs.Der.{arcs}
use Rattle.pkcs7_content.specs.declared.trust_lists.properties.Shape.{Shape}
use Rattle.pkcs7_content.specs.declared.trust_lists.properties.Shape.TheVariants.{Octets, Usages, ChainPolicies, CertPolicies, Raws}

-- szOID_CERT_PROP_ID_PREFIX
abbrev pub property_prefix : List ℕ
property_prefix = arcs (1 ∷ 3 ∷ 6 ∷ 1 ∷ 4 ∷ 1 ∷ 311 ∷ 10 ∷ 11 ∷ [])

-- the octet after the prefix, where there is exactly one, and else 0, which is no property
abbrev pub octet_after : List ℕ → List ℕ → ℕ
octet_after [] [] = 0
octet_after [] (n ∷ []) = n
octet_after [] (n ∷ m ∷ os) = 0
octet_after (p ∷ ps) [] = 0
octet_after (p ∷ ps) (o ∷ os) = if o == p then octet_after ps os else 0

-- the number of an object identifier's property
abbrev pub property_of : List ℕ → ℕ
property_of o = octet_after property_prefix o

-- the numbers of the properties that are known, as wincrypt.h gives them, and what the values of each are
abbrev pub properties : List (ℕ × Shape)
properties =
    (98, Octets)  -- the SHA-256 of an authority's root
    ∷ (104, Octets)  -- the time from which it is disallowed
    ∷ (11, Octets)  -- a friendly name
    ∷ (20, Octets)  -- a key identifier
    ∷ (29, Octets)  -- the MD5 of a subject's name
    ∷ (126, Octets)  -- reserved
    ∷ (122, Usages)  -- disallowed key usages
    ∷ (9, Usages)  -- key usages
    ∷ (127, Usages)  -- reserved
    ∷ (105, ChainPolicies)  -- policies of a root program's chains
    ∷ (83, CertPolicies)  -- policies of a root's certificates
    ∷ []

abbrev pub shape_among : List (ℕ × Shape) → ℕ → Shape
shape_among [] n = Raws
shape_among (p ∷ ps) n = if n == p.0 then p.1 else shape_among ps n

-- what the values of a property are; of one that isn't known, any
abbrev pub shape_of : ℕ → Shape
shape_of n = shape_among properties n
