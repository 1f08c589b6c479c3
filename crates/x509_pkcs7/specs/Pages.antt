-- Page hashes of Authenticode: the data of a serialized object of that class, a SET OF SpcAttributeTypeAndOptionalValue.
-- SpcAttributeTypeAndOptionalValue ::= SEQUENCE { type OBJECT IDENTIFIER, value SET OF OCTET STRING }
use Rattle.std.specs.Prelude.{ℕ, ◌+◌, ◌*◌, List, [], ◌∷◌, Option, None, Some, map, take, drop, length, if◌then◌else◌}
use Rattle.std.proofs.Common.{inl, inr, eqb, refl}
use Rattle.std.specs.Int.{from_le_bytes, w32}
use Rattle.std.specs.Str.{bytes_eq}
use Rattle.asn1_core.specs.Asn1.{Contents, contents, ◌then◌, end, OBJECT_IDENTIFIER, OCTET_STRING, SET_OF}
use Rattle.asn1_core.specs.Der.{octets_of, arcs, der_equal, SeesEqual, Octets, OidOctets}
use Rattle.x509_base.specs.SpcLinks.{spc_link}
use Rattle.x509_base.specs.SpcObjects.{page_hash_class}
use Rattle.x509_pkcs7.specs.declared.verifier.pages.PageHashes.{PageHashes}
use Rattle.x509_pkcs7.specs.contracts.verifier.pages.PageHashesPartialEq.TheImpl as PagesEq

abbrev pub page_hashes : Contents
page_hashes = contents (OBJECT_IDENTIFIER then SET_OF OCTET_STRING then end) refl

abbrev pub page_hashes_value : PageHashes → page_hashes.Value
page_hashes_value x = (octets_of x.ty.0, (map (λ o. o.0.items) x.value.0.items, tt))

pub page_hashes_equal : SeesEqual PagesEq.ghosts.eq page_hashes_value
page_hashes_equal x y = search der_equal depth 20

-- the data of an object, if its class is that of page hashes
abbrev pub page_hashes_in : Octets → Octets → Option Octets
page_hashes_in class octets = if bytes_eq class page_hash_class then Some octets else None

-- the same of the object that a link is
abbrev pub page_hashes_linked : spc_link.Value → Option Octets
page_hashes_linked (inl url) = None
page_hashes_linked (inr (inl object)) = page_hashes_in object.0 object.1.0
page_hashes_linked (inr (inr file)) = None

-- SPC_PE_IMAGE_PAGE_HASHES_V1_OBJID and SPC_PE_IMAGE_PAGE_HASHES_V2_OBJID (wintrust.h), and how many octets a digest has
abbrev pub by_sha1 : OidOctets
by_sha1 = arcs (1 ∷ 3 ∷ 6 ∷ 1 ∷ 4 ∷ 1 ∷ 311 ∷ 2 ∷ 3 ∷ 1 ∷ [])

abbrev pub by_sha256 : OidOctets
by_sha256 = arcs (1 ∷ 3 ∷ 6 ∷ 1 ∷ 4 ∷ 1 ∷ 311 ∷ 2 ∷ 3 ∷ 2 ∷ [])

abbrev pub digest_len_of : OidOctets → Option ℕ
digest_len_of oid = if bytes_eq oid by_sha1 then Some 20 else if bytes_eq oid by_sha256 then Some 32 else None

-- the offset and the digest that n octets are, if there are so many
abbrev pub parts_of : ℕ → Octets → Option (ℕ × Octets)
parts_of n b = if eqb (length b) n then Some (from_le_bytes w32 (take 4 b), drop 4 b) else None

-- an entry of a table with digests of n octets
abbrev pub entry_in : ℕ → Octets → ℕ → Option (ℕ × Octets)
entry_in n table i = parts_of (n + 4) (take (n + 4) (drop ((n + 4) * i) table))

abbrev pub entry_of_first : Option ℕ → List Octets → ℕ → Option (ℕ × Octets)
entry_of_first None tables i = None
entry_of_first (Some n) [] i = None
entry_of_first (Some n) (table ∷ more) i = entry_in n table i

abbrev pub entry_of : page_hashes.Value → ℕ → Option (ℕ × Octets)
entry_of v i = entry_of_first (digest_len_of v.0) v.1.0 i
