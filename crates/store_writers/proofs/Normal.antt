-- What is written of contents and of a store is read as them.
use Rattle.std.specs.Prelude.{◌≡◌, ◌↔◌, IsTrue, true, Bool, ℕ, List, [], ◌∷◌, Option, None, Some, Result, Ok, Err, MatchResult, map}
use Rattle.std.proofs.Common.{ap, refl, subst, sym, ◌∙◌}
use Rattle.asn1_borrowed.specs.Written.{IsNotWritten}
use Rattle.asn1_core.specs.Asn1.{OBJECT_IDENTIFIER, OCTET_STRING, SEQUENCE}
use Rattle.asn1_core.specs.Der.{Format, IsElement, IsOid, IsTagByte, Octets, lawful_raw, nothing, octet_string, oid_from_test, optional, part, raw, sequence, version, within}
use Rattle.asn1_core_element.specs.declared.error.Error.{Error}
use Rattle.asn1_core_format.specs.laws.Whole.{value_of}
use Rattle.asn1_core_oid.specs.Known.{data_oid}
use Rattle.bag_ranges.specs.RawContentInfos.{raw_content_info}
use Rattle.pkcs12_algs.specs.Digests.{mac_data}
use Rattle.store_writers.specs.Written.{CONTENT, CONTENTS, IsAuthenticatedSafeOf, IsStoreOf, store_value}
use Rattle.x509_pkcs12.specs.MacOctets.{Covers}
use Rattle.x509_pkcs12.specs.laws.MacOctets.{data_covers}
use Rattle.x509_pkcs12.specs.Pfxs.{pfx}
use Rattle.x509_pkcs12.specs.laws.Pfxs.{lawful_pfx}

data_is_oid : IsOid data_oid
data_is_oid = oid_from_test data_oid refl

octets_element : (x : Octets) → IsElement IsTagByte (octet_string.text x)
octets_element x =
    let e = OCTET_STRING.law.element 64 (octet_string.text x) x (OCTET_STRING.law.components.text_reads 64 x tt) in
    record { tag = e.tag; contents = e.contents; is_tag = e.is_tag; is = e.is; allowed = e.is_tag }

data_formed : (limit : ℕ) (x : Octets) → CONTENT.format.IsWellFormed limit (data_oid, (Some (octet_string.text x), tt))
data_formed limit x = (data_is_oid, (octets_element x, tt))

pub data_test : (limit : ℕ) (x : Octets) → IsTrue true ↔ CONTENT.format.IsWellFormed limit (data_oid, (Some (octet_string.text x), tt))
data_test limit x = (λ _. data_formed limit x, λ _. refl)

-- a store as its parts are written
abbrev pub STORE : Format (ℕ × ((List ℕ × List ℕ) × (Option mac_data.Value × Unit {0})))
STORE = part (version 3) (part (sequence (part OBJECT_IDENTIFIER.format (within 0xA0 (within 0x04 raw)))) (optional (SEQUENCE mac_data).format nothing))

pub formed_alike : (limit : ℕ) (safe : Octets) (mac : Option mac_data.Value) (r : Bool) → IsTrue r ↔ STORE.IsWellFormed limit (3, ((data_oid, safe), (mac, tt))) → IsTrue r ↔ (pfx raw).IsWellFormed limit (store_value safe mac)
formed_alike limit safe mac r h = (
  λ t. (let w = h.0 t in (w.0, (w.1.0.1, w.1.1))),
  λ w. h.1 (w.0, ((data_is_oid, w.1.0), w.1.1)),
)

content_normal : (v : raw_content_info.Value) → CONTENT.format.normal v ≡ v
content_normal (oid, (None, u)) = refl
content_normal (oid, (Some x, u)) = refl

contents_normal : (vs : List raw_content_info.Value) → map CONTENT.format.normal vs ≡ vs
contents_normal [] = refl
contents_normal (v ∷ vs) = ap (λ w. w ∷ map CONTENT.format.normal vs) (content_normal v) ∙ ap (λ ws. v ∷ ws) (contents_normal vs)

is_safe : (vs : List raw_content_info.Value) → CONTENTS.format.IsWellFormed 64 vs → (text : List ℕ) → text ≡ CONTENTS.format.text vs → IsAuthenticatedSafeOf vs text
is_safe vs h text e =
    let reads = subst (λ ws. CONTENTS.format.Reads 64 (CONTENTS.format.text vs) ws) (contents_normal vs) (CONTENTS.law.components.text_reads 64 vs h) in
    record { text_is = e; reads = value_of CONTENTS.format 64 text vs CONTENTS.law (subst (λ b. CONTENTS.format.Reads 64 b vs) (sym e) reads) }

pub safe_result : {A : Type 0} (items : A → List ℕ) (vs : List raw_content_info.Value) (r : Result A Error) → MatchResult r (λ t. CONTENTS.format.IsWellFormed 64 vs × (items t ≡ CONTENTS.format.text vs)) (λ e. IsNotWritten CONTENTS.format vs e) → MatchResult r (λ t. IsAuthenticatedSafeOf vs (items t)) (λ e. IsNotWritten CONTENTS.format vs e)
safe_result items vs (Ok t) h = is_safe vs h.0 (items t) h.1
safe_result items vs (Err e) h = h

module _ (safe : Octets) (mac : Option mac_data.Value) where
  is_store : (pfx raw).IsWellFormed 64 (store_value safe mac) → (text : List ℕ) → text ≡ (pfx raw).text (store_value safe mac) → IsStoreOf safe mac text
  is_store h text e =
      let law = lawful_pfx raw lawful_raw in
      let v = (pfx raw).normal (store_value safe mac) in
      record {
        text_is = e;
        reads = value_of (pfx raw) 64 text v law (subst (λ b. (pfx raw).Reads 64 b v) (sym e) (law.components.text_reads 64 (store_value safe mac) h));
        covers = subst (λ b. Covers b safe) (sym e) (data_covers raw 3 safe (mac, tt));
      }

  pub store_result : {A : Type 0} (items : A → List ℕ) (r : Result A Error) → MatchResult r (λ t. (pfx raw).IsWellFormed 64 (store_value safe mac) × (items t ≡ (pfx raw).text (store_value safe mac))) (λ e. IsNotWritten (pfx raw) (store_value safe mac) e) → MatchResult r (λ t. IsStoreOf safe mac (items t)) (λ e. IsNotWritten (pfx raw) (store_value safe mac) e)
  store_result items (Ok t) h = is_store h.0 (items t) h.1
  store_result items (Err e) h = h
