-- What contents are written of, and why they aren't.
use Rattle.std.specs.Prelude.{◌≡◌, ◌≢◌, ℕ, List, ◌++◌, None, Some, Result, Ok, Err, MatchResult}
use Rattle.std.specs.List.{AllByRecursion, AllZip}
use Rattle.std.proofs.Common.{ap, ◌∙◌, inl, inr, refl, subst, sym}
use Rattle.asn1_core.specs.Asn1.{ANY, EXPLICIT, OCTET_STRING}
use Rattle.asn1_core.specs.Der.{element, ElementOctets, IsElement, IsOid, IsTagByte, IsValueOf, object_identifier, Octets as OctetList, octet_string, oid_from_test}
use Rattle.asn1_core_element.specs.declared.error.Error.{Error}
use Rattle.asn1_core_oid.specs.Known.{data_oid}
use Rattle.asn1_borrowed.specs.Written.{IsNotWritten}
use Rattle.bag_ranges.specs.RawContentInfos.{raw_content_info}
use Rattle.call_values.proofs.BuiltLists.{zip_all, zip_left}
use Rattle.call_values.proofs.GivenParts.{by_less, same_part}
use Rattle.store_calls.specs.BuiltContents.{GivesContent, IsContentBy, IsContentOf, IsInfoOf, IsTooLong, any_part}
use Rattle.call_values.specs.Given.{IsPartOf}
use Rattle.call_values.specs.BuiltLists.{IsNoText}
use Rattle.call_values.specs.Read.{HasOne, IsUnread}
use Rattle.call_values.specs.declared.not_built.NotBuilt.{NotBuilt}
use Rattle.store_calls.specs.declared.built_contents.ContentGiven.{ContentGiven}
use Rattle.call_values.specs.declared.built_lists.NoList.TheVariants.{NotWritten}
use Rattle.store_writers.specs.Written.{CONTENT, CONTENTS}

-- a content that is data, whatever else it is read as
pub data_again : (x : List ℕ) (v : raw_content_info.Value) → IsValueOf CONTENT.format 64 x v → v.0 ≡ data_oid → HasOne (IsInfoOf x) → ⊥
data_again x v read same (w, is) = is.1 (subst (λ u. u.0 ≡ data_oid) (sym (read.only w is.0)) same)

-- a ContentInfo has one encoding
exact_content : (k : ℕ) (x : List ℕ) (c : ElementOctets) → (EXPLICIT 0 ANY).format.Reads k x c → x ≡ (EXPLICIT 0 ANY).format.text c
exact_content k x c s = s.1 ∙ ap (element 0xA0) s.2.0

exact_parts : (k : ℕ) (x : List ℕ) (v : raw_content_info.Value) → raw_content_info.format.Reads k x v → x ≡ raw_content_info.format.text v
exact_parts k x (oid, (None, t)) s = s.2 ∙ ap (λ a. a ++ s.1) s.3.0 ∙ ap (λ r. object_identifier.text oid ++ r) s.4
exact_parts k x (oid, (Some c, t)) s =
    let content = s.4.2 ∙ ap (λ a. a ++ s.4.1) (exact_content k s.4.0 c s.4.3) ∙ ap (λ r. (EXPLICIT 0 ANY).format.text c ++ r) s.4.4 in
    s.2 ∙ ap (λ a. a ++ s.1) s.3.0 ∙ ap (λ r. object_identifier.text oid ++ r) content

-- a ContentInfo of another type than data
pub info_read : (x : List ℕ) (v : raw_content_info.Value) → IsValueOf CONTENT.format 64 x v → v.0 ≢ data_oid → IsInfoOf x v
info_read x v read other = (read.reads, other, read.reads.1 ∙ ap (element 0x30) (exact_parts 64 read.reads.0 v read.reads.2))

module _ (b : List ℕ) where
  its_content : (row : ContentGiven) (x : List ℕ) → IsPartOf b row.octets x → HasOne (IsContentBy b row) → HasOne (IsContentOf row.is_data x)
  its_content row x at (v, is) = (v, subst (λ y. IsContentOf row.is_data y v) (same_part b row.octets x is.0 at is.1) is.2)

  pub content_read : {A : Type 0} (value : A → raw_content_info.Value) (row : ContentGiven) (x : List ℕ) → IsPartOf b row.octets x → (res : Result A NotBuilt) → MatchResult res (λ c. IsContentOf row.is_data x (value c)) (λ w. IsUnread (HasOne (IsContentOf row.is_data x)) w) → MatchResult res (λ c. IsContentBy b row (value c)) (λ w. IsUnread (HasOne (IsContentBy b row)) w)
  content_read value row x at (Ok c) h = (x, at, h)
  content_read value row x at (Err w) h = by_less (HasOne (IsContentOf row.is_data x)) (HasOne (IsContentBy b row)) w (its_content row x at) h

  data_is_oid : IsOid data_oid
  data_is_oid = oid_from_test data_oid refl

  octets_element : (x : OctetList) → IsElement IsTagByte (octet_string.text x)
  octets_element x =
      let e = OCTET_STRING.law.element 64 (octet_string.text x) x (OCTET_STRING.law.components.text_reads 64 x tt) in
      record { tag = e.tag; contents = e.contents; is_tag = e.is_tag; is = e.is; allowed = e.is_tag }

  formed : (row : ContentGiven) (v : raw_content_info.Value) → IsContentBy b row v → CONTENT.format.IsWellFormed 64 v
  formed row v (x, at, inl is) = subst (CONTENT.format.IsWellFormed 64) (sym is.1.1) (data_is_oid, (octets_element x, tt))
  formed row v (x, at, inr is) = CONTENT.law.components.well_formed 64 x v is.1.0

  pub all_give : (rows : List ContentGiven) (contents : List raw_content_info.Value) → AllZip (IsContentBy b) rows contents → AllByRecursion (GivesContent b) rows
  all_give = zip_left (IsContentBy b) (GivesContent b) (λ row v is. (v, is))

  pub not_built : (rows : List ContentGiven) (contents : List raw_content_info.Value) (e : Error) → AllZip (IsContentBy b) rows contents → IsNotWritten CONTENTS.format contents e → IsNoText (GivesContent b) any_part (IsTooLong b rows) rows (NotWritten e)
  not_built rows contents e are (inl n) = absurd (n.1 (zip_all (IsContentBy b) (CONTENT.format.IsWellFormed 64) formed rows contents are))
  not_built rows contents e are (inr (inl n)) = inl (n.1, (contents, are, n.2))
  not_built rows contents e are (inr (inr n)) = inr n
