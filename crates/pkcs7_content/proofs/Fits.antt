-- Which contents are well-formed after which content types.
use Rattle.asn1_core.specs.Asn1.{SEQUENCE}
use Rattle.std.specs.Prelude.{◌≡◌, ◌↔◌, ◌⊎◌, ℕ, List, Option, Some, None}
use Rattle.std.proofs.Common.{refl, sym, ap, subst, inl, inr}
use Rattle.pkcs7_content.specs.Contents.{ContentValues, ContentComponents, IsPlain, content_components}
use Rattle.pkcs7_content.specs.IndirectData.{spc_indirect_data_content}
use Rattle.pkcs7_content.specs.declared.contents.Kind.{Kind}
use Rattle.pkcs7_content.specs.declared.contents.Kind.TheVariants.{IndirectData, TrustList, PlainData, Foreign}
use Rattle.pkcs7_content.specs.TrustLists.{ctl}

-- contents that are the same
content_same : {a b : ContentValues} {u w : Unit {0}} → ◌≡◌ {A = ContentComponents} (Some a, u) (Some b, w) → a ≡ b
content_same {a} {b} e =
    let o : ◌≡◌ {A = Option ContentValues} (Some a) (Some b) = ap (λ x. x.0) e in
    cc

some_none : {a : ContentValues} {u w : Unit {0}} → ◌≡◌ {A = ContentComponents} (Some a, u) (None, w) → ⊥
some_none {a} e = let o : ◌≡◌ {A = Option ContentValues} (Some a) None = ap (λ x. x.0) e in cc

-- values of different alternatives differ
distinct_first : {a : spc_indirect_data_content.Value} {b : List ℕ ⊎ (List ℕ ⊎ ctl.Value)} → ◌≡◌ {A = ContentValues} (inl a) (inr b) → ⊥
distinct_first e = cc

distinct_last : {a : ctl.Value} {x : List ℕ} → ◌≡◌ {A = ContentValues} (inr (inr (inr a))) (inr (inl x)) → ⊥
distinct_last e = cc

distinct_data : {a : ctl.Value} {x : List ℕ} → ◌≡◌ {A = ContentValues} (inr (inr (inr a))) (inr (inr (inl x))) → ⊥
distinct_data e = cc

module _ (k : ℕ) where
  pub none_fits : (t : Kind) → IsPlain t ↔ (content_components t).IsWellFormed k (None, tt)
  none_fits IndirectData = (λ p. absurd p, λ h. some_none h.1)
  none_fits TrustList = (λ p. absurd p, λ h. some_none h.1)
  none_fits PlainData = (λ p. ((None, tt), refl, (tt, tt)), λ h. tt)
  none_fits Foreign = (λ p. ((None, tt), refl, (tt, tt)), λ h. tt)

  pub octets_fit : (t : Kind) (x : List ℕ) → IsPlain t ↔ (content_components t).IsWellFormed k (Some (inr (inl x)), tt)
  octets_fit IndirectData x = (λ p. absurd p, λ h. distinct_first (content_same h.1))
  octets_fit TrustList x = (λ p. absurd p, λ h. distinct_last (content_same h.1))
  octets_fit PlainData x = (λ p. ((Some x, tt), refl, (tt, tt)), λ h. tt)
  octets_fit Foreign x = (λ p. ((Some x, tt), refl, (tt, tt)), λ h. tt)

  pub data_fits : (t : Kind) (x : List ℕ) → IsPlain t ↔ (content_components t).IsWellFormed k (Some (inr (inr (inl x))), tt)
  data_fits IndirectData x = (λ p. absurd p, λ h. distinct_first (content_same h.1))
  data_fits TrustList x = (λ p. absurd p, λ h. distinct_data (content_same h.1))
  data_fits PlainData x = (λ p. ((Some x, tt), refl, (tt, tt)), λ h. tt)
  data_fits Foreign x = (λ p. ((Some x, tt), refl, (tt, tt)), λ h. tt)

  same_indirect : {a b : spc_indirect_data_content.Value} → ◌≡◌ {A = ContentValues} (inl a) (inl b) → a ≡ b
  same_indirect e = cc

  pub indirect_fits : (v : spc_indirect_data_content.Value) → (SEQUENCE spc_indirect_data_content).format.IsWellFormed k v ↔ (content_components IndirectData).IsWellFormed k (Some (inl v), tt)
  indirect_fits v = (λ w. ((v, tt), refl, (w, tt)), λ h. subst ((SEQUENCE spc_indirect_data_content).format.IsWellFormed k) (same_indirect (content_same h.1)) h.2.0)

  same_list : {a b : ctl.Value} → ◌≡◌ {A = ContentValues} (inr (inr (inr a))) (inr (inr (inr b))) → a ≡ b
  same_list e = cc

  pub list_fits : (v : ctl.Value) → (SEQUENCE ctl).format.IsWellFormed k v ↔ (content_components TrustList).IsWellFormed k (Some (inr (inr (inr v))), tt)
  list_fits v = (λ w. ((v, tt), refl, (w, tt)), λ h. subst ((SEQUENCE ctl).format.IsWellFormed k) (same_list (content_same h.1)) h.2.0)

  -- a test of some content for some kind is a test of equal content for an equal kind
  pub fits_as : {A B : Type 0} {s t : Kind} {c d : ContentComponents} → s ≡ t → c ≡ d → A ↔ B → B ↔ (content_components s).IsWellFormed k d → A ↔ (content_components t).IsWellFormed k c
  fits_as {A} {B} {s} {t} {c} {d} h e f g =
      let w = subst (λ x. B ↔ (content_components s).IsWellFormed k x) (sym e) g in
      let v = subst (λ u. B ↔ (content_components u).IsWellFormed k c) h w in
      (λ a. v.0 (f.0 a), λ a. f.1 (v.1 a))
