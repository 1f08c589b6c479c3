-- Testing signers, what they hold and signed data, one level of them.
use Rattle.std.proofs.Common.{◌≡◌, ◌↔◌, ℕ, zero, suc, IsTrue, false, List, [], ◌∷◌, map, refl, sym, subst, inl, inr, rules}
use Rattle.asn1_core.specs.Der.{Format, nothing, set_of, less, set_or_none, unroll_formed}
use Rattle.pkcs7_signed.specs.Parts.{SignerParts, signer_end, after_signer, signer_parts, SignedParts, signed_end, after_signed, signed_parts}
use Rattle.pkcs7_signed.specs.Components.{SignerComponents, signer_components, UnsignedValues, IsOfKind, values_components}
use Rattle.pkcs7_signed.specs.Signers.{Value, signers, attributes, certificates, level_invariant, step, signer, attribute, pkcs7_certificate, signed_data, signer_infos, unsigned_attributes, values}
use Rattle.pkcs7_signed.specs.laws.SignerLaws.{signer_step}
use Rattle.pkcs7_signed.specs.SignerLevels.{parts_of_signer, parts_of_signed}
use Rattle.pkcs7_signed.specs.laws.SignerLevels.{attributes_in, out_signer, value_signed}
use Rattle.pkcs7_signed.specs.SignerValues.{signer_value, signers_value, signed_value}
use Rattle.pkcs7_signed.specs.declared.signers.Kind.{Kind}
use Rattle.pkcs7_signed.specs.declared.signers.Kind.TheVariants.{MsCounterSign, CounterSign, Foreign}
use Rattle.pkcs7_signed.specs.declared.signers.SignedData.{SignedData, out-SignedData}
use Rattle.pkcs7_signed.specs.declared.signers.SignerInfo.{SignerInfo}

pub never : {P : Type 0} → (P → ⊥) → IsTrue false ↔ P
never n = search (rules, n)

pub through : {P Q R : Type 0} → P ↔ Q → Q ↔ R → P ↔ R
through p q = (λ h. q.0 (p.0 h), λ h. p.1 (q.1 h))

-- the parts are well-formed, and so is what follows them
module _ {R : Type 0} (F : Format R) (k : ℕ) where
  signer_split : (p : SignerParts R) → ((signer_parts nothing).IsWellFormed k (signer_end p tt) × F.IsWellFormed k (after_signer p)) ↔ (signer_parts F).IsWellFormed k p
  signer_split p = (
    λ h. (h.0.0, (h.0.1.0, (h.0.1.1.0, (h.0.1.1.1.0, (h.0.1.1.1.1.0, (h.0.1.1.1.1.1.0, h.1)))))),
    λ h. ((h.0, (h.1.0, (h.1.1.0, (h.1.1.1.0, (h.1.1.1.1.0, (h.1.1.1.1.1.0, tt)))))), h.1.1.1.1.1.1),
  )

  signed_split : (p : SignedParts R) → ((signed_parts nothing).IsWellFormed k (signed_end p tt) × F.IsWellFormed k (after_signed p)) ↔ (signed_parts F).IsWellFormed k p
  signed_split p = (
    λ h. (h.0.0, (h.0.1.0, (h.0.1.1.0, (h.0.1.1.1.0, (h.0.1.1.1.1.0, h.1))))),
    λ h. ((h.0, (h.1.0, (h.1.1.0, (h.1.1.1.0, (h.1.1.1.1.0, tt))))), h.1.1.1.1.1),
  )

-- a signer, of whose parts h are the first
module _ (k : ℕ) (x : SignerInfo) {h : SignerParts (Unit {0})} (e : h ≡ parts_of_signer x tt) where
  signer_is : ((signer_parts nothing).IsWellFormed k h × unsigned_attributes.IsWellFormed k (attributes_in x)) ↔ signer.IsWellFormed k (signer_value x)
  signer_is =
      let u = unroll_formed {I = Unit {0}} {V = λ _. Value signers} level_invariant step signer_step k tt (signer_value x) in
      let r : SignerComponents (Value attributes) = parts_of_signer x (attributes_in x, tt) in
      let s : ((signer_parts nothing).IsWellFormed k (parts_of_signer x tt) × (set_or_none 0xA1 attribute).IsWellFormed k (attributes_in x, tt)) ↔ (signer_components attribute).IsWellFormed k r = signer_split (set_or_none 0xA1 attribute) k r in (
        λ w. u.1 (subst ((signer_components attribute).IsWellFormed k) (sym (out_signer x)) (s.0 (subst ((signer_parts nothing).IsWellFormed k) e w.0, (w.1, tt)))),
        λ w. let d = s.1 (subst ((signer_components attribute).IsWellFormed k) (out_signer x) (u.0 w)) in (subst ((signer_parts nothing).IsWellFormed k) (sym e) d.0, d.1.0),
      )

  pub signer_unformed : ((signer_parts nothing).IsWellFormed k h → ⊥) → IsTrue false ↔ signer.IsWellFormed k (signer_value x)
  signer_unformed n = never (λ w. n (signer_is.1 w).0)

  pub signer_formed : {P : Type 0} → (signer_parts nothing).IsWellFormed k h → P ↔ unsigned_attributes.IsWellFormed k (attributes_in x) → P ↔ signer.IsWellFormed k (signer_value x)
  signer_formed w p = (λ q. signer_is.0 (w, p.0 q), λ q. p.1 (signer_is.1 q).1)

-- signed data, of whose parts h are the first, and whose signers are a level down
module _ (x : SignedData) {h : SignedParts (Unit {0})} (e : h ≡ parts_of_signed x tt) where
  signed_is : (k : ℕ) → ((signed_parts nothing).IsWellFormed (suc k) h × signer_infos.IsWellFormed k (signers_value (out-SignedData x).signers_infos)) ↔ signed_data.IsWellFormed (suc k) (signed_value x)
  signed_is k =
      let r : SignedParts (List (Value signers)) = parts_of_signed x (signers_value (out-SignedData x).signers_infos) in
      let s : ((signed_parts nothing).IsWellFormed (suc k) (parts_of_signed x tt) × (set_of (less signer)).IsWellFormed (suc k) (after_signed r)) ↔ (signed_parts (set_of (less signer))).IsWellFormed (suc k) r = signed_split (set_of (less signer)) (suc k) r in (
        λ w. subst (signed_data.IsWellFormed (suc k)) (sym (value_signed x)) (s.0 (subst ((signed_parts nothing).IsWellFormed (suc k)) e w.0, w.1)),
        λ w. let d = s.1 (subst (signed_data.IsWellFormed (suc k)) (value_signed x) w) in (subst ((signed_parts nothing).IsWellFormed (suc k)) (sym e) d.0, d.1),
      )

  pub signed_unformed : (k : ℕ) → ((signed_parts nothing).IsWellFormed k h → ⊥) → IsTrue false ↔ signed_data.IsWellFormed k (signed_value x)
  signed_unformed zero n = never (λ w. w)
  signed_unformed (suc k) n = never (λ w. n ((signed_is k).1 w).0)

  pub signed_formed : {k j : ℕ} {P : Type 0} → suc j ≡ k → (signed_parts nothing).IsWellFormed k h → P ↔ signer_infos.IsWellFormed j (signers_value (out-SignedData x).signers_infos) → P ↔ signed_data.IsWellFormed k (signed_value x)
  signed_formed {k} {j} {P} n w p =
      subst (λ i. P ↔ signed_data.IsWellFormed i (signed_value x)) n
      (let v : (signed_parts nothing).IsWellFormed (suc j) h = subst (λ i. (signed_parts nothing).IsWellFormed i h) (sym n) w in
      (λ q. (signed_is j).0 (v, p.0 q), λ q. p.1 ((signed_is j).1 q).1))

-- the values of an attribute, of that kind
abbrev Values : Type 0
Values = UnsignedValues (Value certificates) (Value signers)

module _ {A : Type 0} (put : A → Values) (P : A → Type 0) where
  alternative_formed : ((a b : A) → put a ≡ put b → a ≡ b) → (a : A) → P a ↔ ((b : A) × (put b ≡ put a) × P b)
  alternative_formed one a = (λ h. (a, refl, h), λ h. subst P (one h.0 a h.1) h.2)

pub of_kind : (k : ℕ) (i : Kind) (v : Values) → IsOfKind i v → values.IsWellFormed k v ↔ (values_components pkcs7_certificate (less signer) i).IsWellFormed k v
of_kind k MsCounterSign (inl v) f = alternative_formed (λ u. inl u) _ (λ a b e. cc) v
of_kind k CounterSign (inr (inl v)) f = alternative_formed (λ u. inr (inl u)) _ (λ a b e. cc) v
of_kind k Foreign (inr (inr v)) f = alternative_formed (λ u. inr (inr u)) _ (λ a b e. cc) v
of_kind k MsCounterSign (inr (inl v)) f = absurd f
of_kind k MsCounterSign (inr (inr v)) f = absurd f
of_kind k CounterSign (inl v) f = absurd f
of_kind k CounterSign (inr (inr v)) f = absurd f
of_kind k Foreign (inl v) f = absurd f
of_kind k Foreign (inr (inl v)) f = absurd f

pub not_of_kind : (k : ℕ) (i : Kind) (v : Values) → (IsOfKind i v → ⊥) → (values_components pkcs7_certificate (less signer) i).IsWellFormed k v → ⊥
not_of_kind k MsCounterSign (inl v) n h = n tt
not_of_kind k MsCounterSign (inr v) n h = (let e = h.1 in cc)
not_of_kind k CounterSign (inr (inl v)) n h = n tt
not_of_kind k CounterSign (inl v) n h = (let e = h.1 in cc)
not_of_kind k CounterSign (inr (inr v)) n h = (let e = h.1 in cc)
not_of_kind k Foreign (inr (inr v)) n h = n tt
not_of_kind k Foreign (inl v) n h = (let e = h.1 in cc)
not_of_kind k Foreign (inr (inl v)) n h = (let e = h.1 in cc)

pub with_first : {P Q A : Type 0} → A → P ↔ Q → P ↔ (A × Q)
with_first a p = (λ h. (a, p.0 h), λ h. p.1 h.1)

-- signers a level down
pub none_below : {k : ℕ} → k ≡ zero → {P : Type 0} (xs : List SignerInfo) → P ↔ (xs ≡ []) → P ↔ (set_of (less signer)).IsWellFormed k (map signer_value xs)
none_below e [] p = (λ h. tt, λ h. p.1 refl)
none_below e (x ∷ xs) p = (λ h. (let n = p.0 h in cc), λ h. absurd (subst (λ j. (less signer).IsWellFormed j (signer_value x)) e h.0))

pub some_below : {k j : ℕ} → suc j ≡ k → {P : Type 0} (vs : List (Value signers)) → P ↔ (set_of signer).IsWellFormed j vs → P ↔ (set_of (less signer)).IsWellFormed k vs
some_below {k} {j} e {P} vs p = subst (λ i. P ↔ (set_of (less signer)).IsWellFormed i vs) e p
