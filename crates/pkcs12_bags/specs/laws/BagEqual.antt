-- `==` of bags is equality of what they contain.
use Rattle.std.proofs.Common.{◌≡◌, ◌↔◌, ◌⊎◌, ℕ, List, [], ◌∷◌, map, Option, Bool, true, false, true≢false, Vec, Global, rules, refl, sym, ap, ◌∙◌, inl, inr}
use denote.Param.{number}
use lib.Pointwise.{pointwise}
use Rattle.std.specs.Option.{option_eq}
use Rattle.asn1_core.specs.Der.{raw_equal, two_equal, option_equal, list_equal, equal_octets}
use Rattle.pkcs12_bags.specs.Attributes.{AttributesValue, pkcs12_attribute_value, attributes_value}
use Rattle.pkcs12_bags.specs.AttributesEqual.{pkcs12_attribute_equal}
use Rattle.pkcs12_bags.specs.BagPartsEqual.{x509_equal, secret_equal, encrypted_key_equal}
use Rattle.pkcs12_bags.specs.declared.parts.attributes.Pkcs12Attribute.{Pkcs12Attribute}
use Rattle.pkcs12_bags.specs.declared.parts.oids.TheConstants.{X509_CERTIFICATE, X509_CRL}
use Rattle.pkcs12_bags.specs.contracts.parts.attributes.Pkcs12AttributePartialEq.TheImpl as A
use Rattle.pkcs12_bags.specs.Bags.{bag_out, bag_into}
use Rattle.pkcs12_bags.specs.BagValues.{Kind, alternative_or, with_attributes, bag_value, kind_value, contents_value}
use Rattle.pkcs12_bags.specs.laws.BagLevels.{value_bag, value_components, value_contents}
use Rattle.pkcs12_bags.specs.declared.safe_bags.bags.SafeBag.{SafeBag}
use Rattle.pkcs12_bags.specs.declared.safe_bags.bags.SafeBagKind.{SafeBagKind, Key, EncryptedKey, Certificate, Crl, Secret, SafeContents, Unknown}
use Rattle.pkcs12_bags.specs.declared.safe_bags.bags.SafeBagKind.TheFolds.{the_lemmas}
use Rattle.pkcs12_bags.specs.declared.safe_bags.bags.SafeContents as C
use Rattle.pkcs12_bags.specs.declared.safe_bags.bags.SafeContents.{SafeContents', Row_of-SafeBag, end_of-SafeBag, more_of-SafeBag, items-the_row-SafeBag}
use Rattle.pkcs12_bags.specs.contracts.safe_bags.bags.SafeBagPartialEq.TheImpl as B
use Rattle.pkcs12_bags.specs.contracts.safe_bags.bags.SafeBagPartialEq.TheImpl.Laws as BL
use Rattle.pkcs12_bags.specs.contracts.safe_bags.bags.SafeBagKindPartialEq.TheImpl as K
use Rattle.pkcs12_bags.specs.contracts.safe_bags.bags.SafeBagKindPartialEq.TheImpl.Laws as KL
use Rattle.pkcs12_bags.specs.contracts.safe_bags.bags.SafeContentsPartialEq.TheImpl as S
use Rattle.pkcs12_bags.specs.contracts.safe_bags.bags.SafeContentsPartialEq.TheImpl.Laws as SL

along : {P Q : Type 0} (r s : Bool) → r ≡ s → (s ≡ true) ↔ P → (P → Q) → (Q → P) → (r ≡ true) ↔ Q
along r s e d f g = (λ h. f (d.0 (sym e ∙ h)), λ q. e ∙ d.1 (g q))

never : {P : Type 0} (r : Bool) → r ≡ false → (P → ⊥) → (r ≡ true) ↔ P
never r e n = (λ h. absurd (true≢false (sym h ∙ e)), λ p. absurd (n p))

-- the attributes
abbrev attributes_test : Vec Pkcs12Attribute Global → Vec Pkcs12Attribute Global → Bool
attributes_test a b = pointwise A.ghosts.eq a.items b.items

attributes_equal : (x y : Option (Vec Pkcs12Attribute Global)) → (option_eq attributes_test x y ≡ true) ↔ (attributes_value x ≡ attributes_value y)
attributes_equal x y =
    let seen = option_equal attributes_test (λ v. map pkcs12_attribute_value v.items) (λ a b. list_equal A.ghosts.eq pkcs12_attribute_value pkcs12_attribute_equal a.items b.items) x y in
    (λ h. ap (λ o. (o, tt)) (seen.0 h), λ e. seen.1 (ap (λ p. p.0) e))

-- two kinds with attributes
last_parts : (v w : List ℕ × List ℕ) (n m : AttributesValue) → ◌≡◌ {A = List ℕ × (List ℕ × AttributesValue)} (v.0, (v.1, n)) (w.0, (w.1, m)) → (v ≡ w) × (n ≡ m)
last_parts v w n m e = (ap (λ p. (p.0, p.1.0)) e, ap (λ p. p.1.1) e)

pair_parts : {V X : Type 0} {v w : V} {n m : AttributesValue} → ◌≡◌ {A = V × AttributesValue} (v, n) (w, m) → ◌≡◌ {A = V ⊎ X} (inl v) (inl w) × (n ≡ m)
pair_parts e = (ap (λ p. inl p.0) e, ap (λ p. p.1) e)

parts_or : {V X Y : Type 0} (f : AttributesValue → X → Y) → ((x y : X) (n m : AttributesValue) → f n x ≡ f m y → (x ≡ y) × (n ≡ m)) → (x y : V ⊎ X) (n m : AttributesValue) → alternative_or n (f n) x ≡ alternative_or m (f m) y → (x ≡ y) × (n ≡ m)
parts_or f h (inl v) (inl w) n m e = pair_parts cc
parts_or f h (inl v) (inr y) n m e = absurd cc
parts_or f h (inr x) (inl w) n m e = absurd cc
parts_or f h (inr x) (inr y) n m e = let s = h x y n m cc in (ap (λ z. inr z) s.0, s.1)

same_parts : (k l : Kind) (n m : AttributesValue) → with_attributes k n ≡ with_attributes l m → (k ≡ l) × (n ≡ m)
same_parts = parts_or _ (parts_or _ (parts_or _ (parts_or _ (parts_or _ (parts_or _ last_parts)))))

bag_by_kind : (x y : SafeBag) → (K.ghosts.eq x.kind y.kind ≡ true) ↔ (kind_value x.kind ≡ kind_value y.kind) → (B.ghosts.eq x y ≡ true) ↔ (bag_value x ≡ bag_value y)
bag_by_kind x y d =
    along _ _ (BL.is x y) (two_equal d (attributes_equal x.attributes y.attributes))
    (λ p. value_bag x ∙ ap (λ q. bag_into (with_attributes q.0 q.1)) p ∙ sym (value_bag y))
    (λ e.
    let s = same_parts (kind_value x.kind) (kind_value y.kind) (attributes_value x.attributes) (attributes_value y.attributes) (sym (value_components x) ∙ ap bag_out e ∙ value_components y) in
    ap (λ k. (k, attributes_value x.attributes)) s.0 ∙ ap (λ n. (kind_value y.kind, n)) s.1)

-- two of one kind
seen : {V : Type 0} {v w : V} {r s : Bool} (f : V → Kind) → (f v ≡ f w → v ≡ w) → r ≡ s → (s ≡ true) ↔ (v ≡ w) → (r ≡ true) ↔ (f v ≡ f w)
seen {V} {v} {w} {r} {s} f inj e d = along r s e d (ap f) inj

pair_of : {V : Type 0} (v w : V) (vs ws : List V) → v ∷ vs ≡ w ∷ ws → ◌≡◌ {A = V × List V} (v, vs) (w, ws)
pair_of v w vs ws e =
    let h : v ≡ w = cc in
    let t : vs ≡ ws = cc in
    ap (λ x. (x, vs)) h ∙ ap (λ xs. (w, xs)) t

mutual
  pub kind_equal : (k l : SafeBagKind) → (K.ghosts.eq k l ≡ true) ↔ (kind_value k ≡ kind_value l)
  kind_equal (SafeContents c) (SafeContents d) = seen (λ v. inl v) (λ e. cc) (KL.is (SafeContents c) (SafeContents d)) (contents_equal c d)
  kind_equal (Key x) (Key y) = seen (λ v. inr (inl v)) (λ e. cc) (KL.is (Key x) (Key y)) (raw_equal x y)
  kind_equal (EncryptedKey x) (EncryptedKey y) = seen (λ v. inr (inr (inl v))) (λ e. cc) (KL.is (EncryptedKey x) (EncryptedKey y)) (encrypted_key_equal x y)
  kind_equal (Certificate x) (Certificate y) = seen (λ v. inr (inr (inr (inl v)))) (λ e. cc) (KL.is (Certificate x) (Certificate y)) (x509_equal (number X509_CERTIFICATE) x y)
  kind_equal (Crl x) (Crl y) = seen (λ v. inr (inr (inr (inr (inl v))))) (λ e. cc) (KL.is (Crl x) (Crl y)) (x509_equal (number X509_CRL) x y)
  kind_equal (Secret x) (Secret y) = seen (λ v. inr (inr (inr (inr (inr (inl v)))))) (λ e. cc) (KL.is (Secret x) (Secret y)) (secret_equal x y)
  kind_equal (Unknown o x) (Unknown p y) = seen (λ v. inr (inr (inr (inr (inr (inr v)))))) (λ e. cc) (KL.is (Unknown o x) (Unknown p y)) (two_equal (equal_octets o p) (raw_equal x y))
  kind_equal k l = never (K.ghosts.eq k l) (KL.is k l) (λ e. cc)

  pub contents_equal : (c d : C.SafeContents) → (S.ghosts.eq c d ≡ true) ↔ (contents_value c ≡ contents_value d)
  contents_equal (SafeContents' s k) d =
      let shown : (C.out-SafeContents (SafeContents' s k)).0.items ≡ items-the_row-SafeBag _ k = search (rules, the_lemmas) in
      let left : contents_value (SafeContents' s k) ≡ map bag_value (items-the_row-SafeBag _ k) = value_contents (SafeContents' s k) ∙ ap (map bag_value) shown in
      along _ _ (SL.is (SafeContents' s k) d ∙ ap (λ xs. pointwise B.ghosts.eq xs (C.out-SafeContents d).0.items) shown)
      (components_equal k (C.out-SafeContents d).0.items)
      (λ p. left ∙ p ∙ sym (value_contents d)) (λ e. sym left ∙ e ∙ value_contents d)

  components_equal : {n : _} (k : Row_of-SafeBag n) (ys : List SafeBag) → (pointwise B.ghosts.eq (items-the_row-SafeBag n k) ys ≡ true) ↔ (map bag_value (items-the_row-SafeBag n k) ≡ map bag_value ys)
  components_equal end_of-SafeBag [] = (λ h. refl, λ p. refl)
  components_equal end_of-SafeBag (y ∷ ys) = (λ h. absurd (true≢false (sym h)), λ p. absurd (let e : [] ≡ bag_value y ∷ map bag_value ys = p in cc))
  components_equal (more_of-SafeBag kind attributes rest) [] = (λ h. absurd (true≢false (sym h)), λ p. absurd (let e : bag_value record { kind = kind; attributes = attributes } ∷ map bag_value (items-the_row-SafeBag _ rest) ≡ [] = p in cc))
  components_equal (more_of-SafeBag kind attributes rest) (y ∷ ys) =
      along _ _ refl (two_equal (bag_by_kind record { kind = kind; attributes = attributes } y (kind_equal kind y.kind)) (components_equal rest ys))
      (λ p. ap (λ q. q.0 ∷ q.1) p) (λ e. pair_of _ _ _ _ e)

pub bag_equal : (x y : SafeBag) → (B.ghosts.eq x y ≡ true) ↔ (bag_value x ≡ bag_value y)
bag_equal x y = bag_by_kind x y (kind_equal x.kind y.kind)
