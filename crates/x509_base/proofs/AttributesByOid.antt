-- The attributes with one object identifier, along a list.
use Rattle.std.proofs.Common.{◌≡◌, ℕ, ◌+◌, ◌-◌, ◌<◌, ◌↔◌, IsTrue, Bool, true, false, cond, List, [], ◌∷◌, map, take, drop, length, get_or, sym, ap, subst, ◌∙◌, add-one, drop-cons, refl, true≢false, Option, None, Some, Result, Err}
use Rattle.std.specs.Str.{bytes_eq}
use Rattle.std.proofs.lemmas.Bool.{false_from_ne_true}
use Rattle.std.proofs.lemmas.List.{take_rest}
use Rattle.std.proofs.lemmas.Slice.Eq.{bytes_eq-Decides}
use Rattle.asn1_core.specs.Der.{Format, ElementOctets, octets_of}
use Rattle.asn1_core_element.specs.declared.error.Error.{Error}
use Rattle.asn1_core_element.specs.declared.error.Error.TheVariants.{Invalid, TooLong}
use Rattle.x509_base.specs.AttributesByOid.{with_oid, IsFirst, IsOnly, IsOnlyOf, HasNoOnly, GivesOnly}
use Rattle.x509_base.specs.Names.{attribute, attribute_value}
use Rattle.x509_base.specs.declared.names.Attribute.{Attribute}

-- the list from an item on
cut : {X : Type 0} (xs : List X) (i : ℕ) (x : X) → i < length xs → x ≡ get_or xs i x → drop i xs ≡ x ∷ drop (i + 1) xs
cut xs i x h e = drop-cons xs i x h ∙ ap (λ j. get_or xs i x ∷ drop j xs) (sym (add-one i)) ∙ ap (λ y. y ∷ drop (i + 1) xs) (sym e)

module _ (oid : List ℕ) (rest : List attribute.Value) (a : attribute.Value) where
  kept : a.0 ≡ oid → with_oid oid (a ∷ rest) ≡ a ∷ with_oid oid rest
  kept e = ap (λ b. cond b (a ∷ with_oid oid rest) (with_oid oid rest)) ((bytes_eq-Decides a.0 oid).1 e)

  left_out : (a.0 ≡ oid → ⊥) → with_oid oid (a ∷ rest) ≡ with_oid oid rest
  left_out n = ap (λ b. cond b (a ∷ with_oid oid rest) (with_oid oid rest)) (false_from_ne_true (bytes_eq a.0 oid) (λ e. n ((bytes_eq-Decides a.0 oid).0 e)))

-- there is one
some_found : (xs ys : List attribute.Value) (x : attribute.Value) → xs ≡ x ∷ ys → (xs ≡ [] → ⊥)
some_found xs ys x e n = let f : x ∷ ys ≡ [] = sym e ∙ n in cc

module _ (oid : List ℕ) (xs : List Attribute) (i : ℕ) (x : Attribute) (h : i < length xs) (e : x ≡ get_or xs i x) (before : with_oid oid (map attribute_value (drop i xs)) ≡ with_oid oid (map attribute_value xs)) where
  -- the first with that object identifier
  found : (IsTrue true ↔ (octets_of x.ty.0 ≡ oid)) → with_oid oid (map attribute_value xs) ≡ attribute_value x ∷ with_oid oid (map attribute_value (drop (i + 1) xs))
  found f = sym before ∙ ap (λ ys. with_oid oid (map attribute_value ys)) (cut xs i x h e) ∙ kept oid _ (attribute_value x) (f.0 refl)

  pub first_found : (IsTrue true ↔ (octets_of x.ty.0 ≡ oid)) → (b : Bool) → (IsTrue b ↔ (with_oid oid (map attribute_value (take (length xs - (i + 1)) (drop (i + 1) xs))) ≡ [])) → IsFirst (with_oid oid (map attribute_value xs)) (attribute_value x) b
  first_found f b o = (_, found f, subst (λ ys. IsTrue b ↔ (with_oid oid (map attribute_value ys) ≡ [])) (take_rest xs (i + 1)) o)

  pub not_none : (IsTrue true ↔ (octets_of x.ty.0 ≡ oid)) → IsTrue false ↔ (with_oid oid (map attribute_value xs) ≡ [])
  not_none f = (λ e. absurd (true≢false (sym e)), λ n. absurd (some_found _ _ _ (found f) n))

  -- another
  pub passed : (IsTrue false ↔ (octets_of x.ty.0 ≡ oid)) → with_oid oid (map attribute_value (drop (i + 1) xs)) ≡ with_oid oid (map attribute_value xs)
  passed f = sym (left_out oid _ (attribute_value x) (λ o. true≢false (sym (f.1 o)))) ∙ ap (λ ys. with_oid oid (map attribute_value ys)) (sym (cut xs i x h e)) ∙ before

-- an exit where there is no only value
module _ {V : Type 0} (F : Format V) (found : List attribute.Value) (n : (v : Option ElementOctets) → IsOnly found v → ⊥) where
  none_read : (v : Option V) → IsOnlyOf F found v → ⊥
  none_read None o = n None o
  none_read (Some v) o = n (Some o.0) o.1

  no_only : (e : Error) → e ≡ Invalid → HasNoOnly F found e
  no_only e i = record { kind = λ t. (let x : Invalid ≡ TooLong = sym i ∙ t in cc); none = λ m. none_read }

  pub has_refused_no_only : {T : Type 0} (value : T → V) {r : Result (Option T) Error} {e : Error} → ((x : Error) × (r ≡ Err x) × (x ≡ e)) → e ≡ Invalid → GivesOnly value F found r
  has_refused_no_only value {r} {e} p i = subst (GivesOnly value F found) (sym p.1) (subst (HasNoOnly F found) (sym p.2) (no_only e i))
