-- By its type an attribute that is given is found, and no other.
use Rattle.std.specs.Prelude.{◌≡◌, ◌≤◌, ◌++◌, cond, Bool, true, false, List, [], ◌∷◌, length, Option, None, Some}
use Rattle.std.specs.List.{AllByRecursion, filter}
use Rattle.std.specs.List.Sorted.{IsPermutation}
use Rattle.std.specs.Str.{bytes_eq}
use Rattle.std.proofs.Common.{ap, arith, refl, subst, sym, ◌∙◌, ⊎_elim}
use Rattle.std.proofs.lemmas.Bool.{cases_Bool}
use Rattle.std.proofs.lemmas.List.{append-nil}
use Rattle.std.proofs.lemmas.List.Elements.{filter-append}
use Rattle.std.proofs.lemmas.Slice.Eq.{bytes_eq-Decides}
use Rattle.asn1_core.specs.Der.{Format, IsElement, IsLawful, IsOid, IsTagByte, OidOctets}
use Rattle.asn1_sets.proofs.FoundOnce.{same_filter}
use Rattle.attribute_writers.specs.Attributes.{alone, is_formed}
use Rattle.x509_base.specs.AttributesByOid.{IsOnlyOf, with_oid}
use Rattle.x509_base.specs.Names.{attribute}

-- the encoding of a well-formed value is an element
pub text_element : {V : Type 0} (F : Format V) → IsLawful F → (v : V) → F.IsWellFormed 64 v → IsElement IsTagByte (F.text v)
text_element F f v h =
    let e = f.element 64 (F.text v) (F.normal v) (f.components.text_reads 64 v h) in
    record { tag = e.tag; contents = e.contents; is_tag = e.is_tag; is = e.is; allowed = e.is_tag }

-- both parts of a list
pub all_of_both : {X : Type 0} (P : X → Type 0) (xs ys : List X) → AllByRecursion P xs → AllByRecursion P ys → AllByRecursion P (xs ++ ys)
all_of_both P [] ys h i = i
all_of_both P (x ∷ xs) ys h i = (h.0, all_of_both P xs ys h.1 i)

-- what passes no test, after another
module _ {X : Type 0} (p q : X → Bool) (no : (x : X) → q x ≡ true → p x ≡ false) where
  pub none_left : (xs : List X) → filter p (filter q xs) ≡ []
  none_left [] = refl
  none_left (x ∷ xs) =
      ⊎_elim
      (λ t. ap (λ b. filter p (cond b (x ∷ filter q xs) (filter q xs))) t ∙ ap (λ b. cond b (x ∷ filter p (filter q xs)) (filter p (filter q xs))) (no x t) ∙ none_left xs)
      (λ f. ap (λ b. filter p (cond b (x ∷ filter q xs) (filter q xs))) f ∙ none_left xs)
      (cases_Bool (q x))

module _ (type : OidOctets) where
  -- two lists, of which the first has none of the type, or the second
  pub past : (xs ys zs : List attribute.Value) → with_oid type xs ≡ [] → with_oid type ys ≡ zs → with_oid type (xs ++ ys) ≡ zs
  past xs ys zs e f = filter-append (λ (a : attribute.Value). bytes_eq a.0 type) xs ys ∙ ap (λ l. l ++ with_oid type ys) e ∙ f

  pub here : (xs ys zs : List attribute.Value) → with_oid type xs ≡ zs → with_oid type ys ≡ [] → with_oid type (xs ++ ys) ≡ zs
  here xs ys zs e f = filter-append (λ (a : attribute.Value). bytes_eq a.0 type) xs ys ∙ ap (λ l. l ++ with_oid type ys) e ∙ ap (λ l. zs ++ l) f ∙ append-nil zs

module _ {V : Type 0} (type : OidOctets) (F : Format V) where
  pub formed : IsOid type → IsLawful F → (o : Option V) → ((x : V) → o ≡ Some x → F.IsWellFormed 64 x) → AllByRecursion is_formed (alone type F o)
  formed valid law None h = tt
  formed valid law (Some x) h = ((valid, ((text_element F law x (h x refl), tt), tt)), tt)

  pub itself : (o : Option V) → with_oid type (alone type F o) ≡ alone type F o
  itself None = refl
  itself (Some x) = ap (λ b. cond b (alone type F (Some x)) []) ((bytes_eq-Decides type type).1 refl)

  pub another : (other : OidOctets) → bytes_eq type other ≡ false → (o : Option V) → with_oid other (alone type F o) ≡ []
  another other n None = refl
  another other n (Some x) = ap (λ b. cond b (alone type F (Some x)) []) n

  short : (o : Option V) → length (alone type F o) ≤ 1
  short None = omega arith
  short (Some x) = omega arith

  only : (o : Option V) → ((x : V) → o ≡ Some x → F.Reads 64 (F.text x) x) → (found : List attribute.Value) → found ≡ alone type F o → IsOnlyOf F found o
  only None reads found e = e
  only (Some x) reads found e = (F.text x, (type, e), reads x refl)

  -- also in another order
  pub only_in : (o : Option V) → ((x : V) → o ≡ Some x → F.Reads 64 (F.text x) x) → (given all : List attribute.Value) → with_oid type given ≡ alone type F o → IsPermutation given all → IsOnlyOf F (with_oid type all) o
  only_in o reads given all e h =
      let l : length (with_oid type given) ≤ 1 = subst (λ l. length l ≤ 1) (sym e) (short o) in
      only o reads (with_oid type all) (same_filter (λ a. bytes_eq a.0 type) given all h l ∙ e)
