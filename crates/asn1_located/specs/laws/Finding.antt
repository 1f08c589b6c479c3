-- Laws of `Finding.antt`.
use Rattle.std.specs.Prelude.{◌≡◌, ◌⊎◌, ◌+◌, ℕ, List, [], ◌∷◌, ◌++◌, length, Option, None, Some}
use Rattle.std.proofs.Common.{refl, sym, ap, ◌∙◌, subst, inl, inr, append_assoc, append-nil}
use Rattle.asn1_core_element.specs.laws.ElementLaws.{element_cut}
use Rattle.asn1_core_element.specs.Element.{IsTagByte, element, head}
use Rattle.asn1_core_format.specs.Format.{Format, IsLawful, IsLawfulComponents}
use Rattle.asn1_core_format.specs.Nexts.{NextIs}
use Rattle.asn1_core_format.specs.laws.Formats.{begins_next, next_distinct}
use Rattle.asn1_core_format.specs.Components.{part, optional}
use Rattle.asn1_located.specs.Places.{Begins, Follows, HasFirst, Leads, Walk}
use Rattle.asn1_located.specs.laws.WalkLaws.{walk_on}
use Rattle.asn1_located.specs.declared.walks.Step.{Step}
use Rattle.asn1_located.specs.declared.walks.Step.TheVariants.{Inside}
use Rattle.asn1_located.specs.Finding.{Found, Passes, contains_element, follows_part}

pub found_on : (p q : List Step) (m : ℕ) (x : List ℕ) (A B : List ℕ → Type 0) → Found p m x A → ((n : ℕ) (y : List ℕ) → A y → Found q n y B) → Found (p ++ q) m x B
found_on p q m x A B (k, y, w, a) next = let r = next k y a in (r.0, r.1, walk_on p q m k r.0 x y r.1 w r.2, r.3)

-- a first step
pub first_step : (s : Step) (steps : List Step) (m l : ℕ) (x z : List ℕ) (B : List ℕ → Type 0) → Leads s m x l z → Found steps l z B → Found (s ∷ steps) m x B
first_step s steps m l x z B f (n, y, w, b) = (n, y, (l, z, f, w), b)

pub follows_element : (m tag : ℕ) (c y : List ℕ) → IsTagByte tag → Follows m (element tag c ++ y) (m + length (element tag c)) y
follows_element m tag c y h = record { element = element tag c; is = record { tag = tag; contents = c; is_tag = h; is = refl; allowed = tt }; split = refl; place = refl }

pub begins_element : (m tag : ℕ) (c y : List ℕ) → IsTagByte tag → Begins m (element tag c ++ y) m (element tag c)
begins_element m tag c y h = record { rest = y; is = record { tag = tag; contents = c; is_tag = h; is = refl; allowed = tt }; split = refl; place = refl }

same_size : (t u n : ℕ) → length (head t n) ≡ length (head u n)
unfolding head
same_size t u n = refl

-- a walk into an element, under another tag
pub walk_under : (tag inner : ℕ) → IsTagByte tag → (rest : List Step) (m : ℕ) (x c : List ℕ) (n : ℕ) (y : List ℕ) → x ≡ element tag c → Walk (Inside ∷ rest) m (element inner c) n y → Walk (Inside ∷ rest) m x n y
walk_under tag inner h rest m x c n y is (l, z, into, on) =
    let cut = element_cut inner into.tag c z [] into.rest (append-nil (element inner c) ∙ into.split ∙ sym (append_assoc (head into.tag (length z)) z into.rest)) in
    let place : l ≡ m + length (head tag (length c)) = into.place ∙ ap (λ s. m + s) (same_size into.tag tag (length z) ∙ ap (λ d. length (head tag (length d))) (sym cut.1)) in (
      m + length (head tag (length c)),
      c,
      contains_element m tag x c h is,
      subst (λ d. Walk rest (m + length (head tag (length c))) d n y) (sym cut.1) (subst (λ j. Walk rest j z n y) place on),
    )

has_first : (tag : ℕ) (S : ℕ → Type 0) (x : List ℕ) → ((t : ℕ) → S t → t ≡ tag) → NextIs S x → HasFirst tag x
has_first tag S [] only h = absurd h
has_first tag S (t ∷ x) only h = (x, ap (λ u. u ∷ x) (only t h))

next_is : (tag : ℕ) (S : ℕ → Type 0) (x : List ℕ) → S tag → HasFirst tag x → NextIs S x
next_is tag S x s h = subst (NextIs S) (sym h.1) s

module _ {V W : Type 0} (F : Format V) (R : Format W) (f : IsLawful F) where
  module _ (r : IsLawfulComponents R) (tag : ℕ) (tags : (t : ℕ) → F.IsTag t → t ≡ tag) (is_tag : F.IsTag tag) (distinct : (t : ℕ) → F.IsTag t → R.IsTag t → ⊥) where
    past_absent : (k m : ℕ) (x : List ℕ) (w : W) → R.Reads k x w → (Passes F R f r tag tags is_tag distinct) k m x w
    past_absent k m x w s = (m, x, inr (λ h. next_distinct F.IsTag R.IsTag x distinct (next_is tag F.IsTag x is_tag h) (r.begins k x w s), (refl, refl)), s)

    past_there : (k m : ℕ) (x : List ℕ) (p : V × W) → (part F R).Reads k x p → (Passes F R f r tag tags is_tag distinct) k m x p.1
    past_there k m x p s =
        let h = has_first tag F.IsTag x tags (begins_next F.IsTag s.0 s.1 x (f.element k s.0 p.0 s.3) s.2) in
        (m + length s.0, s.1, inl (h, (follows_part F R f) k m x p s), s.4)

    pub past_optional : (k m : ℕ) (x : List ℕ) (p : Option V × W) → (optional F R).Reads k x p → (Passes F R f r tag tags is_tag distinct) k m x p.1
    past_optional k m x (None, w) s = past_absent k m x w s
    past_optional k m x (Some v, w) s = past_there k m x (v, w) s

    pub past_omitted : (d : List ℕ) (k m : ℕ) (x : List ℕ) (p : V × W) → (F.Reads k d p.0 × R.Reads k x p.1) ⊎ (part F R).Reads k x p → (Passes F R f r tag tags is_tag distinct) k m x p.1
    past_omitted d k m x p (inl s) = past_absent k m x p.1 s.1
    past_omitted d k m x p (inr s) = past_there k m x p s
