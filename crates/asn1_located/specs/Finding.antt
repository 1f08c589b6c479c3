-- What walks find in the encodings that a format reads: one lemma for each combinator.
use Rattle.std.specs.Prelude.{◌≡◌, ◌+◌, ℕ, zero, suc, List, [], ◌∷◌, ◌++◌, length}
use Rattle.std.proofs.Common.{refl, sym, ap, ◌∙◌, subst, append-nil}
use Rattle.asn1_core_element.specs.Element.{IsElement, IsTagByte, element, head}
use Rattle.asn1_core_format.specs.Format.{Format, IsLawful, IsLawfulComponents}
use Rattle.asn1_core_format.specs.Components.{part}
use Rattle.asn1_core_format.specs.Lists.{ReadsAll}
use Rattle.asn1_located.specs.Places.{Begins, Contains, Follows, FollowsMany, Leads, Walk}
use Rattle.asn1_located.specs.declared.walks.Step.{Step}
use Rattle.asn1_located.specs.declared.walks.Step.TheVariants.{Past}

-- the walk leads from the octets x, which begin at m, to octets that meet B
abbrev pub Found : List Step → ℕ → List ℕ → (List ℕ → Type 0) → Type 0
Found steps m x B = (n : ℕ) × (y : List ℕ) × Walk steps m x n y × B y

pub any_element : (S : ℕ → Type 0) (b : List ℕ) → IsElement S b → IsElement (λ _. Unit {0}) b
any_element S b e = record { tag = e.tag; contents = e.contents; is_tag = e.is_tag; is = e.is; allowed = tt }

pub contains_element : (m tag : ℕ) (x c : List ℕ) → IsTagByte tag → x ≡ element tag c → Contains m x (m + length (head tag (length c))) c
contains_element m tag x c h e = record { tag = tag; rest = []; is_tag = h; split = e ∙ ap (λ b. head tag (length c) ++ b) (sym (append-nil c)); place = refl }

module _ {V W : Type 0} (F : Format V) (R : Format W) (f : IsLawful F) where
  pub begins_part : (k m : ℕ) (x : List ℕ) (p : V × W) (s : (part F R).Reads k x p) → Begins m x m s.0
  begins_part k m x p s = record { rest = s.1; is = any_element F.IsTag s.0 (f.element k s.0 p.0 s.3); split = s.2; place = refl }

  pub follows_part : (k m : ℕ) (x : List ℕ) (p : V × W) (s : (part F R).Reads k x p) → Follows m x (m + length s.0) s.1
  follows_part k m x p s = record { element = s.0; is = any_element F.IsTag s.0 (f.element k s.0 p.0 s.3); split = s.2; place = refl }

  module _ (r : IsLawfulComponents R) (tag : ℕ) (tags : (t : ℕ) → F.IsTag t → t ≡ tag) (is_tag : F.IsTag tag) (distinct : (t : ℕ) → F.IsTag t → R.IsTag t → ⊥) where
    -- past a part that may be absent
    abbrev pub Passes : ℕ → ℕ → List ℕ → W → Type 0
    Passes k m x w = (l : ℕ) × (z : List ℕ) × Leads (Past tag) m x l z × R.Reads k z w

module _ {V : Type 0} where
  -- so many values, and then others
  abbrev pub Skips : ℕ → List V → List V → Type 0
  Skips zero vs us = vs ≡ us
  Skips (suc i) vs us = (v : V) × Skips i vs (v ∷ us)

  pub follows_many : (F : Format V) → IsLawful F → (k i m : ℕ) (x : List ℕ) (vs us : List V) → Skips i vs us → ReadsAll (F.Reads k) x vs → (l : ℕ) × (z : List ℕ) × FollowsMany i m x l z × ReadsAll (F.Reads k) z us
  follows_many F f k zero m x vs us e s = (m, x, (refl, refl), subst (ReadsAll (F.Reads k) x) e s)
  follows_many F f k (suc i) m x vs us (v, e) s =
      let r = follows_many F f k i m x vs (v ∷ us) e s in
      let t = r.3 in (
        r.0 + length t.0,
        t.1,
        (r.0, r.1, r.2, record { element = t.0; is = any_element F.IsTag t.0 (f.element k t.0 v t.3); split = t.2; place = refl }),
        t.4,
      )
