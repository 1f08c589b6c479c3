-- What follows from the laws, for every lawful type.
use Rattle.std.proofs.Common.{◌≡◌, ◌⊎◌, ◌↔◌, ℕ, zero, suc, ◌+◌, ◌-◌, ◌≤◌, List, [], ◌∷◌, ◌++◌, length, sym, ap, ◌∙◌, subst, inl, inr, arith, ⊎_elim, append-nil}
use Rattle.asn1_core_element.specs.Element.{head, length_octets, IsElement}
use Rattle.asn1_core_element.specs.laws.ElementLaws.{elements_cut, element_long}
use Rattle.asn1_core_format.specs.Format.{Format, BeginsBy, IsLawfulComponents, IsLawful}
use Rattle.asn1_core_format.specs.Nexts.{IsSameAt, NextIs}

-- an element alone
pub begins_alone : (S : ℕ → Type 0) (b : List ℕ) → IsElement S b → BeginsBy S b
begins_alone S b e = inr (b, [], sym (append-nil b), e)

pub element_some : (S : ℕ → Type 0) (b : List ℕ) → IsElement S b → 2 ≤ length b
element_some S b p = omega (arith, ap length p.is, element_long p.tag p.contents)

pub tag_left : (S T : ℕ → Type 0) (b : List ℕ) → IsElement S b → IsElement (λ t. S t ⊎ T t) b
tag_left S T b e = record { tag = e.tag; contents = e.contents; is_tag = e.is_tag; is = e.is; allowed = inl e.allowed }

pub tag_right : (S T : ℕ → Type 0) (b : List ℕ) → IsElement T b → IsElement (λ t. S t ⊎ T t) b
tag_right S T b e = record { tag = e.tag; contents = e.contents; is_tag = e.is_tag; is = e.is; allowed = inr e.allowed }

pub begins_right : (S T : ℕ → Type 0) (b : List ℕ) → BeginsBy T b → BeginsBy (λ t. S t ⊎ T t) b
begins_right S T b (inl e) = inl e
begins_right S T b (inr p) = inr (p.0, p.1, p.2, tag_right S T p.0 p.3)

element_tag : (S : ℕ → Type 0) (b : List ℕ) → IsElement S b → (t : ℕ) × (x : List ℕ) × (b ≡ t ∷ x) × S t
unfolding head
element_tag S b p = (p.tag, length_octets (length p.contents) ++ p.contents, p.is, p.allowed)

pub begins_next : (S : ℕ → Type 0) (a x b : List ℕ) → IsElement S a → b ≡ a ++ x → NextIs S b
begins_next S a x b p e =
    let q = element_tag S a p in
    subst (NextIs S) (sym (e ∙ ap (λ y. y ++ x) q.2)) q.3

-- bytes whose first is one of some tags begin with no other tag
pub next_distinct : (S T : ℕ → Type 0) (b : List ℕ) → ((t : ℕ) → S t → T t → ⊥) → NextIs S b → BeginsBy T b → ⊥
next_distinct S T [] distinct h z = h
next_distinct S T (t ∷ b) distinct h z =
    ⊎_elim
    (λ (y : t ∷ b ≡ []). omega (arith, ap length y))
    (λ (y : (c : List ℕ) × (x : List ℕ) × (t ∷ b ≡ c ++ x) × IsElement T c). distinct t h (begins_next T y.0 y.1 (t ∷ b) y.3 y.2))
    z

module _ {V : Type 0} (F : Format V) (f : IsLawful F) where
  -- an encoding is not empty
  pub text_some : (k : ℕ) (b : List ℕ) (v : V) → F.Reads k b v → 2 ≤ length b
  text_some k b v r = element_some F.IsTag b (f.element k b v r)

  -- no encoding begins another
  pub texts_cut : (k : ℕ) (a b x y : List ℕ) (u v : V) → F.Reads k a u → F.Reads k b v → a ++ x ≡ b ++ y → (a ≡ b) × (x ≡ y)
  texts_cut k a b x y u v p q e = elements_cut F.IsTag F.IsTag a b x y (f.element k a u p) (f.element k b v q) e

  -- the encoding of what was read is an element too
  pub written_element : (k : ℕ) (b : List ℕ) (v : V) → F.Reads k b v → IsElement F.IsTag (F.text v)
  written_element k b v r = f.element k (F.text v) (F.normal v) (f.components.text_reads k v (f.components.well_formed k b v r))

  -- no accepted input is a proper beginning of another, and each has one value
  pub no_longer : (k : ℕ) (a b x : List ℕ) (u v : V) → F.Reads k a u → F.Reads k b v → a ++ x ≡ b → (a ≡ b) × (x ≡ []) × (u ≡ v)
  no_longer k a b x u v p q e =
      let s = texts_cut k a b x [] u v p q (e ∙ sym (append-nil b)) in
      (s.0, s.1, f.components.one_value k a u v p (subst (λ c. F.Reads k c v) (sym s.0) q))

module _ {V : Type 0} (F : Format V) (f : IsLawfulComponents F) where
  -- the normal value has the same encoding, and is its own normal value
  pub normal_value : (k : ℕ) (v : V) → F.IsWellFormed k v → (F.text (F.normal v) ≡ F.text v) × (F.normal (F.normal v) ≡ F.normal v)
  normal_value k v h =
      let r = f.text_reads k v h in
      let t = (f.fixed k (F.text v) (F.normal v) r).1 (f.text_normal k v h) in
      let s = f.text_reads k (F.normal v) (f.well_formed k (F.text v) (F.normal v) r) in
      (t, f.one_value k (F.text v) (F.normal (F.normal v)) (F.normal v) (subst (λ b. F.Reads k b (F.normal (F.normal v))) t s) r)

  -- encodings are the same exactly where normal values are
  pub same_texts : (k : ℕ) (u v : V) → F.IsWellFormed k u → F.IsWellFormed k v → (F.text u ≡ F.text v) ↔ (F.normal u ≡ F.normal v)
  same_texts k u v g h = (
    λ e. f.one_value k (F.text v) (F.normal u) (F.normal v) (subst (λ b. F.Reads k b (F.normal u)) e (f.text_reads k u g)) (f.text_reads k v h),
    λ e. sym (normal_value k u g).0 ∙ ap F.text e ∙ (normal_value k v h).0,
  )

  -- what is canonical (normal) at k levels is so at one more
  pub normal_deeper : (k : ℕ) (b : List ℕ) → F.IsNormal k b → F.IsNormal (k + 1) b
  normal_deeper k b n =
      let v = f.normal_reads k b n in
      (f.fixed (k + 1) b v.0 (f.deeper k b v.0 v.1)).0 ((f.fixed k b v.0 v.1).1 n)

module _ {V : Type 0} (F : Format V) (f : IsLawfulComponents F) where
  pub reads_deeper : (n k : ℕ) (b : List ℕ) (v : V) → F.Reads k b v → F.Reads (k + n) b v
  reads_deeper zero k b v r =
      let e : k ≡ k + 0 = omega arith in
      subst (λ j. F.Reads j b v) e r
  reads_deeper (suc n) k b v r =
      let e : k + n + 1 ≡ k + suc n = omega arith in
      subst (λ j. F.Reads j b v) e (f.deeper (k + n) b v (reads_deeper n k b v r))

  pub same_at : (k j : ℕ) (b : List ℕ) (v : V) → k ≤ j → F.Reads k b v → IsSameAt F k j b v
  same_at k j b v l r =
      let e : k + (j - k) ≡ j = omega (arith, l) in
      let s = subst (λ n. F.Reads n b v) e (reads_deeper (j - k) k b v r) in
      record {
        reads = s;
        only = λ w t. f.one_value j b w v t s;
        normal = (λ n. (f.fixed k b v r).0 ((f.fixed j b v s).1 n), λ n. (f.fixed j b v s).0 ((f.fixed k b v r).1 n));
      }
