-- Laws of `BerLaws.antt`.
use Rattle.std.proofs.Common.{◌≡◌, ℕ, Bool, true, false, inl, inr, zero, suc, ◌+◌, ◌/◌, ◌%◌, ◌<◌, ◌≤◌, List, [], ◌∷◌, ◌++◌, length, get_or, refl, sym, ap, subst, ◌∙◌, ⊎_elim, arith, append_assoc, length-append}
use Rattle.std.specs.Int.Digits.{number_from_digits}
use Rattle.asn1_core_element.specs.laws.ElementLaws.{same_parts}
use Rattle.ber_der.specs.Contexts.{role_in, context_after, context_inside, der_tag}
use Rattle.ber_der.specs.Ber.{Allows, IsLong, IsLength, IsDefinite, IsIndefinite, IsPrimitive, IsConstructed, IsBerWith, Holds, joined, der_of}
use Rattle.ber_der.specs.declared.contexts.Role.{Role}
use Rattle.ber_der.specs.declared.contexts.Role.TheVariants.{Whole, Segment, Implicit}
use Rattle.ber_der.specs.declared.contexts.Context.{Context}
use Rattle.ber_der.specs.declared.contexts.Context.TheVariants.{First, AfterType, AfterAlgorithm, Other, InString}
use Rattle.ber_der.specs.BerLaws.{IsCut}

-- what begins an encoding of two bytes and more begins it with what follows too
pub role_in_front : (context : Context) (a x : List ℕ) → 2 ≤ length a → role_in context (a ++ x) ≡ role_in context a
role_in_front context [] x l = absurd (omega (arith, l))
role_in_front context (p ∷ []) x l = absurd (omega (arith, l))
role_in_front First (p ∷ q ∷ a) x l = refl
role_in_front AfterType (p ∷ q ∷ a) x l = refl
role_in_front AfterAlgorithm (p ∷ q ∷ a) x l = refl
role_in_front Other (p ∷ q ∷ a) x l = refl
role_in_front InString (p ∷ q ∷ a) x l = refl

pub first_at_front : (a x : List ℕ) → 2 ≤ length a → get_or (a ++ x) 0 0 ≡ get_or a 0 0
first_at_front [] x l = absurd (omega (arith, l))
first_at_front (p ∷ a) x l = refl

length_octets_some : (ls : List ℕ) (n : ℕ) → IsLength ls n → 1 ≤ length ls
length_octets_some [] n l = absurd l
length_octets_some (f ∷ ls) n l = omega arith

pub definite_long : {b c : List ℕ} {tag : ℕ} → IsDefinite b tag c → 2 + length c ≤ length b
definite_long {b} {c} {tag} d = omega (arith, ap length d.is, length-append d.length_octets c, length_octets_some d.length_octets (length c) d.length_is)

pub indefinite_long : (b c : List ℕ) (tag : ℕ) → IsIndefinite b tag c → 4 + length c ≤ length b
indefinite_long b c tag e = omega (arith, ap length e, length-append c (0 ∷ 0 ∷ []))

-- the octets of a length begin those of no other
pub length_cut : (a b : List ℕ) (m n : ℕ) (x y : List ℕ) → IsLength a m → IsLength b n → a ++ x ≡ b ++ y → (a ≡ b) × (m ≡ n) × (x ≡ y)
length_cut [] b m n x y p q e = absurd p
length_cut (f ∷ a) [] m n x y p q e = absurd q
length_cut (f ∷ a) (g ∷ b) m n x y p q e =
    let h : f ≡ g = cc in
    let t : a ++ x ≡ b ++ y = cc in
    ⊎_elim
    (λ (u : (f < 128) × (a ≡ []) × (m ≡ f)). ⊎_elim
    (λ (v : (g < 128) × (b ≡ []) × (n ≡ g)).
    let ab : a ≡ b = u.1 ∙ sym v.1 in
    let r = same_parts a b x y (ap length ab) t in
    (ap (λ z. f ∷ z) ab ∙ ap (λ z. z ∷ b) h, u.2 ∙ h ∙ sym v.2, r.1))
    (λ (v : IsLong g b n). absurd (omega (arith, u.0, v.count, h))) q)
    (λ (u : IsLong f a m). ⊎_elim
    (λ (v : (g < 128) × (b ≡ []) × (n ≡ g)). absurd (omega (arith, v.0, u.count, h)))
    (λ (v : IsLong g b n).
    let r = same_parts a b x y (omega (arith, u.count, v.count, h)) t in
    (ap (λ z. f ∷ z) r.0 ∙ ap (λ z. z ∷ b) h, u.number ∙ ap (number_from_digits 256) r.0 ∙ sym v.number, r.1)) q) p

-- an indefinite length begins no definite one
pub not_indefinite : (a : List ℕ) (n : ℕ) (x y : List ℕ) → IsLength a n → a ++ x ≡ 128 ∷ y → ⊥
not_indefinite [] n x y p e = p
not_indefinite (f ∷ a) n x y p e =
    let h : f ≡ 128 = cc in
    ⊎_elim (λ (u : (f < 128) × (a ≡ []) × (n ≡ f)). omega (arith, u.0, h)) (λ (u : IsLong f a n). omega (arith, u.count, u.some, h)) p

definite_cut : (a b : List ℕ) (t u : ℕ) (c d x y : List ℕ) → IsDefinite a t c → IsDefinite b u d → a ++ x ≡ b ++ y → (t ≡ u) × (c ≡ d) × (a ≡ b) × (x ≡ y)
definite_cut a b t u c d x y p q e =
    let f : t ∷ (p.length_octets ++ (c ++ x)) ≡ u ∷ (q.length_octets ++ (d ++ y)) =
    sym (ap (λ z. z ++ x) p.is ∙ ap (λ z. t ∷ z) (append_assoc p.length_octets c x)) ∙ e ∙ (ap (λ z. z ++ y) q.is ∙ ap (λ z. u ∷ z) (append_assoc q.length_octets d y)) in
    let h : t ≡ u = cc in
    let g : p.length_octets ++ (c ++ x) ≡ q.length_octets ++ (d ++ y) = cc in
    let r = length_cut p.length_octets q.length_octets (length c) (length d) (c ++ x) (d ++ y) p.length_is q.length_is g in
    let s = same_parts c d x y r.1 r.2 in
    (h, s.0, p.is ∙ ap (λ z. z ∷ p.length_octets ++ c) h ∙ ap (λ z. u ∷ z ++ c) r.0 ∙ ap (λ z. u ∷ q.length_octets ++ z) s.0 ∙ sym q.is, s.1)

-- of two encodings that begin alike, one is not definite and the other indefinite
mixed_cut : (a b : List ℕ) (t u : ℕ) (c d x y : List ℕ) → IsDefinite a t c → IsIndefinite b u d → a ++ x ≡ b ++ y → ⊥
mixed_cut a b t u c d x y p q e =
    let f : t ∷ (p.length_octets ++ (c ++ x)) ≡ u ∷ 128 ∷ ((d ++ 0 ∷ 0 ∷ []) ++ y) =
    sym (ap (λ z. z ++ x) p.is ∙ ap (λ z. t ∷ z) (append_assoc p.length_octets c x)) ∙ e ∙ ap (λ z. z ++ y) q in
    let g : p.length_octets ++ (c ++ x) ≡ 128 ∷ ((d ++ 0 ∷ 0 ∷ []) ++ y) = cc in
    not_indefinite p.length_octets (length c) (c ++ x) ((d ++ 0 ∷ 0 ∷ []) ++ y) p.length_is g

module _ (joins : Bool) where
  -- an encoding has two bytes and more
  pub ber_long : (k : ℕ) (role : Role) (b d : List ℕ) → IsBerWith joins k role b d → 2 ≤ length b
  unfolding IsBerWith
  ber_long zero role b d p = omega (arith, definite_long p.is)
  ber_long (suc k) role b d p =
      ⊎_elim (λ (h : IsPrimitive joins role b d). omega (arith, definite_long h.is))
      (λ (h : IsConstructed joins (IsBerWith joins k) role b d). ⊎_elim (λ (i : IsDefinite b h.tag h.contents). omega (arith, definite_long i)) (λ (i : IsIndefinite b h.tag h.contents). omega (arith, indefinite_long b h.contents h.tag i)) h.is) p

  -- an encoding is not the end of contents
  pub first_some : (role : Role) (k : ℕ) (a d : List ℕ) → IsBerWith joins k role a d → 1 ≤ get_or a 0 0
  unfolding IsBerWith
  first_some role zero a d p = omega (arith, ap (λ b. get_or b 0 0) p.is.is, p.is_tag.1)
  first_some role (suc k) a d p =
      ⊎_elim (λ (h : IsPrimitive joins role a d). omega (arith, ap (λ b. get_or b 0 0) h.is.is, h.is_tag.1))
      (λ (h : IsConstructed joins (IsBerWith joins k) role a d). ⊎_elim
      (λ (i : IsDefinite a h.tag h.contents). omega (arith, ap (λ b. get_or b 0 0) i.is, h.is_tag.1))
      (λ (i : IsIndefinite a h.tag h.contents). omega (arith, ap (λ b. get_or b 0 0) i, h.is_tag.1)) h.is) p

  module _ (R : Role → List ℕ → List ℕ → Type 0) (cut : IsCut R) (long : (role : Role) (a d : List ℕ) → R role a d → 2 ≤ length a) (some : (role : Role) (a d : List ℕ) → R role a d → 1 ≤ get_or a 0 0) where
    -- two encodings at the front of the same bytes
    pub fronts : (context : Context) (a b d e x y : List ℕ) → R (role_in context a) a d → R (role_in context b) b e → a ++ x ≡ b ++ y → (a ≡ b) × (d ≡ e) × (x ≡ y)
    fronts context a b d e x y p q s =
        let r : role_in context a ≡ role_in context b = sym (role_in_front context a x (long (role_in context a) a d p)) ∙ ap (role_in context) s ∙ role_in_front context b y (long (role_in context b) b e q) in
        cut (role_in context b) a b d e x y (subst (λ role. R role a d) r p) q s

    holds_same : (context : Context) (c : List ℕ) (ds es : List (List ℕ)) → Holds R context c ds → Holds R context c es → ds ≡ es
    holds_same context c [] [] p q = refl
    holds_same context c [] (e ∷ es) p q = absurd (omega (arith, long (role_in context q.0) q.0 e q.3, ap length p, ap length q.2, length-append q.0 q.1))
    holds_same context c (d ∷ ds) [] p q = absurd (omega (arith, long (role_in context p.0) p.0 d p.3, ap length q, ap length p.2, length-append p.0 p.1))
    holds_same context c (d ∷ ds) (e ∷ es) p q =
        let f = fronts context p.0 q.0 d e p.1 q.1 p.3 q.3 (sym p.2 ∙ q.2) in
        let h : Holds R (context_after context (get_or q.0 0 0)) q.1 ds = subst (λ b. Holds R (context_after context (get_or q.0 0 0)) b ds) f.2 (subst (λ a. Holds R (context_after context (get_or a 0 0)) p.1 ds) f.0 p.4) in
        let t : ds ≡ es = holds_same (context_after context (get_or q.0 0 0)) q.1 ds es h q.4 in
        ap (λ z. z ∷ ds) f.1 ∙ ap (λ z. e ∷ z) t

    holds_cut : (context : Context) (c b : List ℕ) (ds es : List (List ℕ)) (x y : List ℕ) → Holds R context c ds → Holds R context b es → c ++ 0 ∷ 0 ∷ x ≡ b ++ 0 ∷ 0 ∷ y → (c ≡ b) × (ds ≡ es) × (x ≡ y)
    holds_cut context c b [] [] x y p q s =
        let z : 0 ∷ 0 ∷ x ≡ 0 ∷ 0 ∷ y = sym (ap (λ w. w ++ 0 ∷ 0 ∷ x) p) ∙ s ∙ ap (λ w. w ++ 0 ∷ 0 ∷ y) q in
        (p ∙ sym q, refl, cc)
    holds_cut context c b [] (e ∷ es) x y p q s =
        let z : 0 ∷ 0 ∷ x ≡ q.0 ++ (q.1 ++ 0 ∷ 0 ∷ y) = sym (ap (λ w. w ++ 0 ∷ 0 ∷ x) p) ∙ s ∙ ap (λ w. w ++ 0 ∷ 0 ∷ y) q.2 ∙ append_assoc q.0 q.1 (0 ∷ 0 ∷ y) in
        let o : 0 ≡ get_or q.0 0 0 = ap (λ w. get_or w 0 0) z ∙ first_at_front q.0 (q.1 ++ 0 ∷ 0 ∷ y) (long (role_in context q.0) q.0 e q.3) in
        absurd (omega (arith, o, some (role_in context q.0) q.0 e q.3))
    holds_cut context c b (d ∷ ds) [] x y p q s =
        let z : p.0 ++ (p.1 ++ 0 ∷ 0 ∷ x) ≡ 0 ∷ 0 ∷ y = sym (ap (λ w. w ++ 0 ∷ 0 ∷ x) p.2 ∙ append_assoc p.0 p.1 (0 ∷ 0 ∷ x)) ∙ s ∙ ap (λ w. w ++ 0 ∷ 0 ∷ y) q in
        let o : get_or p.0 0 0 ≡ 0 = sym (first_at_front p.0 (p.1 ++ 0 ∷ 0 ∷ x) (long (role_in context p.0) p.0 d p.3)) ∙ ap (λ w. get_or w 0 0) z in
        absurd (omega (arith, o, some (role_in context p.0) p.0 d p.3))
    holds_cut context c b (d ∷ ds) (e ∷ es) x y p q s =
        let z : p.0 ++ (p.1 ++ 0 ∷ 0 ∷ x) ≡ q.0 ++ (q.1 ++ 0 ∷ 0 ∷ y) = sym (ap (λ w. w ++ 0 ∷ 0 ∷ x) p.2 ∙ append_assoc p.0 p.1 (0 ∷ 0 ∷ x)) ∙ s ∙ ap (λ w. w ++ 0 ∷ 0 ∷ y) q.2 ∙ append_assoc q.0 q.1 (0 ∷ 0 ∷ y) in
        let f = fronts context p.0 q.0 d e (p.1 ++ 0 ∷ 0 ∷ x) (q.1 ++ 0 ∷ 0 ∷ y) p.3 q.3 z in
        let h : Holds R (context_after context (get_or q.0 0 0)) p.1 ds = subst (λ a. Holds R (context_after context (get_or a 0 0)) p.1 ds) f.0 p.4 in
        let t = holds_cut (context_after context (get_or q.0 0 0)) p.1 q.1 ds es x y h q.4 f.2 in
        (p.2 ∙ ap (λ w. w ++ p.1) f.0 ∙ ap (λ w. q.0 ++ w) t.0 ∙ sym q.2, ap (λ w. w ∷ ds) f.1 ∙ ap (λ w. e ∷ w) t.1, t.2)

    constructed_cut : (role : Role) (a b d e x y : List ℕ) → IsConstructed joins R role a d → IsConstructed joins R role b e → a ++ x ≡ b ++ y → (a ≡ b) × (d ≡ e) × (x ≡ y)
    constructed_cut role a b d e x y p q s =
        ⊎_elim
        (λ (i : IsDefinite a p.tag p.contents). ⊎_elim
        (λ (j : IsDefinite b q.tag q.contents).
        let r = definite_cut a b p.tag q.tag p.contents q.contents x y i j s in
        let h : Holds R (context_inside role q.tag) q.contents p.ders = subst (λ c. Holds R (context_inside role q.tag) c p.ders) r.1 (subst (λ t. Holds R (context_inside role t) p.contents p.ders) r.0 p.holds) in
        (r.2, p.der ∙ ap (λ t. der_of role (der_tag role t) (joined p.ders)) r.0 ∙ ap (λ ds. der_of role (der_tag role q.tag) (joined ds)) (holds_same (context_inside role q.tag) q.contents p.ders q.ders h q.holds) ∙ sym q.der, r.3))
        (λ (j : IsIndefinite b q.tag q.contents). absurd (mixed_cut a b p.tag q.tag p.contents q.contents x y i j s)) q.is)
        (λ (i : IsIndefinite a p.tag p.contents). ⊎_elim
        (λ (j : IsDefinite b q.tag q.contents). absurd (mixed_cut b a q.tag p.tag q.contents p.contents y x j i (sym s)))
        (λ (j : IsIndefinite b q.tag q.contents).
        let z : p.tag ∷ 128 ∷ (p.contents ++ 0 ∷ 0 ∷ x) ≡ q.tag ∷ 128 ∷ (q.contents ++ 0 ∷ 0 ∷ y) =
        sym (ap (λ w. w ++ x) i ∙ ap (λ w. p.tag ∷ 128 ∷ w) (append_assoc p.contents (0 ∷ 0 ∷ []) x)) ∙ s ∙ (ap (λ w. w ++ y) j ∙ ap (λ w. q.tag ∷ 128 ∷ w) (append_assoc q.contents (0 ∷ 0 ∷ []) y)) in
        let t : p.tag ≡ q.tag = cc in
        let g : p.contents ++ 0 ∷ 0 ∷ x ≡ q.contents ++ 0 ∷ 0 ∷ y = cc in
        let h : Holds R (context_inside role q.tag) p.contents p.ders = subst (λ u. Holds R (context_inside role u) p.contents p.ders) t p.holds in
        let r = holds_cut (context_inside role q.tag) p.contents q.contents p.ders q.ders x y h q.holds g in
        (i ∙ ap (λ u. u ∷ 128 ∷ p.contents ++ 0 ∷ 0 ∷ []) t ∙ ap (λ w. q.tag ∷ 128 ∷ w ++ 0 ∷ 0 ∷ []) r.0 ∙ sym j, p.der ∙ ap (λ u. der_of role (der_tag role u) (joined p.ders)) t ∙ ap (λ ds. der_of role (der_tag role q.tag) (joined ds)) r.1 ∙ sym q.der, r.2)) q.is) p.is

  primitive_cut : (role : Role) (a b d e x y : List ℕ) → IsPrimitive joins role a d → IsPrimitive joins role b e → a ++ x ≡ b ++ y → (a ≡ b) × (d ≡ e) × (x ≡ y)
  primitive_cut role a b d e x y p q s =
      let r = definite_cut a b p.tag q.tag p.contents q.contents x y p.is q.is s in
      (r.2, p.der ∙ ap (λ t. der_of role t p.contents) r.0 ∙ ap (λ c. der_of role q.tag c) r.1 ∙ sym q.der, r.3)

  -- a primitive encoding and a constructed one don't begin alike
  first_of_constructed : {R : Role → List ℕ → List ℕ → Type 0} {role : Role} {b e : List ℕ} (q : IsConstructed joins R role b e) (y : List ℕ) → get_or (b ++ y) 0 0 ≡ q.tag
  first_of_constructed {R} {role} {b} {e} q y =
      ⊎_elim (λ (i : IsDefinite b q.tag q.contents). ap (λ w. get_or (w ++ y) 0 0) i.is) (λ (i : IsIndefinite b q.tag q.contents). ap (λ w. get_or (w ++ y) 0 0) i) q.is

  forms_differ : {R : Role → List ℕ → List ℕ → Type 0} (role : Role) (a b d e x y : List ℕ) → IsPrimitive joins role a d → IsConstructed joins R role b e → a ++ x ≡ b ++ y → ⊥
  forms_differ role a b d e x y p q s =
      let t : p.tag ≡ q.tag = sym (ap (λ w. get_or (w ++ x) 0 0) p.is.is) ∙ ap (λ w. get_or w 0 0) s ∙ first_of_constructed q y in
      let f : q.tag / 32 % 2 ≡ 0 = ap (λ u. u / 32 % 2) (sym t) ∙ p.form in
      omega (arith, f, q.form)

  pub ber_cut : (k : ℕ) → IsCut (IsBerWith joins k)
  unfolding IsBerWith
  ber_cut zero role a b d e x y p q s = primitive_cut role a b d e x y p q s
  ber_cut (suc k) role a b d e x y p q s =
      ⊎_elim
      (λ (u : IsPrimitive joins role a d). ⊎_elim
      (λ (v : IsPrimitive joins role b e). primitive_cut role a b d e x y u v s)
      (λ (v : IsConstructed joins (IsBerWith joins k) role b e). absurd (forms_differ role a b d e x y u v s)) q)
      (λ (u : IsConstructed joins (IsBerWith joins k) role a d). ⊎_elim
      (λ (v : IsPrimitive joins role b e). absurd (forms_differ role b a e d y x v u (sym s)))
      (λ (v : IsConstructed joins (IsBerWith joins k) role b e). constructed_cut (IsBerWith joins k) (ber_cut k) (ber_long k) (λ r. first_some r k) role a b d e x y u v s) q) p

  -- one DER for each encoding
  pub one_der : (k : ℕ) (role : Role) (b d e : List ℕ) → IsBerWith joins k role b d → IsBerWith joins k role b e → d ≡ e
  one_der k role b d e p q = (ber_cut k role b b d e [] [] p q refl).1

  -- two encodings at the front of the same bytes, at a context
  pub ber_fronts : (k : ℕ) (context : Context) (a b d e x y : List ℕ) → IsBerWith joins k (role_in context a) a d → IsBerWith joins k (role_in context b) b e → a ++ x ≡ b ++ y → (a ≡ b) × (d ≡ e) × (x ≡ y)
  ber_fronts k = fronts (IsBerWith joins k) (ber_cut k) (ber_long k) (λ r. first_some r k)

-- what is allowed where elements of two readings are refused is allowed where they are joined
allows_more : (role : Role) (tag own : ℕ) → Allows false role tag own → Allows true role tag own
allows_more Whole tag own a = tt
allows_more Segment tag own a = a
allows_more Implicit tag own a = (a.0, refl)

module _ (i j : Bool) (more : (role : Role) (tag own : ℕ) → Allows i role tag own → Allows j role tag own) where
  primitive_more : (role : Role) (b d : List ℕ) → IsPrimitive i role b d → IsPrimitive j role b d
  primitive_more role b d p = record {
    tag = p.tag;
    contents = p.contents;
    is_tag = p.is_tag;
    form = p.form;
    primitive = p.primitive;
    allowed = more role p.tag 4 p.allowed;
    is = p.is;
    der = p.der;
  }

  module _ (R S : Role → List ℕ → List ℕ → Type 0) (each : (role : Role) (b d : List ℕ) → R role b d → S role b d) where
    holds_more : (context : Context) (c : List ℕ) (ds : List (List ℕ)) → Holds R context c ds → Holds S context c ds
    holds_more context c [] h = h
    holds_more context c (d ∷ ds) h = (h.0, h.1, h.2, each (role_in context h.0) h.0 d h.3, holds_more (context_after context (get_or h.0 0 0)) h.1 ds h.4)

    constructed_more : (role : Role) (b d : List ℕ) → IsConstructed i R role b d → IsConstructed j S role b d
    constructed_more role b d q = record {
      tag = q.tag;
      contents = q.contents;
      ders = q.ders;
      is_tag = q.is_tag;
      form = q.form;
      constructed = q.constructed;
      allowed = more role q.tag 36 q.allowed;
      is = q.is;
      holds = holds_more (context_inside role q.tag) q.contents q.ders q.holds;
      der = q.der;
    }

pub unambiguous_is_ber : (k : ℕ) (role : Role) (b d : List ℕ) → IsBerWith false k role b d → IsBerWith true k role b d
unfolding IsBerWith
unambiguous_is_ber zero role b d p = primitive_more false true allows_more role b d p
unambiguous_is_ber (suc k) role b d p =
    ⊎_elim (λ (h : IsPrimitive false role b d). inl (primitive_more false true allows_more role b d h))
    (λ (h : IsConstructed false (IsBerWith false k) role b d). inr (constructed_more false true allows_more (IsBerWith false k) (IsBerWith true k) (unambiguous_is_ber k) role b d h)) p

-- what is converted at k levels is converted alike at one more
pub deeper : (joins : Bool) (k : ℕ) (role : Role) (b d : List ℕ) → IsBerWith joins k role b d → IsBerWith joins (suc k) role b d
unfolding IsBerWith
deeper joins zero role b d p = inl p
deeper joins (suc k) role b d p =
    ⊎_elim (λ (h : IsPrimitive joins role b d). inl h)
    (λ (h : IsConstructed joins (IsBerWith joins k) role b d). inr (constructed_more joins joins (λ role tag own a. a) (IsBerWith joins k) (IsBerWith joins (suc k)) (deeper joins k) role b d h)) p
