-- DER tested, element by element.
use Rattle.std.proofs.Common.{◌≡◌, ◌↔◌, ℕ, true, zero, suc, ◌-◌, ◌/◌, ◌%◌, ◌<◌, ◌≤◌, List, [], ◌∷◌, ◌++◌, length, take, drop, refl, sym, ap, subst, ◌∙◌, inl, inr, ◌⊎◌, ⊎_elim, arith, append_assoc, append-nil, length-append, length-drop}
use Rattle.std.specs.List.{AllByRecursion}
use Rattle.asn1_core_element.specs.Element.{head, element, IsFront, HasNoFront}
use Rattle.asn1_core_element.specs.laws.ElementLaws.{element_cut, element_same, element_long}
use Rattle.ber_der.specs.Contexts.{may_be_constructed, may_be_primitive}
use Rattle.ber_der.specs.Ber.{IsTag, joined}
use Rattle.ber_der.specs.Der.{AreDer, IsDerPrimitive, IsDerConstructed, IsDer, BeginsDer, BeginsNoDer}
use Rattle.ber_der.specs.laws.DerLaws.{some_element}
use Rattle.ber_der.proofs.Steps.{split_is, front_long}

der_shape : (k : ℕ) (b : List ℕ) → IsDer k b → IsDerPrimitive b ⊎ ((k ≡ 0 → ⊥) × IsDerConstructed (IsDer (k - 1)) b)
unfolding IsDer
der_shape zero b p = inl p
der_shape (suc k) b p =
    let e : k ≡ suc k - 1 = omega arith in
    ⊎_elim (λ (h : IsDerPrimitive b). inl h) (λ (h : IsDerConstructed (IsDer k) b). inr (λ z. omega (arith, z), subst (λ j. IsDerConstructed (IsDer j) b) e h)) p

primitive_der : (k : ℕ) (b : List ℕ) → IsDerPrimitive b → IsDer k b
unfolding IsDer
primitive_der zero b p = p
primitive_der (suc k) b p = inl p

constructed_der : (k : ℕ) (b : List ℕ) → (k ≡ 0 → ⊥) → IsDerConstructed (IsDer (k - 1)) b → IsDer k b
unfolding IsDer
constructed_der zero b n p = absurd (n refl)
constructed_der (suc k) b n p =
    let e : suc k - 1 ≡ k = omega arith in
    inr (subst (λ j. IsDerConstructed (IsDer j) b) e p)

-- what begins alike is alike
der_cut : (k : ℕ) (a b x y : List ℕ) → IsDer k a → IsDer k b → a ++ x ≡ b ++ y → (a ≡ b) × (x ≡ y)
der_cut k a b x y p q e =
    let f = some_element k a p in
    let g = some_element k b q in
    let r = element_cut f.0 g.0 f.1 g.1 x y (ap (λ w. w ++ x) (sym f.2) ∙ e ∙ ap (λ w. w ++ y) g.2) in
    (f.2 ∙ ap (λ t. element t f.1) r.0 ∙ ap (element g.0) r.1 ∙ sym g.2, r.2)

der_long : (k : ℕ) (a : List ℕ) → IsDer k a → 2 ≤ length a
der_long k a p =
    let f = some_element k a p in
    omega (arith, ap length f.2, element_long f.0 f.1)

pub no_front : (k : ℕ) (bytes : List ℕ) → HasNoFront bytes → BeginsNoDer k bytes
no_front k bytes none der rest p e =
    let f = some_element k der p in
    none f.0 f.1 rest f.3.0 (e ∙ ap (λ w. w ++ rest) f.2)

-- an element at the front, and what follows it
module _ (k : ℕ) (bytes body contents rest : List ℕ) (tag n size : ℕ) (f : IsFront bytes tag n size) (is_body : body ≡ drop size bytes) (front : contents ≡ take n body) (back : rest ≡ drop n body) where
  len_is : length contents ≡ n
  len_is = front_long n body contents front (omega (arith, f.fits, ap length is_body, length-drop size bytes))

  begins : bytes ≡ element tag contents ++ rest
  begins =
      f.header ∙ ap (λ w. head tag n ++ w) (sym is_body ∙ split_is n body contents rest front back) ∙ sym (append_assoc (head tag n) contents rest)
      ∙ ap (λ m. (head tag m ++ contents) ++ rest) (sym len_is)

  pub one : IsDer k (element tag contents) → BeginsDer k bytes rest
  one p = record { der = element tag contents; is = p; split = begins }

  none : (IsDer k (element tag contents) → ⊥) → BeginsNoDer k bytes
  none fails der y p e =
      let g = some_element k der p in
      let r = element_cut tag g.0 contents g.1 rest y (sym begins ∙ e ∙ ap (λ w. w ++ y) g.2) in
      fails (subst (IsDer k) (g.2 ∙ ap (λ t. element t g.1) (sym r.0) ∙ ap (element tag) (sym r.1)) p)

  pub no_tag : tag ≡ 0 → BeginsNoDer k bytes
  no_tag z = none (λ p.
      let g = some_element k (element tag contents) p in
      omega (arith, z, (element_same tag g.0 contents g.1 g.2).0, g.3.1))

  is_tag : (tag ≡ 0 → ⊥) → IsTag tag
  is_tag z = (f.is_tag, omega arith)

  pub primitive : (tag ≡ 0 → ⊥) → tag / 32 % 2 ≡ 0 → may_be_primitive tag n ≡ true → BeginsDer k bytes rest
  primitive z form may = one (primitive_der k (element tag contents) (record { tag = tag; contents = contents; is_tag = is_tag z; form = form; primitive = ap (may_be_primitive tag) len_is ∙ may; is = refl }))

  pub not_primitive : tag / 32 % 2 ≡ 0 → (may_be_primitive tag n ≡ true → ⊥) → BeginsNoDer k bytes
  not_primitive form fails =
      none (λ p. ⊎_elim
      (λ (h : IsDerPrimitive (element tag contents)).
      let r = element_same tag h.tag contents h.contents h.is in
      fails (ap (λ t. may_be_primitive t n) r.0 ∙ ap (may_be_primitive h.tag) (sym len_is ∙ ap length r.1) ∙ h.primitive))
      (λ (h : (k ≡ 0 → ⊥) × IsDerConstructed (IsDer (k - 1)) (element tag contents)).
      let q = h.1 in
      let e : q.tag / 32 % 2 ≡ 0 = ap (λ t. t / 32 % 2) (sym (element_same tag q.tag contents q.contents q.is).0) ∙ form in
      omega (arith, e, q.form))
      (der_shape k (element tag contents) p))

  pub constructed : (tag ≡ 0 → ⊥) → (tag / 32 % 2 ≡ 0 → ⊥) → (k ≡ 0 → ⊥) → (tag ≡ 36 → ⊥) → may_be_constructed tag ≡ true → AreDer (IsDer (k - 1)) contents → BeginsDer k bytes rest
  constructed z form some no_string may holds =
      one (constructed_der k (element tag contents) some (record { tag = tag; contents = contents; is_tag = is_tag z; form = omega (arith, form); constructed = may; no_string = no_string; holds = holds; is = refl }))

  -- what a constructed element has to be
  unless : (tag / 32 % 2 ≡ 0 → ⊥) → ((k ≡ 0 → ⊥) → may_be_constructed tag ≡ true → (tag ≡ 36 → ⊥) → AreDer (IsDer (k - 1)) contents → ⊥) → BeginsNoDer k bytes
  unless form fails =
      none (λ p. ⊎_elim
      (λ (h : IsDerPrimitive (element tag contents)). form (ap (λ t. t / 32 % 2) (element_same tag h.tag contents h.contents h.is).0 ∙ h.form))
      (λ (h : (k ≡ 0 → ⊥) × IsDerConstructed (IsDer (k - 1)) (element tag contents)).
      let q = h.1 in
      let r = element_same tag q.tag contents q.contents q.is in
      fails h.0 (ap may_be_constructed r.0 ∙ q.constructed) (λ e. q.no_string (sym r.0 ∙ e)) (subst (AreDer (IsDer (k - 1))) (sym r.1) q.holds))
      (der_shape k (element tag contents) p))

  pub too_deep : (tag / 32 % 2 ≡ 0 → ⊥) → k ≡ 0 → BeginsNoDer k bytes
  too_deep form z = unless form (λ s m n h. s z)

  pub not_constructed : (tag / 32 % 2 ≡ 0 → ⊥) → ((may_be_constructed tag ≡ true) × (tag ≡ 36 → ⊥) → ⊥) → BeginsNoDer k bytes
  not_constructed form fails = unless form (λ s m n h. fails (m, n))

  pub not_held : (tag / 32 % 2 ≡ 0 → ⊥) → (AreDer (IsDer (k - 1)) contents → ⊥) → BeginsNoDer k bytes
  not_held form fails = unless form (λ s m n h. fails h)

pub none_inside : (k : ℕ) → AreDer (IsDer k) []
none_inside k = record { parts = []; each = tt; is = refl }

inside_rest : (k : ℕ) (bytes rest a : List ℕ) (parts : List (List ℕ)) → IsDer k a → bytes ≡ a ++ rest → AllByRecursion (IsDer k) parts → bytes ≡ joined parts → AreDer (IsDer k) rest
inside_rest k bytes rest a [] p e h i = absurd (omega (arith, der_long k a p, ap length (sym e ∙ i), length-append a rest))
inside_rest k bytes rest a (d ∷ ds) p e h i =
    let r = der_cut k a d rest (joined ds) p h.0 (sym e ∙ i) in
    record { parts = ds; each = h.1; is = r.1 }

-- the contents are elements exactly where what follows the first is
pub inside_after : (k : ℕ) (bytes rest : List ℕ) → BeginsDer k bytes rest → AreDer (IsDer k) bytes ↔ AreDer (IsDer k) rest
inside_after k bytes rest b = (
  λ h. inside_rest k bytes rest b.der h.parts b.is b.split h.each h.is,
  λ h. record { parts = b.der ∷ h.parts; each = (b.is, h.each); is = b.split ∙ ap (λ w. b.der ++ w) h.is },
)

not_inside_parts : (k : ℕ) (bytes : List ℕ) (parts : List (List ℕ)) → 1 ≤ length bytes → BeginsNoDer k bytes → AllByRecursion (IsDer k) parts → bytes ≡ joined parts → ⊥
not_inside_parts k bytes [] l none h i = omega (arith, l, ap length i)
not_inside_parts k bytes (d ∷ ds) l none h i = none d (joined ds) h.0 i

pub nothing_inside : (k : ℕ) (bytes : List ℕ) → 1 ≤ length bytes → BeginsNoDer k bytes → AreDer (IsDer k) bytes → ⊥
nothing_inside k bytes l none h = not_inside_parts k bytes h.parts l none h.each h.is

pub whole_der : (k : ℕ) (bytes rest : List ℕ) → BeginsDer k bytes rest → IsDer k bytes ↔ (rest ≡ [])
whole_der k bytes rest b = (
  λ p. sym (der_cut k bytes b.der [] rest p b.is (append-nil bytes ∙ b.split)).1,
  λ e. subst (IsDer k) (sym (b.split ∙ ap (λ w. b.der ++ w) e ∙ append-nil b.der)) b.is,
)

pub whole_no_der : (k : ℕ) (bytes : List ℕ) → BeginsNoDer k bytes → IsDer k bytes → ⊥
whole_no_der k bytes none p = none bytes [] p (sym (append-nil bytes))

pub shorter : (k : ℕ) (bytes rest : List ℕ) → BeginsDer k bytes rest → length rest < length bytes
shorter k bytes rest b = omega (arith, der_long k b.der b.is, ap length b.split, length-append b.der rest)
