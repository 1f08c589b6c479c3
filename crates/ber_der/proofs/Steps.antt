-- Converting, step by step.
use Rattle.std.proofs.Common.{◌≡◌, ℕ, Bool, true, zero, suc, ◌-◌, ◌/◌, ◌%◌, ◌<◌, ◌≤◌, List, [], ◌∷◌, ◌++◌, length, take, drop, get_or, refl, sym, ap, subst, ◌∙◌, inl, inr, ◌⊎◌, ⊎_elim, Option, Some, None, IfSome, arith, append_assoc, append-nil, length-append}
use Rattle.std.proofs.Math.Seq.{take-append_seam, drop-append_seam}
use Rattle.std.proofs.lemmas.List.{take-append-drop, take_rest, length-take-le, flat_map_more}
use Rattle.ber_der.specs.Contexts.{role_in, context_after, context_inside, der_tag, may_be_constructed, may_be_primitive}
use Rattle.ber_der.specs.Ber.{IsLength, IsTag, Allows, IsDefinite, IsIndefinite, IsPrimitive, IsConstructed, IsBerWith, Holds, joined, der_of, Converted, ConvertedContents, ConvertedToEnd, ConvertedBody, BeginsNone, HoldsNone, EndsNone, BodyNone}
use Rattle.ber_der.specs.Lengths.{BeginsDefinite, BeginsWithLength, HasNoLength}
use Rattle.ber_der.proofs.Octets.{uncons}
use Rattle.ber_der.specs.laws.BerLaws.{role_in_front, first_at_front, ber_long, first_some, ber_fronts, ber_cut, length_cut, not_indefinite}
use Rattle.ber_der.specs.declared.contexts.Role.{Role}
use Rattle.ber_der.specs.declared.contexts.Context.{Context}

pub split_is : (n : ℕ) (rest front back : List ℕ) → front ≡ take n rest → back ≡ drop n rest → rest ≡ front ++ back
split_is n rest front back f b = sym (take-append-drop n rest) ∙ ap (λ x. x ++ drop n rest) (sym f) ∙ ap (λ x. front ++ x) (sym b)

pub front_long : (n : ℕ) (rest front : List ℕ) → front ≡ take n rest → n ≤ length rest → length front ≡ n
front_long n rest front f l = ap length f ∙ length-take-le n rest l

pub a_tag : (tag : ℕ) → (tag ≡ 0 → ⊥) → (tag % 32 ≡ 31 → ⊥) → IsTag tag
a_tag tag n m = (omega arith, omega arith)

-- what follows the tag
abbrev pub after_tag : List ℕ → List ℕ
after_tag bytes = take (length bytes - 1) (drop 1 bytes)

pub two_zeros : (b : List ℕ) → 2 ≤ length b → get_or b 0 0 ≡ 0 → get_or b 1 0 ≡ 0 → b ≡ 0 ∷ 0 ∷ take (length b - 2) (drop 2 b)
two_zeros [] l f g = absurd (omega (arith, l))
two_zeros (x ∷ []) l f g = absurd (omega (arith, l))
two_zeros (x ∷ y ∷ b) l f g = ap (λ t. t ∷ y ∷ b) f ∙ ap (λ t. 0 ∷ t ∷ b) g ∙ ap (λ t. 0 ∷ 0 ∷ t) (sym (take_rest (x ∷ y ∷ b) 2))

-- the rest holds encodings up to an end
pub record LeftOver (R : Role → List ℕ → List ℕ → Type 0) (context : Context) (rest x : List ℕ) : Type 0 where
  pub contents : List ℕ
  pub ders : List (List ℕ)
  pub holds : Holds R context contents ders
  pub split : rest ≡ contents ++ x

-- Between two encodings in contents: those that were converted, and what the rest of the contents adds to them.
pub record SoFar (R : Role → List ℕ → List ℕ → Type 0) (start context : Context) (whole rest old out : List ℕ) : Type 0 where
  pub done : List ℕ
  pub ders : List (List ℕ)
  pub split : whole ≡ done ++ rest
  pub out_is : out ≡ old ++ joined ders
  pub more : (c : List ℕ) (ds : List (List ℕ)) → Holds R context c ds → Holds R start (done ++ c) (ders ++ ds)
  -- what the whole holds up to an end begins with those
  pub back : (c x : List ℕ) (ds : List (List ℕ)) → get_or x 0 0 ≡ 0 → Holds R start c ds → whole ≡ c ++ x → LeftOver R context rest x

after_tag_cons : (t : ℕ) (r : List ℕ) → after_tag (t ∷ r) ≡ r
after_tag_cons t r = take_rest (t ∷ r) 1

module _ (bytes a y : List ℕ) (tag : ℕ) (contents : List ℕ) (e : bytes ≡ a ++ y) where
  after_tag_definite : (i : IsDefinite a tag contents) → (get_or bytes 0 0 ≡ tag) × (after_tag bytes ≡ i.length_octets ++ (contents ++ y))
  after_tag_definite i =
      let f : bytes ≡ tag ∷ (i.length_octets ++ (contents ++ y)) = e ∙ ap (λ w. w ++ y) i.is ∙ ap (λ w. tag ∷ w) (append_assoc i.length_octets contents y) in
      (ap (λ w. get_or w 0 0) f, ap after_tag f ∙ after_tag_cons tag (i.length_octets ++ (contents ++ y)))

  after_tag_indefinite : IsIndefinite a tag contents → (get_or bytes 0 0 ≡ tag) × (after_tag bytes ≡ 128 ∷ (contents ++ 0 ∷ 0 ∷ y))
  after_tag_indefinite i =
      let f : bytes ≡ tag ∷ 128 ∷ (contents ++ 0 ∷ 0 ∷ y) = e ∙ ap (λ w. w ++ y) i ∙ ap (λ w. tag ∷ 128 ∷ w) (append_assoc contents (0 ∷ 0 ∷ []) y) in
      (ap (λ w. get_or w 0 0) f, ap after_tag f ∙ after_tag_cons tag (128 ∷ (contents ++ 0 ∷ 0 ∷ y)))

pub body_fits : (b : List ℕ) (o : Option ℕ) (after : List ℕ) → BeginsWithLength b o after → IfSome o (λ n. n ≤ length after)
body_fits b None after h = tt
body_fits b (Some n) after h = h.fits

module _ (R : Role → List ℕ → List ℕ → Type 0) (start : Context) (after contents rest : List ℕ) (o : Option ℕ) (n : ℕ) (some : o ≡ Some n) (front : contents ≡ take n after) (back : rest ≡ drop n after) where
  pub contents_are_body : (old new : List ℕ) → ConvertedContents R start contents old new → ConvertedBody R start o after rest old new
  contents_are_body old new c = subst (λ p. ConvertedBody R start p after rest old new) (sym some) (back, subst (λ x. ConvertedContents R start x old new) front c)

  pub none_in_contents : HoldsNone R start contents → BodyNone R start o after
  none_in_contents none = subst (λ p. BodyNone R start p after) (sym some) (subst (HoldsNone R start) front none)

-- what contents add to the octets before them
pub contents_added : (R : Role → List ℕ → List ℕ → Type 0) (start : Context) (contents old new : List ℕ) → ConvertedContents R start contents old new → (take (length old) new ≡ old) × ConvertedContents R start contents [] (drop (length old) new)
contents_added R start contents old new c = (
  ap (take (length old)) c.out ∙ take-append_seam old (joined c.ders),
  record { ders = c.ders; holds = c.holds; out = ap (drop (length old)) c.out ∙ drop-append_seam old (joined c.ders) },
)

pub body_added : (R : Role → List ℕ → List ℕ → Type 0) (start : Context) (after rest : List ℕ) (o : Option ℕ) (old new : List ℕ) → ConvertedBody R start o after rest old new → (take (length old) new ≡ old) × ConvertedBody R start o after rest [] (drop (length old) new)
body_added R start after rest None old new c =
    let p = contents_added R start c.contents old new c.all in
    (p.0, record { contents = c.contents; all = p.1; split = c.split })
body_added R start after rest (Some n) old new c =
    let p = contents_added R start (take n after) old new c.1 in
    (p.0, (c.0, p.1))

pub to_end_is_body : (R : Role → List ℕ → List ℕ → Type 0) (start : Context) (after rest old new : List ℕ) (o : Option ℕ) → o ≡ None → ConvertedToEnd R start after rest old new → ConvertedBody R start o after rest old new
to_end_is_body R start after rest old new o none c = subst (λ p. ConvertedBody R start p after rest old new) (sym none) c

module _ (joins : Bool) where
  pub primitive_ber : (k : ℕ) (role : Role) (b d : List ℕ) → IsPrimitive joins role b d → IsBerWith joins k role b d
  unfolding IsBerWith
  primitive_ber zero role b d p = p
  primitive_ber (suc k) role b d p = inl p

  pub constructed_ber : (k : ℕ) (role : Role) (b d : List ℕ) → 0 < k → IsConstructed joins (IsBerWith joins (k - 1)) role b d → IsBerWith joins k role b d
  unfolding IsBerWith
  constructed_ber zero role b d l p = absurd (omega (arith, l))
  constructed_ber (suc k) role b d l p =
      let e : suc k - 1 ≡ k = omega arith in
      inr (subst (λ j. IsConstructed joins (IsBerWith joins j) role b d) e p)

  -- a header and contents at the front, of definite length
  module _ (bytes rest contents back : List ℕ) (o : Option ℕ) (n : ℕ) (some : 1 ≤ length bytes) (begins : BeginsWithLength (after_tag bytes) o rest) (is_some : o ≡ Some n) (front : contents ≡ take n rest) (end : back ≡ drop n rest) where
    h : BeginsDefinite (after_tag bytes) n rest
    h = subst (λ p. BeginsWithLength (after_tag bytes) p rest) is_some begins

    definite : IsDefinite (get_or bytes 0 0 ∷ (h).length_octets ++ contents) (get_or bytes 0 0) contents
    definite = record { length_octets = (h).length_octets; length_is = subst (IsLength (h).length_octets) (sym (front_long n rest contents front (h).fits)) (h).length_is; is = refl }

    definite_split : bytes ≡ (get_or bytes 0 0 ∷ (h).length_octets ++ contents) ++ back
    definite_split = uncons bytes some ∙ ap (λ x. get_or bytes 0 0 ∷ x) ((h).split ∙ ap (λ x. (h).length_octets ++ x) (split_is n rest contents back front end) ∙ sym (append_assoc (h).length_octets contents back))

    module _ (k : ℕ) (role : Role) (old new : List ℕ) (not_end : get_or bytes 0 0 ≡ 0 → ⊥) (low : get_or bytes 0 0 % 32 ≡ 31 → ⊥) where
      pub primitive_converted : get_or bytes 0 0 / 32 % 2 ≡ 0 → may_be_primitive (get_or bytes 0 0) n ≡ true → Allows joins role (get_or bytes 0 0) 4 → new ≡ old ++ der_of role (get_or bytes 0 0) contents → Converted (IsBerWith joins k role) bytes back old new
      primitive_converted f m a out = record {
        encoding = get_or bytes 0 0 ∷ (h).length_octets ++ contents;
        der = der_of role (get_or bytes 0 0) contents;
        is = primitive_ber k role (get_or bytes 0 0 ∷ (h).length_octets ++ contents) (der_of role (get_or bytes 0 0) contents) (record { tag = get_or bytes 0 0; contents = contents; is_tag = a_tag (get_or bytes 0 0) not_end low; form = f; primitive = ap (may_be_primitive (get_or bytes 0 0)) (front_long n rest contents front (h).fits) ∙ m; allowed = a; is = definite; der = refl });
        split = definite_split;
        out = out;
      }

      pub constructed_converted : (context : Context) (der : ℕ) (empty body : List ℕ) → (k ≡ 0 → ⊥) → (get_or bytes 0 0 / 32 % 2 ≡ 0 → ⊥) → may_be_constructed (get_or bytes 0 0) ≡ true → Allows joins role (get_or bytes 0 0) 36 → context ≡ context_inside role (get_or bytes 0 0) → der ≡ der_tag role (get_or bytes 0 0) → empty ≡ [] → ConvertedContents (IsBerWith joins (k - 1)) context contents empty body → new ≡ old ++ der_of role der body → Converted (IsBerWith joins k role) bytes back old new
      constructed_converted context der empty body p f m a is_context is_der none all out = record {
        encoding = get_or bytes 0 0 ∷ (h).length_octets ++ contents;
        der = der_of role der body;
        is = constructed_ber k role (get_or bytes 0 0 ∷ (h).length_octets ++ contents) (der_of role der body) (omega (arith, p)) (record {
          tag = get_or bytes 0 0;
          contents = contents;
          ders = all.ders;
          is_tag = a_tag (get_or bytes 0 0) not_end low;
          form = omega (arith, f);
          constructed = m;
          allowed = a;
          is = inl definite;
          holds = subst (λ q. Holds (IsBerWith joins (k - 1)) q contents all.ders) is_context all.holds;
          der = ap (λ t. der_of role t body) is_der ∙ ap (der_of role (der_tag role (get_or bytes 0 0))) (all.out ∙ ap (λ x. x ++ joined all.ders) none);
        });
        split = definite_split;
        out = out;
      }

  pub indefinite_converted : (bytes after rest : List ℕ) (o : Option ℕ) (k : ℕ) (role : Role) (old new : List ℕ) → 1 ≤ length bytes → BeginsWithLength (after_tag bytes) o after → o ≡ None → (get_or bytes 0 0 ≡ 0 → ⊥) → (get_or bytes 0 0 % 32 ≡ 31 → ⊥) → (context : Context) (der : ℕ) (empty body : List ℕ) → (k ≡ 0 → ⊥) → (get_or bytes 0 0 / 32 % 2 ≡ 0 → ⊥) → may_be_constructed (get_or bytes 0 0) ≡ true → Allows joins role (get_or bytes 0 0) 36 → context ≡ context_inside role (get_or bytes 0 0) → der ≡ der_tag role (get_or bytes 0 0) → empty ≡ [] → ConvertedToEnd (IsBerWith joins (k - 1)) context after rest empty body → new ≡ old ++ der_of role der body → Converted (IsBerWith joins k role) bytes rest old new
  indefinite_converted bytes after rest o k role old new some begins is_none not_end low context der empty body p f m a is_context is_der none c out =
      let tag : ℕ = get_or bytes 0 0 in
      let h : after_tag bytes ≡ 128 ∷ after = subst (λ p. BeginsWithLength (after_tag bytes) p after) is_none begins in
      record {
        encoding = tag ∷ 128 ∷ c.contents ++ 0 ∷ 0 ∷ [];
        der = der_of role der body;
        is = constructed_ber k role (tag ∷ 128 ∷ c.contents ++ 0 ∷ 0 ∷ []) (der_of role der body) (omega (arith, p)) (record {
          tag = tag;
          contents = c.contents;
          ders = c.all.ders;
          is_tag = a_tag tag not_end low;
          form = omega (arith, f);
          constructed = m;
          allowed = a;
          is = inr refl;
          holds = subst (λ q. Holds (IsBerWith joins (k - 1)) q c.contents c.all.ders) is_context c.all.holds;
          der = ap (λ t. der_of role t body) is_der ∙ ap (der_of role (der_tag role tag)) (c.all.out ∙ ap (λ x. x ++ joined c.all.ders) none);
        });
        split = uncons bytes some ∙ ap (λ x. tag ∷ x) h ∙ ap (λ x. tag ∷ 128 ∷ x) (c.split ∙ sym (append_assoc c.contents (0 ∷ 0 ∷ []) rest));
        out = out;
      }

  pub body_converted : (bytes after rest : List ℕ) (o : Option ℕ) (k : ℕ) (role : Role) (old new : List ℕ) → 1 ≤ length bytes → BeginsWithLength (after_tag bytes) o after → (get_or bytes 0 0 ≡ 0 → ⊥) → (get_or bytes 0 0 % 32 ≡ 31 → ⊥) → (context : Context) (der : ℕ) (empty body : List ℕ) → (k ≡ 0 → ⊥) → (get_or bytes 0 0 / 32 % 2 ≡ 0 → ⊥) → may_be_constructed (get_or bytes 0 0) ≡ true → Allows joins role (get_or bytes 0 0) 36 → context ≡ context_inside role (get_or bytes 0 0) → der ≡ der_tag role (get_or bytes 0 0) → empty ≡ [] → ConvertedBody (IsBerWith joins (k - 1)) context o after rest empty body → new ≡ old ++ der_of role der body → Converted (IsBerWith joins k role) bytes rest old new
  body_converted bytes after rest None k role old new some begins not_end low context der empty body p f m a is_context is_der none c out = indefinite_converted bytes after rest None k role old new some begins refl not_end low context der empty body p f m a is_context is_der none c out
  body_converted bytes after rest (Some n) k role old new some begins not_end low context der empty body p f m a is_context is_der none c out = constructed_converted bytes after (take n after) rest (Some n) n some begins refl refl c.0 k role old new not_end low context der empty body p f m a is_context is_der none c.1 out

  pub shortens : (k : ℕ) (role : Role) (bytes rest old new : List ℕ) → Converted (IsBerWith joins k role) bytes rest old new → length rest < length bytes
  shortens k role bytes rest old new c = omega (arith, ap length c.split, length-append c.encoding rest, ber_long joins k role c.encoding c.der c.is)

  pub none_yet : (R : Role → List ℕ → List ℕ → Type 0) (start : Context) (whole old : List ℕ) → SoFar R start start whole whole old old
  none_yet R start whole old = record {
    done = [];
    ders = [];
    split = refl;
    out_is = sym (append-nil old);
    more = λ c ds h. h;
    back = λ c x ds z h e. record { contents = c; ders = ds; holds = h; split = e };
  }

  left_over_more : (k : ℕ) (context : Context) (a d after x contents : List ℕ) (ders : List (List ℕ)) → IsBerWith joins k (role_in context a) a d → get_or x 0 0 ≡ 0 → Holds (IsBerWith joins k) context contents ders → a ++ after ≡ contents ++ x → LeftOver (IsBerWith joins k) (context_after context (get_or a 0 0)) after x
  left_over_more k context a d after x contents [] i z h e =
      let f : a ++ after ≡ x = e ∙ ap (λ w. w ++ x) h in
      let g : get_or a 0 0 ≡ 0 = sym (first_at_front a after (ber_long joins k (role_in context a) a d i)) ∙ ap (λ w. get_or w 0 0) f ∙ z in
      absurd (omega (arith, g, first_some joins (role_in context a) k a d i))
  left_over_more k context a d after x contents (e ∷ es) i z h s =
      let f = ber_fronts joins k context a h.0 d e after (h.1 ++ x) i h.3 (s ∙ ap (λ w. w ++ x) h.2 ∙ append_assoc h.0 h.1 x) in
      record {
        contents = h.1;
        ders = es;
        holds = subst (λ w. Holds (IsBerWith joins k) (context_after context (get_or w 0 0)) h.1 es) (sym f.0) h.4;
        split = f.2;
      }

  -- no encoding begins what is left, which is not the end either
  pub refused_here : (k : ℕ) (context : Context) (rest x contents : List ℕ) (ders : List (List ℕ)) → BeginsNone (IsBerWith joins k (role_in context rest)) rest → (rest ≡ x → ⊥) → Holds (IsBerWith joins k) context contents ders → rest ≡ contents ++ x → ⊥
  refused_here k context rest x contents [] none end h s = end (s ∙ ap (λ w. w ++ x) h)
  refused_here k context rest x contents (e ∷ es) none end h s =
      let f : rest ≡ h.0 ++ (h.1 ++ x) = s ∙ ap (λ w. w ++ x) h.2 ∙ append_assoc h.0 h.1 x in
      let r : role_in context h.0 ≡ role_in context rest = sym (ap (role_in context) f ∙ role_in_front context h.0 (h.1 ++ x) (ber_long joins k (role_in context h.0) h.0 e h.3)) in
      none h.0 e (h.1 ++ x) (subst (λ role. IsBerWith joins k role h.0 e) r h.3) f

  module _ (k : ℕ) (start context : Context) (whole rest old out : List ℕ) (s : SoFar (IsBerWith joins k) start context whole rest old out) where
    pub refused_all : BeginsNone (IsBerWith joins k (role_in context rest)) rest → 1 ≤ length rest → HoldsNone (IsBerWith joins k) start whole
    refused_all none l ders h =
        let b = s.back whole [] ders refl h (sym (append-nil whole)) in
        refused_here k context rest [] b.contents b.ders none (λ e. omega (arith, l, ap length e)) b.holds b.split

    pub refused_to_end : BeginsNone (IsBerWith joins k (role_in context rest)) rest → ((get_or rest 0 0 ≡ 0) × (get_or rest 1 0 ≡ 0) → ⊥) → EndsNone (IsBerWith joins k) start whole
    refused_to_end none more contents after ders h e =
        let b = s.back contents (0 ∷ 0 ∷ after) ders refl h e in
        refused_here k context rest (0 ∷ 0 ∷ after) b.contents b.ders none (λ f. more (ap (λ w. get_or w 0 0) f, ap (λ w. get_or w 1 0) f)) b.holds b.split

    pub no_end : length rest < 2 → EndsNone (IsBerWith joins k) start whole
    no_end l contents after ders h e =
        let b = s.back contents (0 ∷ 0 ∷ after) ders refl h e in
        omega (arith, l, ap length b.split, length-append b.contents (0 ∷ 0 ∷ after))

    -- one more encoding was converted
    pub one_more : (after new : List ℕ) (tag : ℕ) → tag ≡ get_or rest 0 0 → Converted (IsBerWith joins k (role_in context rest)) rest after out new → SoFar (IsBerWith joins k) start (context_after context tag) whole after old new
    one_more after new tag t c =
        let R : Role → List ℕ → List ℕ → Type 0 = IsBerWith joins k in
        let l = ber_long joins k (role_in context rest) c.encoding c.der c.is in
        let r : role_in context rest ≡ role_in context c.encoding = ap (role_in context) c.split ∙ role_in_front context c.encoding after l in
        let g : tag ≡ get_or c.encoding 0 0 = t ∙ ap (λ b. get_or b 0 0) c.split ∙ first_at_front c.encoding after l in
        let here : IsBerWith joins k (role_in context c.encoding) c.encoding c.der = subst (λ role. IsBerWith joins k role c.encoding c.der) r c.is in
        record {
          done = s.done ++ c.encoding;
          ders = s.ders ++ c.der ∷ [];
          split = s.split ∙ ap (λ x. s.done ++ x) c.split ∙ sym (append_assoc s.done c.encoding after);
          out_is = c.out ∙ ap (λ x. x ++ c.der) s.out_is ∙ flat_map_more (λ d. d) old s.ders c.der;
          more = λ b ds h.
              let there : Holds (IsBerWith joins k) (context_after context (get_or c.encoding 0 0)) b ds = subst (λ u. Holds (IsBerWith joins k) (context_after context u) b ds) g h in
              let all = s.more (c.encoding ++ b) (c.der ∷ ds) (c.encoding, b, refl, here, there) in
              subst (λ x. Holds (IsBerWith joins k) start x ((s.ders ++ c.der ∷ []) ++ ds)) (sym (append_assoc s.done c.encoding b)) (subst (λ x. Holds (IsBerWith joins k) start (s.done ++ (c.encoding ++ b)) x) (sym (append_assoc s.ders (c.der ∷ []) ds)) all);
          back = λ b x ds z h e.
              let w = s.back b x ds z h e in
              subst (λ u. LeftOver (IsBerWith joins k) (context_after context u) after x) (sym g) (left_over_more k context c.encoding c.der after x w.contents w.ders here z w.holds (sym c.split ∙ w.split));
        }

    so_far_holds : Holds (IsBerWith joins k) start s.done s.ders
    so_far_holds = subst (λ x. Holds (IsBerWith joins k) start x s.ders) (append-nil s.done) (subst (λ x. Holds (IsBerWith joins k) start (s.done ++ []) x) (append-nil s.ders) (s.more [] [] refl))

    pub all_converted : rest ≡ [] → ConvertedContents (IsBerWith joins k) start whole old out
    all_converted e = record {
      ders = s.ders;
      holds = subst (λ x. Holds (IsBerWith joins k) start x s.ders) (sym (s.split ∙ ap (λ x. s.done ++ x) e ∙ append-nil s.done)) so_far_holds;
      out = s.out_is;
    }

    pub converted_to_end : (after : List ℕ) → rest ≡ 0 ∷ 0 ∷ after → ConvertedToEnd (IsBerWith joins k) start whole after old out
    converted_to_end after e = record {
      contents = s.done;
      all = record { ders = s.ders; holds = so_far_holds; out = s.out_is };
      split = s.split ∙ ap (λ x. s.done ++ x) e;
    }

  ber_shape : (k : ℕ) (role : Role) (a d : List ℕ) → IsBerWith joins k role a d → IsPrimitive joins role a d ⊎ ((k ≡ 0 → ⊥) × IsConstructed joins (IsBerWith joins (k - 1)) role a d)
  unfolding IsBerWith
  ber_shape zero role a d p = inl p
  ber_shape (suc k) role a d p =
      let e : k ≡ suc k - 1 = omega arith in
      ⊎_elim (λ (h : IsPrimitive joins role a d). inl h) (λ (h : IsConstructed joins (IsBerWith joins k) role a d). inr (λ z. omega (arith, z), subst (λ j. IsConstructed joins (IsBerWith joins j) role a d) e h)) p

  module _ (k : ℕ) (role : Role) (bytes : List ℕ) where
    from_shape : ((a d y : List ℕ) → IsPrimitive joins role a d → bytes ≡ a ++ y → ⊥) → ((a d y : List ℕ) → (k ≡ 0 → ⊥) → IsConstructed joins (IsBerWith joins (k - 1)) role a d → bytes ≡ a ++ y → ⊥) → BeginsNone (IsBerWith joins k role) bytes
    from_shape f g a d y i e = ⊎_elim (λ (p : IsPrimitive joins role a d). f a d y p e) (λ (q : (k ≡ 0 → ⊥) × IsConstructed joins (IsBerWith joins (k - 1)) role a d). g a d y q.0 q.1 e) (ber_shape k role a d i)

    pub none_empty : length bytes < 1 → BeginsNone (IsBerWith joins k role) bytes
    none_empty l a d y i e = omega (arith, l, ap length e, length-append a y, ber_long joins k role a d i)

    constructed_tag : (a d y : List ℕ) → (q : IsConstructed joins (IsBerWith joins (k - 1)) role a d) → bytes ≡ a ++ y → get_or bytes 0 0 ≡ q.tag
    constructed_tag a d y q e = ⊎_elim (λ (i : IsDefinite a q.tag q.contents). (after_tag_definite bytes a y q.tag q.contents e i).0) (λ (i : IsIndefinite a q.tag q.contents). (after_tag_indefinite bytes a y q.tag q.contents e i).0) q.is

    primitive_tag : (a d y : List ℕ) → (p : IsPrimitive joins role a d) → bytes ≡ a ++ y → get_or bytes 0 0 ≡ p.tag
    primitive_tag a d y p e = (after_tag_definite bytes a y p.tag p.contents e p.is).0

    pub none_tag : (get_or bytes 0 0 ≡ 0) ⊎ (get_or bytes 0 0 % 32 ≡ 31) → BeginsNone (IsBerWith joins k role) bytes
    none_tag w =
        let bad : (t : ℕ) → get_or bytes 0 0 ≡ t → IsTag t → ⊥ = λ t e i. ⊎_elim (λ (z : get_or bytes 0 0 ≡ 0). omega (arith, z, e, i.1)) (λ (z : get_or bytes 0 0 % 32 ≡ 31). let f : t % 32 ≡ 31 = ap (λ u. u % 32) (sym e) ∙ z in omega (arith, f, i.0)) w in
        from_shape (λ a d y p e. bad p.tag (primitive_tag a d y p e) p.is_tag) (λ a d y n q e. bad q.tag (constructed_tag a d y q e) q.is_tag)

    pub none_length : HasNoLength (after_tag bytes) → BeginsNone (IsBerWith joins k role) bytes
    none_length n =
        let definite : (a y : List ℕ) (t : ℕ) (c : List ℕ) → bytes ≡ a ++ y → IsDefinite a t c → ⊥ = λ a y t c e i. n.definite i.length_octets (c ++ y) (length c) i.length_is (after_tag_definite bytes a y t c e i).1 (omega (arith, length-append c y)) in
        from_shape (λ a d y p e. definite a y p.tag p.contents e p.is)
        (λ a d y m q e. ⊎_elim (λ (i : IsDefinite a q.tag q.contents). definite a y q.tag q.contents e i) (λ (i : IsIndefinite a q.tag q.contents). n.indefinite (q.contents ++ 0 ∷ 0 ∷ y) (after_tag_indefinite bytes a y q.tag q.contents e i).1) q.is)

    form_differs : (a d y : List ℕ) → get_or bytes 0 0 / 32 % 2 ≡ 0 → IsConstructed joins (IsBerWith joins (k - 1)) role a d → bytes ≡ a ++ y → ⊥
    form_differs a d y f q e = let g : q.tag / 32 % 2 ≡ 0 = ap (λ u. u / 32 % 2) (sym (constructed_tag a d y q e)) ∙ f in omega (arith, g, q.form)

    form_same : (a d y : List ℕ) → (get_or bytes 0 0 / 32 % 2 ≡ 0 → ⊥) → IsPrimitive joins role a d → bytes ≡ a ++ y → ⊥
    form_same a d y f p e = f (ap (λ u. u / 32 % 2) (primitive_tag a d y p e) ∙ p.form)

    pub none_primitive_indefinite : (o : Option ℕ) (after : List ℕ) → get_or bytes 0 0 / 32 % 2 ≡ 0 → BeginsWithLength (after_tag bytes) o after → o ≡ None → BeginsNone (IsBerWith joins k role) bytes
    none_primitive_indefinite o after f b n =
        let h : after_tag bytes ≡ 128 ∷ after = subst (λ p. BeginsWithLength (after_tag bytes) p after) n b in
        from_shape (λ a d y p e. not_indefinite p.is.length_octets (length p.contents) (p.contents ++ y) after p.is.length_is (sym (after_tag_definite bytes a y p.tag p.contents e p.is).1 ∙ h)) (λ a d y m q e. form_differs a d y f q e)

    pub none_primitive_role : get_or bytes 0 0 / 32 % 2 ≡ 0 → (Allows joins role (get_or bytes 0 0) 4 → ⊥) → BeginsNone (IsBerWith joins k role) bytes
    none_primitive_role f n = from_shape (λ a d y p e. n (subst (λ t. Allows joins role t 4) (sym (primitive_tag a d y p e)) p.allowed)) (λ a d y m q e. form_differs a d y f q e)

    -- nor where a primitive encoding has that tag and length
    pub none_not_primitive : (rest : List ℕ) (o : Option ℕ) (n : ℕ) → get_or bytes 0 0 / 32 % 2 ≡ 0 → BeginsWithLength (after_tag bytes) o rest → o ≡ Some n → (may_be_primitive (get_or bytes 0 0) n ≡ true → ⊥) → BeginsNone (IsBerWith joins k role) bytes
    none_not_primitive rest o n f b is_some not_primitive =
        let h : BeginsDefinite (after_tag bytes) n rest = subst (λ p. BeginsWithLength (after_tag bytes) p rest) is_some b in
        from_shape
        (λ a d y p e.
        let u = after_tag_definite bytes a y p.tag p.contents e p.is in
        let r = length_cut h.length_octets p.is.length_octets n (length p.contents) rest (p.contents ++ y) h.length_is p.is.length_is (sym h.split ∙ u.1) in
        not_primitive (ap (λ t. may_be_primitive t n) u.0 ∙ ap (may_be_primitive p.tag) r.1 ∙ p.primitive))
        (λ a d y m q e. form_differs a d y f q e)

    pub none_deep : k ≡ 0 → (get_or bytes 0 0 / 32 % 2 ≡ 0 → ⊥) → BeginsNone (IsBerWith joins k role) bytes
    none_deep z f = from_shape (λ a d y p e. form_same a d y f p e) (λ a d y m q e. m z)

    pub none_holder : (get_or bytes 0 0 / 32 % 2 ≡ 0 → ⊥) → (may_be_constructed (get_or bytes 0 0) ≡ true → ⊥) → BeginsNone (IsBerWith joins k role) bytes
    none_holder f n = from_shape (λ a d y p e. form_same a d y f p e) (λ a d y m q e. n (ap may_be_constructed (constructed_tag a d y q e) ∙ q.constructed))

    pub none_constructed_role : (get_or bytes 0 0 / 32 % 2 ≡ 0 → ⊥) → (Allows joins role (get_or bytes 0 0) 36 → ⊥) → BeginsNone (IsBerWith joins k role) bytes
    none_constructed_role f n = from_shape (λ a d y p e. form_same a d y f p e) (λ a d y m q e. n (subst (λ t. Allows joins role t 36) (sym (constructed_tag a d y q e)) q.allowed))

    pub none_definite : (rest contents : List ℕ) (o : Option ℕ) (n : ℕ) (context : Context) → (get_or bytes 0 0 / 32 % 2 ≡ 0 → ⊥) → BeginsWithLength (after_tag bytes) o rest → o ≡ Some n → contents ≡ take n rest → context ≡ context_inside role (get_or bytes 0 0) → HoldsNone (IsBerWith joins (k - 1)) context contents → BeginsNone (IsBerWith joins k role) bytes
    none_definite rest contents o n context f b is_some is_contents is_context none =
        let h : BeginsDefinite (after_tag bytes) n rest = subst (λ p. BeginsWithLength (after_tag bytes) p rest) is_some b in
        from_shape (λ a d y p e. form_same a d y f p e)
        (λ a d y m q e. ⊎_elim
        (λ (i : IsDefinite a q.tag q.contents).
        let u = after_tag_definite bytes a y q.tag q.contents e i in
        let r = length_cut h.length_octets i.length_octets n (length q.contents) rest (q.contents ++ y) h.length_is i.length_is (sym h.split ∙ u.1) in
        let same : contents ≡ q.contents = is_contents ∙ ap (λ j. take j rest) r.1 ∙ ap (take (length q.contents)) r.2 ∙ take-append_seam q.contents y in
        none q.ders (subst (λ c. Holds (IsBerWith joins (k - 1)) context c q.ders) (sym same) (subst (λ p. Holds (IsBerWith joins (k - 1)) p q.contents q.ders) (sym (is_context ∙ ap (context_inside role) u.0)) q.holds)))
        (λ (i : IsIndefinite a q.tag q.contents). not_indefinite h.length_octets n rest (q.contents ++ 0 ∷ 0 ∷ y) h.length_is (sym h.split ∙ (after_tag_indefinite bytes a y q.tag q.contents e i).1)) q.is)

    pub none_to_end : (after : List ℕ) (o : Option ℕ) (context : Context) → (get_or bytes 0 0 / 32 % 2 ≡ 0 → ⊥) → BeginsWithLength (after_tag bytes) o after → o ≡ None → context ≡ context_inside role (get_or bytes 0 0) → EndsNone (IsBerWith joins (k - 1)) context after → BeginsNone (IsBerWith joins k role) bytes
    none_to_end after o context f b is_none is_context none =
        let h : after_tag bytes ≡ 128 ∷ after = subst (λ p. BeginsWithLength (after_tag bytes) p after) is_none b in
        from_shape (λ a d y p e. form_same a d y f p e)
        (λ a d y m q e. ⊎_elim
        (λ (i : IsDefinite a q.tag q.contents). not_indefinite i.length_octets (length q.contents) (q.contents ++ y) after i.length_is (sym (after_tag_definite bytes a y q.tag q.contents e i).1 ∙ h))
        (λ (i : IsIndefinite a q.tag q.contents).
        let u = after_tag_indefinite bytes a y q.tag q.contents e i in
        let v : 128 ∷ after ≡ 128 ∷ (q.contents ++ 0 ∷ 0 ∷ y) = sym h ∙ u.1 in
        let w : after ≡ q.contents ++ 0 ∷ 0 ∷ y = cc in
        none q.contents y q.ders (subst (λ p. Holds (IsBerWith joins (k - 1)) p q.contents q.ders) (sym (is_context ∙ ap (context_inside role) u.0)) q.holds) w) q.is)

    pub none_body : (after : List ℕ) (o : Option ℕ) (context : Context) → (get_or bytes 0 0 / 32 % 2 ≡ 0 → ⊥) → BeginsWithLength (after_tag bytes) o after → context ≡ context_inside role (get_or bytes 0 0) → BodyNone (IsBerWith joins (k - 1)) context o after → BeginsNone (IsBerWith joins k role) bytes
    none_body after None context f b is_context none = none_to_end after None context f b refl is_context none
    none_body after (Some n) context f b is_context none = none_definite after (take n after) (Some n) n context f b refl refl is_context none

  -- no DER where bytes are left after the encoding
  pub none_longer : (k : ℕ) (role : Role) (bytes rest old new : List ℕ) → Converted (IsBerWith joins k role) bytes rest old new → 1 ≤ length rest → (der : List ℕ) → IsBerWith joins k role bytes der → ⊥
  none_longer k role bytes rest old new c l der i =
      let r = ber_cut joins k role bytes c.encoding der c.der [] rest i c.is (append-nil bytes ∙ c.split) in
      omega (arith, l, ap length r.2)

  pub whole_none : (k : ℕ) (role : Role) (bytes : List ℕ) → BeginsNone (IsBerWith joins k role) bytes → (der : List ℕ) → IsBerWith joins k role bytes der → ⊥
  whole_none k role bytes none der i = none bytes der [] i (sym (append-nil bytes))
