-- What is converted is DER, and DER is converted to itself.
use Rattle.std.proofs.Common.{◌≡◌, ℕ, Bool, nat_eq, true, false, ◌&&◌, if◌then◌else◌, zero, suc, ◌+◌, ◌^◌, ◌<◌, ◌≤◌, List, [], ◌∷◌, ◌++◌, length, get_or, refl, sym, ap, subst, ◌∙◌, inl, inr, ◌⊎◌, ⊎_elim, arith, length-append}
use Rattle.std.specs.List.{AllByRecursion}
use Rattle.std.proofs.lemmas.Bool.{cases_lt, cases_eq, ne_eqb}
use Rattle.std.proofs.Math.Bool.{and-false}
use Rattle.std.proofs.lemmas.Int.Digits.{number_digits_of, length-digits_of-le, length-digits_of_step}
use Rattle.asn1_core_element.specs.Element.{head, element, length_octets}
use Rattle.asn1_core_element.specs.laws.ElementLaws.{octets_short, octets_long, element_long}
use Rattle.ber_der.specs.Contexts.{role_in, context_after, context_inside, der_tag}
use Rattle.ber_der.specs.Ber.{IsTag, IsLong, IsLength, IsDefinite, IsPrimitive, IsConstructed, IsBerWith, Holds, joined}
use Rattle.ber_der.specs.Der.{IsDerPrimitive, IsDerConstructed, IsDer}
use Rattle.ber_der.specs.declared.contexts.Role.{Role}
use Rattle.ber_der.specs.declared.contexts.Role.TheVariants.{Whole, Segment, Implicit}
use Rattle.ber_der.specs.declared.contexts.Context.{Context}
use Rattle.ber_der.specs.declared.contexts.Context.TheVariants.{First, AfterType, AfterAlgorithm, Other, InString}

-- the fewest octets are a length in the definite form
pub fewest : (n : ℕ) → n < 2 ^ 64 → IsLength (length_octets n) n
fewest n h =
    ⊎_elim
    (λ (l : n < 128). subst (λ o. IsLength o n) (sym (octets_short n l)) (inl (l, refl, refl)))
    (λ (l : 128 ≤ n).
    let u : 2 ^ 64 ≡ 256 ^ 8 = refl in
    subst (λ o. IsLength o n) (sym (octets_long n l)) (inr (record {
      count = refl;
      some = omega (arith, length-digits_of_step 256 n (omega arith) (omega arith));
      few = length-digits_of-le 256 8 n (omega arith) (omega (arith, h, u));
      number = sym (number_digits_of 256 n (omega arith));
    })))
    (cases_lt n 128)

-- no length octets are those of an indefinite length
first_octet : (ls : List ℕ) (n : ℕ) (x : List ℕ) → IsLength ls n → get_or (ls ++ x) 0 0 ≡ 128 → ⊥
first_octet [] n x l e = l
first_octet (f ∷ ls) n x l e = ⊎_elim (λ (u : (f < 128) × (ls ≡ []) × (n ≡ f)). omega (arith, u.0, e)) (λ (u : IsLong f ls n). omega (arith, u.count, u.some, e)) l

second_octet : (tag : ℕ) (c : List ℕ) → length c < 2 ^ 64 → get_or (element tag c) 1 0 ≡ 128 → ⊥
unfolding head
second_octet tag c h e = first_octet (length_octets (length c)) (length c) c (fewest (length c) h) e

-- so what DER has is whole, wherever it is not in an OCTET STRING
in_der : (context : Context) (tag : ℕ) (c : List ℕ) → length c < 2 ^ 64 → (context ≡ InString → ⊥) → role_in context (element tag c) ≡ Whole
in_der First tag c l n = refl
in_der AfterType tag c l n = refl
in_der Other tag c l n = refl
in_der InString tag c l n = absurd (n refl)
in_der AfterAlgorithm tag c l n =
    let f : nat_eq (get_or (element tag c) 1 0) 128 ≡ false = ne_eqb (get_or (element tag c) 1 0) 128 (second_octet tag c l) in
    ap (λ b. if nat_eq (get_or (element tag c) 0 0) 160 && b then Implicit else Whole) f ∙ ap (λ b. if b then Implicit else Whole) (and-false (nat_eq (get_or (element tag c) 0 0) 160))

stays : (context : Context) (tag : ℕ) → (context ≡ InString → ⊥) → context_after context tag ≡ InString → ⊥
stays InString tag n = absurd (n refl)
stays First tag n = elim (nat_eq tag 6) as (λ b. (if b then AfterType else Other) ≡ InString → ⊥) [ true ↦ (λ e. cc) | false ↦ (λ e. cc) ]
stays AfterType tag n = elim (nat_eq tag 48) as (λ b. (if b then AfterAlgorithm else Other) ≡ InString → ⊥) [ true ↦ (λ e. cc) | false ↦ (λ e. cc) ]
stays AfterAlgorithm tag n = λ e. cc
stays Other tag n = λ e. cc

-- a segment is not the DER of a value
not_segment : (context : Context) (b : List ℕ) → (context ≡ InString → ⊥) → role_in context b ≡ Segment → ⊥
not_segment InString b n = absurd (n refl)
not_segment First b n = λ e. cc
not_segment AfterType b n = λ e. cc
not_segment Other b n = λ e. cc
not_segment AfterAlgorithm b n = elim (nat_eq (get_or b 0 0) 160 && nat_eq (get_or b 1 0) 128) as (λ t. (if t then Implicit else Whole) ≡ Segment → ⊥) [ true ↦ (λ e. cc) | false ↦ (λ e. cc) ]

-- only in an OCTET STRING are segments
inside : (tag : ℕ) → (tag ≡ 36 → ⊥) → context_inside Whole tag ≡ InString → ⊥
inside tag n =
    let f : nat_eq tag 36 ≡ false = ne_eqb tag 36 n in
    elim (nat_eq tag 48) as (λ b. (if b then First else (if nat_eq tag 36 then InString else Other)) ≡ InString → ⊥) [
      | true ↦ (λ e. cc)
      | false ↦ (λ e. let g : (if false then InString else Other) ≡ InString = ap (λ b. if b then InString else Other) (sym f) ∙ e in cc)
    ]

other_tag : (tag : ℕ) → (tag ≡ 36 → ⊥) → der_tag Whole tag ≡ tag
other_tag tag n = ap (λ b. if b then 4 else tag) (ne_eqb tag 36 n)

-- DER, converted
definite_element : (tag : ℕ) (c : List ℕ) → length c < 2 ^ 64 → IsDefinite (element tag c) tag c
unfolding head
definite_element tag c l = record { length_octets = length_octets (length c); length_is = fewest (length c) l; is = refl }

element_longer : (tag : ℕ) (c : List ℕ) (n : ℕ) → length (element tag c) < n → length c < n
element_longer tag c n l = omega (arith, l, element_long tag c)

pub some_element : (k : ℕ) (b : List ℕ) → IsDer k b → (tag : ℕ) × (c : List ℕ) × (b ≡ element tag c) × IsTag tag
unfolding IsDer
some_element zero b p = (p.tag, p.contents, p.is, p.is_tag)
some_element (suc k) b p = ⊎_elim (λ (h : IsDerPrimitive b). (h.tag, h.contents, h.is, h.is_tag)) (λ (h : IsDerConstructed (IsDer k) b). (h.tag, h.contents, h.is, h.is_tag)) p

module _ (joins : Bool) where
  der_of_primitive : (role : Role) (b d : List ℕ) → (role ≡ Segment → ⊥) → IsPrimitive joins role b d → IsDerPrimitive d
  der_of_primitive Segment b d n p = absurd (n refl)
  der_of_primitive Whole b d n p = record { tag = p.tag; contents = p.contents; is_tag = p.is_tag; form = p.form; primitive = p.primitive; is = p.der }
  der_of_primitive Implicit b d n p = record { tag = p.tag; contents = p.contents; is_tag = p.is_tag; form = p.form; primitive = p.primitive; is = p.der }

  module _ (k : ℕ) (each : (role : Role) (b d : List ℕ) → (role ≡ Segment → ⊥) → IsBerWith joins k role b d → IsDer k d) where
    all_der : (context : Context) (c : List ℕ) (ds : List (List ℕ)) → (context ≡ InString → ⊥) → Holds (IsBerWith joins k) context c ds → AllByRecursion (IsDer k) ds
    all_der context c [] n h = tt
    all_der context c (d ∷ ds) n h = (each (role_in context h.0) h.0 d (not_segment context h.0 n) h.3, all_der (context_after context (get_or h.0 0 0)) h.1 ds (stays context (get_or h.0 0 0) n) h.4)

    der_of_constructed : (role : Role) (b d : List ℕ) → (role ≡ Segment → ⊥) → IsConstructed joins (IsBerWith joins k) role b d → IsDerPrimitive d ⊎ IsDerConstructed (IsDer k) d
    der_of_constructed Segment b d n q = absurd (n refl)
    der_of_constructed Implicit b d n q = inl (record { tag = 128; contents = joined q.ders; is_tag = (omega arith, omega arith); form = refl; primitive = refl; is = q.der })
    der_of_constructed Whole b d n q =
        ⊎_elim
        (λ (s : q.tag ≡ 36). inl (record { tag = 4; contents = joined q.ders; is_tag = (omega arith, omega arith); form = refl; primitive = refl; is = q.der ∙ ap (λ t. element (der_tag Whole t) (joined q.ders)) s }))
        (λ (s : q.tag ≡ 36 → ⊥). inr (record {
          tag = q.tag;
          contents = joined q.ders;
          is_tag = q.is_tag;
          form = q.form;
          constructed = q.constructed;
          no_string = s;
          holds = record { parts = q.ders; each = all_der (context_inside Whole q.tag) q.contents q.ders (inside q.tag s) q.holds; is = refl };
          is = q.der ∙ ap (λ t. element t (joined q.ders)) (other_tag q.tag s);
        }))
        (cases_eq q.tag 36)

  -- what is converted is DER
  pub converted_is_der : (k : ℕ) (role : Role) (b d : List ℕ) → (role ≡ Segment → ⊥) → IsBerWith joins k role b d → IsDer k d
  unfolding IsBerWith IsDer
  converted_is_der zero role b d n p = der_of_primitive role b d n p
  converted_is_der (suc k) role b d n p = ⊎_elim (λ (h : IsPrimitive joins role b d). inl (der_of_primitive role b d n h)) (λ (h : IsConstructed joins (IsBerWith joins k) role b d). der_of_constructed k (converted_is_der k) role b d n h) p

  primitive_fixed : (b : List ℕ) → length b < 2 ^ 64 → IsDerPrimitive b → IsPrimitive joins Whole b b
  primitive_fixed b l p =
      let m : length p.contents < 2 ^ 64 = element_longer p.tag p.contents (2 ^ 64) (omega (arith, l, ap length p.is)) in
      record { tag = p.tag; contents = p.contents; is_tag = p.is_tag; form = p.form; primitive = p.primitive; allowed = tt; is = subst (λ x. IsDefinite x p.tag p.contents) (sym p.is) (definite_element p.tag p.contents m); der = p.is }

  module _ (k : ℕ) (each : (b : List ℕ) → length b < 2 ^ 64 → IsDer k b → IsBerWith joins k Whole b b) where
    all_fixed : (context : Context) (ds : List (List ℕ)) → length (joined ds) < 2 ^ 64 → (context ≡ InString → ⊥) → AllByRecursion (IsDer k) ds → Holds (IsBerWith joins k) context (joined ds) ds
    all_fixed context [] l n h = refl
    all_fixed context (d ∷ ds) l n h =
        let m : length d + length (joined ds) < 2 ^ 64 = omega (arith, l, length-append d (joined ds)) in
        let e = some_element k d h.0 in
        let w : role_in context d ≡ Whole = ap (role_in context) e.2 ∙ in_der context e.0 e.1 (element_longer e.0 e.1 (2 ^ 64) (omega (arith, m, ap length e.2))) n in
        (d, joined ds, refl, subst (λ role. IsBerWith joins k role d d) (sym w) (each d (omega (arith, m)) h.0), all_fixed (context_after context (get_or d 0 0)) ds (omega (arith, m)) (stays context (get_or d 0 0) n) h.1)

    constructed_fixed : (b : List ℕ) → length b < 2 ^ 64 → IsDerConstructed (IsDer k) b → IsConstructed joins (IsBerWith joins k) Whole b b
    constructed_fixed b l q =
        let parts : List (List ℕ) = q.holds.parts in
        let e : b ≡ element q.tag (joined parts) = q.is ∙ ap (element q.tag) q.holds.is in
        let m : length (joined parts) < 2 ^ 64 = element_longer q.tag (joined parts) (2 ^ 64) (omega (arith, l, ap length e)) in
        record {
          tag = q.tag;
          contents = joined parts;
          ders = parts;
          is_tag = q.is_tag;
          form = q.form;
          constructed = q.constructed;
          allowed = tt;
          is = inl (subst (λ x. IsDefinite x q.tag (joined parts)) (sym e) (definite_element q.tag (joined parts) m));
          holds = all_fixed (context_inside Whole q.tag) parts m (inside q.tag q.no_string) q.holds.each;
          der = e ∙ ap (λ t. element t (joined parts)) (sym (other_tag q.tag q.no_string));
        }

  -- DER is converted to itself
  pub der_is_fixed : (k : ℕ) (b : List ℕ) → length b < 2 ^ 64 → IsDer k b → IsBerWith joins k Whole b b
  unfolding IsBerWith IsDer
  der_is_fixed zero b l p = primitive_fixed b l p
  der_is_fixed (suc k) b l p = ⊎_elim (λ (h : IsDerPrimitive b). inl (primitive_fixed b l h)) (λ (h : IsDerConstructed (IsDer k) b). inr (constructed_fixed k (der_is_fixed k) b l h)) p

  primitive_string : (b o : List ℕ) → IsPrimitive joins Segment b o → IsPrimitive joins Whole b (element 4 o)
  primitive_string b o p = record {
    tag = p.tag;
    contents = p.contents;
    is_tag = p.is_tag;
    form = p.form;
    primitive = p.primitive;
    allowed = tt;
    is = p.is;
    der = ap (element 4) p.der ∙ ap (λ t. element t p.contents) (sym p.allowed);
  }

  constructed_string : {R : Role → List ℕ → List ℕ → Type 0} (b o : List ℕ) → IsConstructed joins R Segment b o → IsConstructed joins R Whole b (element 4 o)
  constructed_string {R} b o q =
      let holds : Holds R (context_inside Whole 36) q.contents q.ders = q.holds in
      record {
        tag = q.tag;
        contents = q.contents;
        ders = q.ders;
        is_tag = q.is_tag;
        form = q.form;
        constructed = q.constructed;
        allowed = tt;
        is = q.is;
        holds = subst (λ t. Holds R (context_inside Whole t) q.contents q.ders) (sym q.allowed) holds;
        der = ap (element 4) q.der ∙ ap (λ t. element (der_tag Whole t) (joined q.ders)) (sym q.allowed);
      }

  -- an OCTET STRING becomes one with the octets of its segments
  pub string_whole : (k : ℕ) (b o : List ℕ) → IsBerWith joins k Segment b o → IsBerWith joins k Whole b (element 4 o)
  unfolding IsBerWith
  string_whole zero b o p = primitive_string b o p
  string_whole (suc k) b o p = ⊎_elim (λ (h : IsPrimitive joins Segment b o). inl (primitive_string b o h)) (λ (h : IsConstructed joins (IsBerWith joins k) Segment b o). inr (constructed_string b o h)) p
