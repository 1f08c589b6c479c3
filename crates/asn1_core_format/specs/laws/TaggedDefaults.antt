-- Values that are left out, under a context tag: the encoding that absence means is the same under that tag.
use Rattle.std.specs.Prelude.{◌≡◌, ℕ, ◌+◌, ◌%◌, ◌<◌, ◌≤◌, leb, ltb, ◌&&◌, Bool, true, false, List}
use Rattle.std.specs.Str.{bytes_eq}
use Rattle.std.proofs.Common.{refl, sym, ap, ◌∙◌, subst, arith}
use Rattle.std.proofs.lemmas.Bool.{and_parts, leb-true, le-leb}
use Rattle.std.proofs.lemmas.Slice.Eq.{bytes_eq-Decides}
use Rattle.asn1_core_element.specs.Element.{element, retag}
use Rattle.asn1_core_element.specs.laws.ElementLaws.{element_same, retag_element}
use Rattle.asn1_core_element.specs.declared.error.Error.{Error}
use Rattle.asn1_core_element.specs.declared.error.Error.TheVariants.{Invalid}
use Rattle.asn1_core_format.specs.Format.{Format}
use Rattle.asn1_core_format.specs.Components.{within}
use Rattle.asn1_core_format.specs.Omitted.{is_default_with, IsDefault, HasNoDefault}
use Rattle.asn1_core_format.specs.Tagged.{IsTagged, implicit, context_tag}
use Rattle.asn1_core_format.specs.TagNumbers.{numbered, only, explicit_tag, explicit_context, implicit_context}
use Rattle.asn1_core_format.specs.laws.TagNumbers.{low, high, not_high}

same_bool : (a b : Bool) → (a ≡ true → b ≡ true) → (b ≡ true → a ≡ true) → a ≡ b
same_bool true b f g = sym (f refl)
same_bool false true f g = g refl
same_bool false false f g = refl

true_both : (a b : Bool) → a ≡ true → b ≡ true → (a && b) ≡ true
true_both true b e g = g
true_both false b e g = e

-- what a value that is left out is: written as d, with that many elements inside at most; and the converse
is_written : {V : Type 0} (i : ℕ) (F : Format V) (d : List ℕ) (v : V) → is_default_with i F d v ≡ true → (F.text v ≡ d) × (F.least v ≤ 1 + i)
is_written i F d v e =
    let p = and_parts (bytes_eq (F.text v) d) (leb (F.least v) (1 + i)) e in
    ((bytes_eq-Decides (F.text v) d).0 p.0, leb-true (F.least v) (1 + i) p.1)

is_left : {V : Type 0} (i : ℕ) (F : Format V) (d : List ℕ) (v : V) → F.text v ≡ d → F.least v ≤ 1 + i → is_default_with i F d v ≡ true
is_left i F d v e l = true_both (bytes_eq (F.text v) d) (leb (F.least v) (1 + i)) ((bytes_eq-Decides (F.text v) d).1 e) (le-leb (F.least v) (1 + i) l)

module _ {V : Type 0} (tag i : ℕ) (F : Format V) (d : List ℕ) where
  within_to : (v : V) → is_default_with i F d v ≡ true → is_default_with (1 + i) (within tag F) (element tag d) v ≡ true
  within_to v e = let p = is_written i F d v e in is_left (1 + i) (within tag F) (element tag d) v (ap (element tag) p.0) (omega (arith, p.1))

  within_from : (v : V) → is_default_with (1 + i) (within tag F) (element tag d) v ≡ true → is_default_with i F d v ≡ true
  within_from v e =
      let p = is_written (1 + i) (within tag F) (element tag d) v e in
      is_left i F d v (element_same tag tag (F.text v) d p.0).1 (omega (arith, p.1))

  within_left_out : IsDefault (is_default_with i F d) d F → IsDefault (is_default_with (1 + i) (within tag F) (element tag d)) (element tag d) (within tag F)
  within_left_out l = record {
    element = (tag, d, refl, refl);
    normal = λ k v s. (d, refl, l.normal k v (subst (λ c. F.Reads k c v) (sym (element_same tag tag d s.0 s.1).1) s.2));
    exact = λ k v h. (
      λ e. (is_written (1 + i) (within tag F) (element tag d) v e).0,
      λ e. within_to v ((l.exact k v h).1 (element_same tag tag (F.text v) d e).1),
    );
  }

-- where a tag of one byte can have the number
only_left_out : {V : Type 0} (b : Bool) (o : V → Bool) (d : List ℕ) (F : Format V) → IsDefault o d F → IsDefault o d (only b F)
only_left_out true o d F l = record { element = l.element; normal = l.normal; exact = l.exact }
only_left_out false o d F l = record { element = l.element; normal = λ k v s. absurd s; exact = λ k v h. absurd h }

numbered_left_out : {V : Type 0} (n : ℕ) (o : V → Bool) (d : List ℕ) (F : Format V) → IsDefault o d F → IsDefault o d (numbered n F)
numbered_left_out n o d F l = only_left_out (ltb n 31) o d F l

pub explicit_default_same : {V : Type 0} (n i : ℕ) (F : Format V) (d : List ℕ) (v : V) → is_default_with i F d v ≡ is_default_with (1 + i) (explicit_context n F) (element (explicit_tag n) d) v
explicit_default_same n i F d v = same_bool _ _ (within_to (explicit_tag n) i F d v) (within_from (explicit_tag n) i F d v)

pub explicit_left_out : {V : Type 0} (n i : ℕ) (F : Format V) (d : List ℕ) → IsDefault (is_default_with i F d) d F → IsDefault (is_default_with (1 + i) (explicit_context n F) (element (explicit_tag n) d)) (element (explicit_tag n) d) (explicit_context n F)
explicit_left_out n i F d l =
    numbered_left_out n (is_default_with (1 + i) (within (explicit_tag n) F) (element (explicit_tag n) d)) (element (explicit_tag n) d) (within (explicit_tag n) F) (within_left_out (explicit_tag n) i F d l)

module _ {V : Type 0} (tag inner i : ℕ) (F : Format V) (g : IsTagged inner F) (d : List ℕ) (c : List ℕ) (is : d ≡ element inner c) where
  retagged : (v : V) → F.text v ≡ d → retag tag (F.text v) ≡ retag tag d
  retagged v e = ap (retag tag) e

  untagged : (v : V) → retag tag (F.text v) ≡ retag tag d → F.text v ≡ d
  untagged v e =
      let w = g.written v in
      let h : element tag w.0 ≡ element tag c = sym (ap (retag tag) w.1 ∙ retag_element tag inner w.0) ∙ e ∙ ap (retag tag) is ∙ retag_element tag inner c in
      w.1 ∙ ap (element inner) (element_same tag tag w.0 c h).1 ∙ sym is

  implicit_to : (v : V) → is_default_with i F d v ≡ true → is_default_with i (implicit tag inner F) (retag tag d) v ≡ true
  implicit_to v e = let p = is_written i F d v e in is_left i (implicit tag inner F) (retag tag d) v (retagged v p.0) (omega (arith, p.1))

  implicit_from : (v : V) → is_default_with i (implicit tag inner F) (retag tag d) v ≡ true → is_default_with i F d v ≡ true
  implicit_from v e =
      let p = is_written i (implicit tag inner F) (retag tag d) v e in
      is_left i F d v (untagged v p.0) (omega (arith, p.1))

  retag_is : retag tag d ≡ element tag c
  retag_is = ap (retag tag) is ∙ retag_element tag inner c

  retagged_left_out : IsDefault (is_default_with i F d) d F → IsDefault (is_default_with i (implicit tag inner F) (retag tag d)) (retag tag d) (implicit tag inner F)
  retagged_left_out l = record {
    element = (tag, c, retag_is, refl);
    normal = λ k v s.
        let h : s.0 ≡ c = (element_same tag tag s.0 c (sym s.1 ∙ retag_is)).1 in
        let r : F.Reads k d v = subst (λ x. F.Reads k x v) (ap (element inner) h ∙ sym is) s.2 in
        (c, retag_is, subst (λ x. F.IsNormal k x) is (l.normal k v r));
    exact = λ k v h. (
      λ e. (is_written i (implicit tag inner F) (retag tag d) v e).0,
      λ e. implicit_to v ((l.exact k v h).1 (untagged v e)),
    );
  }

-- the encoding that absence means has the type's tag
default_contents : {V : Type 0} {o : V → Bool} {d : List ℕ} {F : Format V} (inner : ℕ) → IsTagged inner F → IsDefault o d F → (c : List ℕ) × (d ≡ element inner c)
default_contents {V} {o} {d} {F} inner g l =
    let e = l.element in
    let t : e.0 ≡ inner = (g.tags e.0).0 e.3 in
    (e.1, e.2 ∙ ap (λ t. element t e.1) t)

pub implicit_default_same : {V : Type 0} (n inner i : ℕ) (F : Format V) (d : List ℕ) → IsTagged inner F → IsDefault (is_default_with i F d) d F → (v : V) → is_default_with i F d v ≡ is_default_with i (implicit_context n inner F) (retag (context_tag (n % 31) inner) d) v
implicit_default_same n inner i F d g l v =
    let c = default_contents inner g l in
    same_bool _ _ (implicit_to (context_tag (n % 31) inner) inner i F g d c.0 c.1 v) (implicit_from (context_tag (n % 31) inner) inner i F g d c.0 c.1 v)

pub implicit_left_out : {V : Type 0} (n inner i : ℕ) (F : Format V) (d : List ℕ) → IsTagged inner F → IsDefault (is_default_with i F d) d F → IsDefault (is_default_with i (implicit_context n inner F) (retag (context_tag (n % 31) inner) d)) (retag (context_tag (n % 31) inner) d) (implicit_context n inner F)
implicit_left_out n inner i F d g l =
    let tag = context_tag (n % 31) inner in
    let c = default_contents inner g l in
    numbered_left_out n (is_default_with i (implicit tag inner F) (retag tag d)) (retag tag d) (implicit tag inner F) (retagged_left_out tag inner i F g d c.0 c.1 l)

-- the value that absence means, under a tag: where the number is below 31, and where it isn't
pub explicit_absent_value : {V : Type 0} (n : ℕ) (F : Format V) (d : List ℕ) (v : V) → n < 31 → ((k : ℕ) → F.Reads k d v) → (k : ℕ) → (explicit_context n F).Reads k (element (explicit_tag n) d) v
explicit_absent_value n F d v l s k = low n l (d, refl, s k)

pub explicit_no_default : {V : Type 0} (n : ℕ) (F : Format V) (d : List ℕ) {e : Error} → HasNoDefault F d e → HasNoDefault (explicit_context n F) (element (explicit_tag n) d) e
explicit_no_default n F d g = record {
  kind = g.kind;
  none = λ m k v s.
      let r = not_high (ltb n 31) s in
      g.none m k v (subst (λ c. F.Reads k c v) (sym (element_same (explicit_tag n) (explicit_tag n) d r.0 r.1).1) r.2);
}

pub explicit_too_high : {V : Type 0} (n : ℕ) (F : Format V) (d : List ℕ) → 31 ≤ n → HasNoDefault (explicit_context n F) d Invalid
explicit_too_high n F d h = record { kind = λ e. cc; none = λ m k v s. high _ n h s }

pub implicit_absent_value : {V : Type 0} (n inner i : ℕ) (F : Format V) (d : List ℕ) (v : V) → IsTagged inner F → IsDefault (is_default_with i F d) d F → n < 31 → ((k : ℕ) → F.Reads k d v) → (k : ℕ) → (implicit_context n inner F).Reads k (retag (context_tag (n % 31) inner) d) v
implicit_absent_value n inner i F d v g l h s k =
    let c = default_contents inner g l in
    low n h (c.0, ap (retag (context_tag (n % 31) inner)) c.1 ∙ retag_element (context_tag (n % 31) inner) inner c.0, subst (λ x. F.Reads k x v) c.1 (s k))

pub implicit_no_default : {V : Type 0} (n inner i : ℕ) (F : Format V) (d : List ℕ) {e : Error} → IsTagged inner F → IsDefault (is_default_with i F d) d F → HasNoDefault F d e → HasNoDefault (implicit_context n inner F) (retag (context_tag (n % 31) inner) d) e
implicit_no_default n inner i F d g l x =
    let tag = context_tag (n % 31) inner in
    let c = default_contents inner g l in
    record {
      kind = x.kind;
      none = λ m k v s.
          let r = not_high (ltb n 31) s in
          let h : r.0 ≡ c.0 = (element_same tag tag r.0 c.0 (sym r.1 ∙ ap (retag tag) c.1 ∙ retag_element tag inner c.0)).1 in
          x.none m k v (subst (λ y. F.Reads k y v) (ap (element inner) h ∙ sym c.1) r.2);
    }

pub implicit_too_high : {V : Type 0} (n inner : ℕ) (F : Format V) (d : List ℕ) → 31 ≤ n → HasNoDefault (implicit_context n inner F) d Invalid
implicit_too_high n inner F d h = record { kind = λ e. cc; none = λ m k v s. high _ n h s }
