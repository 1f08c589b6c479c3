-- Whole elements of BER.
use Rattle.std.proofs.Common.{◌≡◌, ◌↔◌, inl, inr, ◌⊎◌, IsTrue, Bool, ℕ, zero, suc, ◌+◌, ◌-◌, ◌/◌, ◌%◌, ◌<◌, ◌≤◌, List, [], ◌∷◌, ◌++◌, Option, Some, length, take, drop, get_or, refl, sym, ap, subst, ◌∙◌, arith, append_assoc}
use Rattle.std.specs.Prelude.{None}
use Rattle.std.proofs.Math.Seq.{drop-append_seam}
use Rattle.std.proofs.lemmas.List.{take-append-drop, take_rest, length-take-le}
use Rattle.asn1_core_element.specs.Element.{IsTagByte}
use Rattle.ber_der.specs.Ber.{IsLength, IsDefinite}
use Rattle.ber_der.specs.Lengths.{BeginsDefinite, BeginsWithLength}
use Rattle.ber_der.specs.laws.BerLaws.{length_cut, not_indefinite}
use Rattle.ber_lines.specs.Lines.{BeginsLonger, BeginsWithEnd, HasNoBer, IsBerItem, OpensBer, IsWholeBer, IsWholeLonger, IsWholeIndefinite, EndsAll, ends_over, ends_ended, ends_held, ends_opened}
use Rattle.ber_lines.specs.declared.lines.Front.{Front}
use Rattle.ber_lines.specs.declared.lines.Front.TheVariants.{Longer}
use Rattle.ber_lines.specs.declared.lines.Opening.{Opening}
use Rattle.ber_lines.proofs.Items.{uncons}

-- after a tag is a definite length with so many octets, and then what ends all
record HeldBy (n : ℕ) (after : List ℕ) : Type 0 where
  octets : List ℕ
  contents : List ℕ
  rest : List ℕ
  length_is : IsLength octets (length contents)
  is : after ≡ octets ++ (contents ++ rest)
  ends : EndsAll (suc n) rest

-- after a tag is an indefinite length, and then what ends one more
record OpenedBy (n tag : ℕ) (after : List ℕ) : Type 0 where
  constructed : tag / 32 % 2 ≡ 1
  rest : List ℕ
  is : after ≡ 128 ∷ rest
  ends : EndsAll (suc (suc n)) rest

inside : (n tag : ℕ) (bytes after : List ℕ) → bytes ≡ tag ∷ after → ¬ BeginsWithEnd bytes → EndsAll (suc n) bytes → IsTagByte tag × (HeldBy n after ⊎ OpenedBy n tag after)
inside n tag bytes after e not (ends_ended m b rest is ends) = absurd (not (is ∙ ap (λ x. 0 ∷ 0 ∷ x) (sym (ap (drop 2) is))))
inside n tag bytes after e not (ends_held m t encoding contents b rest is_tag d is other ends) =
    let whole : tag ∷ after ≡ t ∷ ((d.length_octets ++ contents) ++ rest) = sym e ∙ is ∙ ap (λ x. x ++ rest) d.is in
    let same : tag ≡ t = cc in
    let left : after ≡ (d.length_octets ++ contents) ++ rest = cc in
    (subst IsTagByte (sym same) is_tag, inl (record { octets = d.length_octets; contents = contents; rest = rest; length_is = d.length_is; is = left ∙ append_assoc d.length_octets contents rest; ends = ends }))
inside n tag bytes after e not (ends_opened m t b rest is_tag constructed is ends) =
    let whole : tag ∷ after ≡ t ∷ 128 ∷ rest = sym e ∙ is in
    let same : tag ≡ t = cc in
    let left : after ≡ 128 ∷ rest = cc in
    (subst IsTagByte (sym same) is_tag, inr (record { constructed = subst (λ x. x / 32 % 2 ≡ 1) (sym same) constructed; rest = rest; is = left; ends = ends }))

-- two zero octets end the innermost
zeros : (n : ℕ) (bytes rest : List ℕ) → bytes ≡ 0 ∷ 0 ∷ rest → EndsAll (suc n) bytes → EndsAll n rest
zeros n bytes rest e (ends_ended m b r is ends) =
    let both : 0 ∷ 0 ∷ rest ≡ 0 ∷ 0 ∷ r = sym e ∙ is in
    let same : rest ≡ r = ap (drop 2) both in
    subst (EndsAll n) (sym same) ends
zeros n bytes rest e (ends_held m t encoding contents b r is_tag d is other ends) = absurd (other (e ∙ ap (λ x. 0 ∷ 0 ∷ x) (sym (ap (drop 2) e))))
zeros n bytes rest e (ends_opened m t b r is_tag constructed is ends) =
    let both : 0 ∷ 0 ∷ rest ≡ t ∷ 128 ∷ r = sym e ∙ is in
    let differ : ◌≡◌ {A = ℕ} 0 128 = cc in
    absurd (omega (arith, differ))

pub past_end : (levels m : ℕ) (bytes rest : List ℕ) → 0 < levels → m ≡ levels - 1 → bytes ≡ 0 ∷ 0 ∷ rest → EndsAll levels bytes ↔ EndsAll m rest
past_end zero m bytes rest l e is = absurd (omega (arith, l))
past_end (suc n) m bytes rest l e is =
    let same : m ≡ n = omega (arith, e) in
    (λ x. subst (λ k. EndsAll k rest) (sym same) (zeros n bytes rest is x), λ x. ends_ended n bytes rest is (subst (λ k. EndsAll k rest) same x))

pub past_element : (levels tag len : ℕ) (bytes after contents : List ℕ) → 0 < levels → bytes ≡ tag ∷ after → ¬ BeginsWithEnd bytes → IsTagByte tag → BeginsDefinite after len contents → EndsAll levels bytes ↔ EndsAll levels (drop len contents)
past_element zero tag len bytes after contents l e not is_tag b = absurd (omega (arith, l))
past_element (suc n) tag len bytes after contents l e not is_tag b =
    let one : HeldBy n after → EndsAll (suc n) (drop len contents) = λ h.
    let cut = length_cut b.length_octets h.octets len (length h.contents) contents (h.contents ++ h.rest) b.length_is h.length_is (sym b.split ∙ h.is) in
    let past : drop len contents ≡ h.rest = rw (cut.1, cut.2) (drop-append_seam h.contents h.rest) in
    subst (EndsAll (suc n)) (sym past) h.ends in
    let none : OpenedBy n tag after → EndsAll (suc n) (drop len contents) = λ o. absurd (not_indefinite b.length_octets len contents o.rest b.length_is (sym b.split ∙ o.is)) in
    let there : EndsAll (suc n) bytes → EndsAll (suc n) (drop len contents) = λ x. elim ((inside n tag bytes after e not x).1) [ inl h ↦ one h | inr o ↦ none o ] in
    let front : List ℕ = take len contents in
    let size : length front ≡ len = length-take-le len contents b.fits in
    let definite : IsDefinite (tag ∷ b.length_octets ++ front) tag front = record { length_octets = b.length_octets; length_is = rw size b.length_is; is = refl } in
    let split : bytes ≡ (tag ∷ b.length_octets ++ front) ++ drop len contents =
    e ∙ ap (λ x. tag ∷ x) (b.split ∙ ap (λ x. b.length_octets ++ x) (sym (take-append-drop len contents)) ∙ sym (append_assoc b.length_octets front (drop len contents))) in
    (there, λ x. ends_held n tag (tag ∷ b.length_octets ++ front) front bytes (drop len contents) is_tag definite split not x)

pub past_indefinite : (levels m tag : ℕ) (bytes after contents : List ℕ) → 0 < levels → m ≡ levels + 1 → bytes ≡ tag ∷ after → ¬ BeginsWithEnd bytes → IsTagByte tag → tag / 32 % 2 ≡ 1 → after ≡ 128 ∷ contents → EndsAll levels bytes ↔ EndsAll m contents
past_indefinite zero m tag bytes after contents l k e not is_tag constructed is = absurd (omega (arith, l))
past_indefinite (suc n) m tag bytes after contents l k e not is_tag constructed is =
    let same : m ≡ suc (suc n) = omega (arith, k) in
    let none : HeldBy n after → EndsAll (suc (suc n)) contents = λ h. absurd (not_indefinite h.octets (length h.contents) (h.contents ++ h.rest) contents h.length_is (sym h.is ∙ is)) in
    let one : OpenedBy n tag after → EndsAll (suc (suc n)) contents = λ o.
    let both : 128 ∷ contents ≡ 128 ∷ o.rest = sym is ∙ o.is in
    let left : contents ≡ o.rest = ap (drop 1) both in
    subst (EndsAll (suc (suc n))) (sym left) o.ends in
    let there : EndsAll (suc n) bytes → EndsAll (suc (suc n)) contents = λ x. elim ((inside n tag bytes after e not x).1) [ inl h ↦ none h | inr o ↦ one o ] in
    (λ x. subst (λ j. EndsAll j contents) (sym same) (there x), λ x. ends_opened n tag bytes contents is_tag constructed (e ∙ ap (λ y. tag ∷ y) is) (subst (λ j. EndsAll j contents) same x))

-- no contents are open
all_over : (bytes : List ℕ) → EndsAll zero bytes → bytes ≡ []
all_over bytes (ends_over b e) = e

no_octets : (bytes : List ℕ) → length bytes ≡ 0 → bytes ≡ []
no_octets [] e = refl
no_octets (x ∷ b) e = absurd (omega (arith, e))

pub none_open : (levels : ℕ) (bytes : List ℕ) → levels ≡ 0 → EndsAll levels bytes ↔ (length bytes ≡ 0)
none_open levels bytes e = (λ x. ap length (all_over bytes (subst (λ k. EndsAll k bytes) e x)), λ f. subst (λ k. EndsAll k bytes) (sym e) (ends_over bytes (no_octets bytes f)))

module _ (bytes rest : List ℕ) (levels : ℕ) where
  abbrev tag : ℕ
  tag = get_or bytes 0 0

  abbrev after : List ℕ
  after = take (length bytes - 1) (drop 1 bytes)

  -- past an element of definite length
  pub element_past : (n : ℕ) (o : Option ℕ) → 0 < levels → 1 ≤ length bytes → IsTagByte (get_or bytes 0 0) → ¬ BeginsWithEnd bytes → BeginsWithLength (take (length bytes - 1) (drop 1 bytes)) o rest → o ≡ Some n → EndsAll levels bytes ↔ EndsAll levels (take (length rest - n) (drop n rest))
  element_past n o l some is_tag other b is =
      let d : BeginsDefinite after n rest = subst (λ p. BeginsWithLength after p rest) is b in
      rw (take_rest rest n) (past_element levels tag n bytes after rest l (uncons bytes some) other is_tag d)

  -- into one of indefinite length
  pub indefinite_past : (o : Option ℕ) → 0 < levels → 1 ≤ length bytes → IsTagByte (get_or bytes 0 0) → get_or bytes 0 0 / 32 % 2 ≡ 1 → ¬ BeginsWithEnd bytes → BeginsWithLength (take (length bytes - 1) (drop 1 bytes)) o rest → o ≡ None → EndsAll levels bytes ↔ EndsAll (levels + 1) rest
  indefinite_past o l some is_tag constructed other b none =
      past_indefinite levels (levels + 1) tag bytes after rest l refl (uncons bytes some) other is_tag constructed (subst (λ p. BeginsWithLength after p rest) none b)

-- out of contents, past their end
pub end_past : (bytes : List ℕ) (levels : ℕ) → 0 < levels → BeginsWithEnd bytes → EndsAll levels bytes ↔ EndsAll (levels - 1) (take (length bytes - 2) (drop 2 bytes))
end_past bytes levels l is = past_end levels (levels - 1) bytes (take (length bytes - 2) (drop 2 bytes)) l refl (is ∙ ap (λ x. 0 ∷ 0 ∷ x) (sym (take_rest bytes 2)))

module _ (bytes contents : List ℕ) (tag n : ℕ) (b : BeginsLonger bytes tag n contents) where
  abbrev follows : List ℕ
  follows = drop (n + length contents) bytes

  begun : HasNoBer bytes → ⊥
  begun none = none.definite tag (tag ∷ b.octets ++ contents) contents follows b.is_tag (record { length_octets = b.octets; length_is = b.length_is; is = refl }) b.is

  -- what follows the tag, in two ways
  same_octets : (x : List ℕ) (t : ℕ) → bytes ≡ t ∷ x → b.octets ++ (contents ++ follows) ≡ x
  same_octets x t e = sym (append_assoc b.octets contents follows) ∙ ap (drop 1) (sym b.is ∙ e)

  same_size : (w : IsWholeLonger bytes) → n + length contents ≡ length bytes
  same_size w =
      let past : List ℕ = drop (w.header_len + length w.contents) bytes in
      let e : b.octets ++ (contents ++ follows) ≡ w.begins.octets ++ (w.contents ++ past) =
      same_octets ((w.begins.octets ++ w.contents) ++ past) w.tag w.begins.is ∙ append_assoc w.begins.octets w.contents past in
      let cut = length_cut b.octets w.begins.octets (length contents) (length w.contents) (contents ++ follows) (w.contents ++ past) b.length_is w.begins.length_is e in
      omega (arith, ap length cut.0, cut.1, b.header, w.begins.header, w.whole)

  no_indefinite : IsWholeIndefinite bytes → ⊥
  no_indefinite w = not_indefinite b.octets (length contents) (contents ++ follows) w.contents b.length_is (same_octets (128 ∷ w.contents) w.tag w.begins.is)

-- an element begins the bytes whose length is in more octets than DER takes
pub longer_whole : (bytes contents : List ℕ) (front : Front) (tag n : ℕ) (whole : Bool) → front ≡ Longer tag → IsBerItem bytes front n contents → IsTrue whole ↔ (n + length contents ≡ length bytes) → (HasNoBer bytes → ⊥) × (IsTrue whole ↔ IsWholeBer bytes)
longer_whole bytes contents front tag n whole e item same =
    let b : BeginsLonger bytes tag n contents = subst (λ f. IsBerItem bytes f n contents) e item in
    let back : IsWholeBer bytes → IsTrue whole = λ w. elim w [ inl l ↦ same.1 (same_size bytes contents tag n b l) | inr i ↦ absurd (no_indefinite bytes contents tag n b i) ] in
    (begun bytes contents tag n b, (λ t. inl (record { tag = tag; header_len = n; contents = contents; begins = b; whole = same.0 t }), back))

-- where none begins them, they aren't opened
pub none_opens : (o : Opening) (bytes : List ℕ) (start : ℕ) → HasNoBer bytes → OpensBer o bytes start → ⊥
none_opens o bytes start none x =
    elim x.1 [ inl w ↦ elim w.1 [ inl l ↦ begun bytes l.contents l.tag l.header_len l.begins none | inr i ↦ none.indefinite i.tag i.contents i.begins.is_tag i.begins.constructed i.begins.is ] | inr l ↦ l.1 none ]
