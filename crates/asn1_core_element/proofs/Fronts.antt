-- What bytes that begin with an element show, and which bytes begin with none.
use Rattle.std.proofs.Common.{◌≡◌, ◌⊎◌, ℕ, suc, ◌+◌, ◌-◌, ◌%◌, ◌^◌, ◌<◌, ◌≤◌, List, [], ◌∷◌, ◌++◌, length, take, drop, get_or, refl, sym, ap, ◌∙◌, arith, ⊎_elim, length-append, append_assoc, length-take, get_or-take}
use Rattle.std.specs.Int.Digits.{digits_of, number_from_digits}
use Rattle.std.proofs.lemmas.Bool.{cases_lt}
use Rattle.std.proofs.lemmas.List.{take_at, take-append-drop, get_or_append_left}
use Rattle.std.proofs.lemmas.Int.Digits.{length-digits_of-le, length-digits_of_step, number_digits_of, first_digits_of}
use Rattle.asn1_core_element.specs.Element.{length_octets, head, element, IsTagByte, IsFront, HasNoFront}
use Rattle.asn1_core_element.specs.laws.ElementLaws.{octets_short, octets_long}
use Rattle.asn1_core_element.specs.laws.Digits.{all_bytes, all_bytes_take, digits_of_number}

-- the bytes after the tag
module _ (bytes : List ℕ) (t : ℕ) (c rest : List ℕ) (e : bytes ≡ element t c ++ rest) where
  shown : bytes ≡ t ∷ (length_octets (length c) ++ (c ++ rest))
  unfolding head
  shown = e ∙ ap (λ x. t ∷ x) (append_assoc (length_octets (length c)) c rest)

  tag_shown : get_or bytes 0 0 ≡ t
  tag_shown = ap (λ b. get_or b 0 0) shown

  short_shown : length c < 128 → bytes ≡ t ∷ length c ∷ c ++ rest
  short_shown h = shown ∙ ap (λ o. t ∷ (o ++ (c ++ rest))) (octets_short (length c) h)

  long_shown : 128 ≤ length c → bytes ≡ t ∷ (128 + length (digits_of 256 (length c))) ∷ digits_of 256 (length c) ++ (c ++ rest)
  long_shown h = shown ∙ ap (λ o. t ∷ (o ++ (c ++ rest))) (octets_long (length c) h)

  -- a length below 128
  short_parts : length c < 128 → (get_or bytes 1 0 ≡ length c) × (2 + length c ≤ length bytes)
  short_parts h =
      let s = short_shown h in
      (ap (λ b. get_or b 1 0) s, omega (arith, ap length s, length-append c rest))

  long_parts : 128 ≤ length c → (get_or bytes 1 0 ≡ 128 + length (digits_of 256 (length c))) × (2 + length (digits_of 256 (length c)) + length c ≤ length bytes) × (take (length (digits_of 256 (length c))) (drop 2 bytes) ≡ digits_of 256 (length c)) × (get_or bytes 2 0 ≡ get_or (digits_of 256 (length c)) 0 0)
  long_parts h =
      let s = long_shown h in
      (ap (λ b. get_or b 1 0) s, omega (arith, ap length s, length-append (digits_of 256 (length c)) (c ++ rest), length-append c rest), ap (λ b. take (length (digits_of 256 (length c))) (drop 2 b)) s ∙ take_at (digits_of 256 (length c)) (c ++ rest) _ refl, ap (λ b. get_or b 2 0) s ∙ get_or_append_left (digits_of 256 (length c)) (c ++ rest) 0 0 (omega (arith, length-digits_of_step 256 (length c) (omega arith) (omega arith))))

by_length : {X : Type 0} (c : List ℕ) → (length c < 128 → X) → (128 ≤ length c → X) → X
by_length c f g = ⊎_elim f g (cases_lt (length c) 128)

pub none_empty : (bytes : List ℕ) → length bytes < 2 → HasNoFront bytes
none_empty bytes h t c rest k e =
    by_length c (λ l. omega (arith, (short_parts bytes t c rest e l).1)) (λ l. omega (arith, (long_parts bytes t c rest e l).1))

pub none_tag : (bytes : List ℕ) → get_or bytes 0 0 % 32 ≡ 31 → HasNoFront bytes
none_tag bytes h t c rest k e =
    let f : t % 32 ≡ 31 = ap (λ x. x % 32) (sym (tag_shown bytes t c rest e)) ∙ h in omega arith

pub none_short : (bytes : List ℕ) → get_or bytes 1 0 < 128 → length bytes - 2 < get_or bytes 1 0 → HasNoFront bytes
none_short bytes h m t c rest k e =
    by_length c
    (λ l. let p = short_parts bytes t c rest e l in omega (arith, p.0, p.1))
    (λ l. let p = long_parts bytes t c rest e l in omega (arith, p.0))

module _ (bytes : List ℕ) (long : 128 ≤ get_or bytes 1 0) where
  pub none_count : length bytes < 2 ^ 64 → (get_or bytes 1 0 - 128 ≡ 0) ⊎ ((8 < get_or bytes 1 0 - 128) ⊎ (length bytes - 2 < get_or bytes 1 0 - 128)) → HasNoFront bytes
  none_count small w t c rest k e =
      by_length c
      (λ l. let p = short_parts bytes t c rest e l in omega (arith, p.0))
      (λ l.
      let p = long_parts bytes t c rest e l in
      let d : get_or bytes 1 0 - 128 ≡ length (digits_of 256 (length c)) = omega (arith, p.0) in
      let u : 2 ^ 64 ≡ 256 ^ 8 = refl in
      let m = length-digits_of-le 256 8 (length c) (omega arith) (omega (arith, p.1)) in
      ⊎_elim (λ (a : get_or bytes 1 0 - 128 ≡ 0). omega (arith, length-digits_of_step 256 (length c) (omega arith) (omega arith)))
      (λ (b : (8 < get_or bytes 1 0 - 128) ⊎ (length bytes - 2 < get_or bytes 1 0 - 128)). ⊎_elim (λ (a : 8 < get_or bytes 1 0 - 128). omega (arith, m)) (λ (a : length bytes - 2 < get_or bytes 1 0 - 128). omega (arith, p.1)) b) w)

  pub none_zero : get_or bytes 2 0 ≡ 0 → HasNoFront bytes
  none_zero z t c rest k e =
      by_length c
      (λ l. let p = short_parts bytes t c rest e l in omega (arith, p.0))
      (λ l. let p = long_parts bytes t c rest e l in omega (arith, p.3, first_digits_of 256 (length c) (omega arith) (omega arith)))

  pub none_number : (n : ℕ) → n ≡ number_from_digits 256 (take (get_or bytes 1 0 - 128) (drop 2 bytes)) → (n < 128) ⊎ (length bytes - 2 - (get_or bytes 1 0 - 128) < n) → HasNoFront bytes
  none_number n is w t c rest k e =
      by_length c
      (λ l. let p = short_parts bytes t c rest e l in omega (arith, p.0))
      (λ l.
      let p = long_parts bytes t c rest e l in
      let d : get_or bytes 1 0 - 128 ≡ length (digits_of 256 (length c)) = omega (arith, p.0) in
      let m : n ≡ length c = is ∙ ap (λ i. number_from_digits 256 (take i (drop 2 bytes))) d ∙ ap (number_from_digits 256) p.2 ∙ number_digits_of 256 (length c) (omega arith) in
      ⊎_elim (λ (a : n < 128). omega arith) (λ (a : length bytes - 2 - (get_or bytes 1 0 - 128) < n). omega (arith, p.1)) w)

tag_byte : (t : ℕ) → (t % 32 ≡ 31 → ⊥) → IsTagByte t
tag_byte t h = omega arith

pub found_short : (bytes : List ℕ) → 2 ≤ length bytes → (get_or bytes 0 0 % 32 ≡ 31 → ⊥) → get_or bytes 1 0 < 128 → get_or bytes 1 0 ≤ length bytes - 2 → IsFront bytes (get_or bytes 0 0) (get_or bytes 1 0) 2
unfolding head
found_short [] l t s f = absurd (omega (arith, l))
found_short (a ∷ []) l t s f = absurd (omega (arith, l))
found_short (a ∷ n ∷ r) l t s f = record {
  is_tag = tag_byte a t;
  header = ap (λ o. a ∷ (o ++ r)) (sym (octets_short n s));
  size = ap (λ o. suc (length o)) (octets_short n s);
  fits = omega (arith, f, l);
}

drop_two : (a b k : ℕ) (r : List ℕ) → drop (2 + k) (a ∷ b ∷ r) ≡ drop k r
drop_two a b k r = let e : 2 + k ≡ suc (suc k) = omega arith in ap (λ i. drop i (a ∷ b ∷ r)) e

pub found_long : (bytes : List ℕ) (n : ℕ) → ((i : ℕ) → get_or bytes i 0 < 256) → 2 ≤ length bytes → (get_or bytes 0 0 % 32 ≡ 31 → ⊥) → 128 ≤ get_or bytes 1 0 → (get_or bytes 1 0 - 128 ≡ 0 → ⊥) → get_or bytes 1 0 - 128 ≤ length bytes - 2 → (get_or bytes 2 0 ≡ 0 → ⊥) → n ≡ number_from_digits 256 (take (get_or bytes 1 0 - 128) (drop 2 bytes)) → 128 ≤ n → n ≤ length bytes - 2 - (get_or bytes 1 0 - 128) → IsFront bytes (get_or bytes 0 0) n (2 + (get_or bytes 1 0 - 128))
unfolding head
found_long [] n small l t s z f q is m w = absurd (omega (arith, l))
found_long (a ∷ []) n small l t s z f q is m w = absurd (omega (arith, l))
found_long (a ∷ b ∷ r) n small l t s z f q is m w =
    let ds : List ℕ = take (b - 128) r in
    let ld : length ds ≡ b - 128 = length-take (b - 128) r ∙ omega (arith, f) in
    let below = all_bytes_take (b - 128) r (all_bytes r (λ i. small (suc (suc i)))) in
    let top : 0 < get_or ds 0 0 = let g = get_or-take (b - 128) r 0 0 (omega (arith, z)) in omega (arith, q, g) in
    let dg : digits_of 256 n ≡ ds = ap (digits_of 256) is ∙ digits_of_number ds below top in
    let oc : length_octets n ≡ b ∷ ds = octets_long n m ∙ ap (λ x. (128 + length x) ∷ x) dg ∙ ap (λ x. x ∷ ds) (omega (arith, ld)) in
    record {
      is_tag = tag_byte a t;
      header = ap (λ x. a ∷ b ∷ x) (sym (take-append-drop (b - 128) r)) ∙ ap (λ o. a ∷ (o ++ drop (b - 128) r)) (sym oc) ∙ ap (λ x. a ∷ (length_octets n ++ x)) (sym (drop_two a b (b - 128) r));
      size = ap (λ o. suc (length o)) oc ∙ omega (arith, ld);
      fits = omega (arith, w, f);
    }

-- the number of the bytes from the third on
pub number_read : (bytes : List ℕ) (n k : ℕ) → n ≡ number_from_digits 256 (take (2 + k - 2) (drop 2 bytes)) → n ≡ number_from_digits 256 (take k (drop 2 bytes))
number_read bytes n k e =
    let s : 2 + k - 2 ≡ k = omega arith in
    e ∙ ap (λ i. number_from_digits 256 (take i (drop 2 bytes))) s
