-- The test is true of the contents octets of object identifiers, and of no other octets.
use Rattle.std.proofs.Common.{◌≡◌, ◌↔◌, ℕ, zero, suc, ◌+◌, ◌-◌, ◌*◌, ◌/◌, ◌%◌, ◌<◌, ◌≤◌, Bool, true, false, not, ◌&&◌, cond, eqb, leb, ltb, List, [], ◌∷◌, ◌++◌, map, length, get_or, refl, sym, ap, ◌∙◌, arith, ⊎_elim, append_assoc, length-append, subst}
use Rattle.std.specs.List.{flat_map}
use Rattle.std.specs.Int.Digits.{digits_of, AllBelowBase}
use Rattle.std.proofs.lemmas.Int.Digits.{digits_of_step, all_below_base_digits_of, first_digits_of}
use Rattle.std.proofs.lemmas.List.{map_push}
use Rattle.std.proofs.lemmas.Bool.{cases_lt, lt-ltb, le-ltb, le-leb, lt-leb, eq-eqb, ne_eqb, ltb-true, and_parts, and_from, and_right, false≢true}
use Rattle.asn1_core_oid.specs.Oid.{base128, IsOid}
use Rattle.asn1_core_oid.specs.OidLaws.{groups_after}
use Rattle.asn1_core_oid.specs.OidTest.{ends_groups, are_bytes, is_oid}

-- the digits of a number that don't end a group
abbrev pub marked : List ℕ → List ℕ
marked ds = map (λ d. 128 + d) ds

base128_from : (n o : ℕ) → o < 128 → base128 (n * 128 + o) ≡ marked (digits_of 128 n) ++ o ∷ []
base128_from n o h =
    let q : (n * 128 + o) / 128 ≡ n = omega arith in
    let r : (n * 128 + o) % 128 ≡ o = omega arith in
    ap (λ k. marked (digits_of 128 k) ++ (n * 128 + o) % 128 ∷ []) q ∙ ap (λ k. marked (digits_of 128 n) ++ k ∷ []) r

marked_step : (n d : ℕ) → d < 128 → 0 < n * 128 + d → marked (digits_of 128 (n * 128 + d)) ≡ marked (digits_of 128 n) ++ (128 + d) ∷ []
marked_step n d h p =
    let q : (n * 128 + d) / 128 ≡ n = omega arith in
    let r : (n * 128 + d) % 128 ≡ d = omega arith in
    ap marked (digits_of_step 128 (n * 128 + d) (omega arith) p ∙ ap (λ k. digits_of 128 k ++ (n * 128 + d) % 128 ∷ []) q ∙ ap (λ k. digits_of 128 n ++ k ∷ []) r)
    ∙ map_push (λ d. 128 + d) (digits_of 128 n) d

-- an octet that ends a group
sound_end : (n o : ℕ) (os : List ℕ) → o < 128 → os ≡ flat_map base128 (groups_after 0 os) → marked (digits_of 128 n) ++ o ∷ os ≡ flat_map base128 (groups_after n (o ∷ os))
sound_end n o os h e =
    sym (append_assoc (marked (digits_of 128 n)) (o ∷ []) os) ∙ ap (λ x. x ++ os) (sym (base128_from n o h))
    ∙ ap (λ x. base128 (n * 128 + o) ++ x) e ∙ ap (λ b. flat_map base128 (cond b ((n * 128 + o) ∷ groups_after 0 os) (groups_after (n * 128 + (o - 128)) os))) (sym (lt-ltb o 128 h))

-- an octet that doesn't
sound_more : (n o : ℕ) (os : List ℕ) → 128 ≤ o → o < 256 → 0 < n * 128 + (o - 128) → marked (digits_of 128 (n * 128 + (o - 128))) ++ os ≡ flat_map base128 (groups_after (n * 128 + (o - 128)) os) → marked (digits_of 128 n) ++ o ∷ os ≡ flat_map base128 (groups_after n (o ∷ os))
sound_more n o os h k p e =
    let r : 128 + (o - 128) ≡ o = omega arith in
    ap (λ x. marked (digits_of 128 n) ++ x ∷ os) (sym r)
    ∙ sym (append_assoc (marked (digits_of 128 n)) ((128 + (o - 128)) ∷ []) os) ∙ ap (λ x. x ++ os) (sym (marked_step n (o - 128) (omega arith) p))
    ∙ e ∙ ap (λ b. flat_map base128 (cond b ((n * 128 + o) ∷ groups_after 0 os) (groups_after (n * 128 + (o - 128)) os))) (sym (le-ltb o 128 h))

pub past_guard : (b x : Bool) → cond b false x ≡ true → x ≡ true
past_guard true x e = absurd (false≢true e)
past_guard false x e = e

-- where a group is begun with the number n, all octets of it and what follows it
sound : (n : ℕ) (os : List ℕ) → AllBelowBase 256 os → ends_groups (ltb 0 n) os ≡ true → marked (digits_of 128 n) ++ os ≡ flat_map base128 (groups_after n os)
sound zero [] h e = refl
sound (suc n) [] h e = absurd (false≢true (rw (lt-ltb 0 (suc n) (omega arith)) at e))
sound n (o ∷ os) h e =
    ⊎_elim
    (λ (low : o < 128). sound_end n o os low (sound 0 os h.1 (rw (lt-leb 128 o low) at (past_guard (eqb o 128 && not (ltb 0 n)) (ends_groups (leb 128 o) os) e))))
    (λ (high : 128 ≤ o).
    ⊎_elim
    (λ (p : 0 < n * 128 + (o - 128)).
    let f = rw (le-leb 128 o high) at (past_guard (eqb o 128 && not (ltb 0 n)) (ends_groups (leb 128 o) os) e) in
    sound_more n o os high h.0 p (sound (n * 128 + (o - 128)) os h.1 (rw (lt-ltb 0 (n * 128 + (o - 128)) p) f)))
    (λ (p : n * 128 + (o - 128) ≤ 0). absurd (false≢true (rw (eq-eqb o 128 (omega arith), le-ltb 0 n (omega arith)) at e)))
    (cases_lt 0 (n * 128 + (o - 128))))
    (cases_lt o 128)

pub is_oid_from : (os : List ℕ) → AllBelowBase 256 os → (os ≡ [] → ⊥) → ends_groups false os ≡ true → IsOid os
is_oid_from os h s e =
    let is : os ≡ flat_map base128 (groups_after 0 os) = sound 0 os h e in
    record { groups = groups_after 0 os; some = λ n. s (is ∙ ap (flat_map base128) n); spelled = is }

ends_groups_end : (inside : Bool) (o : ℕ) (os : List ℕ) → o < 128 → ends_groups inside (o ∷ os) ≡ ends_groups false os
ends_groups_end inside o os h = rw (ne_eqb o 128 (λ e. omega arith), lt-leb 128 o h) refl

ends_groups_more : (d : ℕ) (os : List ℕ) → ends_groups true ((128 + d) ∷ os) ≡ ends_groups true os
ends_groups_more d os = rw (and_right (eqb (128 + d) 128) false refl, le-leb 128 (128 + d) (omega arith)) refl

ends_groups_first : (d : ℕ) (os : List ℕ) → 0 < d → ends_groups false ((128 + d) ∷ os) ≡ ends_groups true os
ends_groups_first d os h = rw (ne_eqb (128 + d) 128 (λ e. omega arith), le-leb 128 (128 + d) (omega arith)) refl

complete_inside : (ds : List ℕ) (o : ℕ) (os : List ℕ) → o < 128 → ends_groups true (marked ds ++ o ∷ os) ≡ ends_groups false os
complete_inside [] o os h = ends_groups_end true o os h
complete_inside (d ∷ ds) o os h = ends_groups_more d (marked ds ++ o ∷ os) ∙ complete_inside ds o os h

complete_group : (ds : List ℕ) (o : ℕ) (os : List ℕ) → (0 < length ds → 0 < get_or ds 0 0) → o < 128 → ends_groups false (marked ds ++ o ∷ os) ≡ ends_groups false os
complete_group [] o os p h = ends_groups_end false o os h
complete_group (d ∷ ds) o os p h = ends_groups_first d (marked ds ++ o ∷ os) (p (omega arith)) ∙ complete_inside ds o os h

first_digit : (n : ℕ) → 0 < length (digits_of 128 n) → 0 < get_or (digits_of 128 n) 0 0
first_digit zero p = absurd (omega (arith, p))
first_digit (suc n) p = first_digits_of 128 (suc n) (omega arith) (omega arith)

complete : (gs : List ℕ) → ends_groups false (flat_map base128 gs) ≡ true
complete [] = refl
complete (n ∷ gs) =
    ap (ends_groups false) (append_assoc (marked (digits_of 128 (n / 128))) (n % 128 ∷ []) (flat_map base128 gs))
    ∙ complete_group (digits_of 128 (n / 128)) (n % 128) (flat_map base128 gs) (first_digit (n / 128)) (omega arith) ∙ complete gs

pub ends_from_oid : (os : List ℕ) → IsOid os → ends_groups false os ≡ true
ends_from_oid os h = ap (ends_groups false) h.spelled ∙ complete h.groups

base128_long : (n : ℕ) → 0 < length (base128 n)
base128_long n = omega (arith, length-append (marked (digits_of 128 (n / 128))) (n % 128 ∷ []))

some_from_groups : (gs : List ℕ) → (gs ≡ [] → ⊥) → flat_map base128 gs ≡ [] → ⊥
some_from_groups [] s e = s refl
some_from_groups (n ∷ gs) s e = omega (arith, length-append (base128 n) (flat_map base128 gs), base128_long n, ap length e)

pub some_from_oid : (os : List ℕ) → IsOid os → os ≡ [] → ⊥
some_from_oid os h e = some_from_groups h.groups h.some (sym h.spelled ∙ e)

bytes_append : (xs ys : List ℕ) → AllBelowBase 256 xs → AllBelowBase 256 ys → AllBelowBase 256 (xs ++ ys)
bytes_append [] ys h k = k
bytes_append (x ∷ xs) ys h k = (h.0, bytes_append xs ys h.1 k)

marked_bytes : (ds : List ℕ) → AllBelowBase 128 ds → AllBelowBase 256 (marked ds)
marked_bytes [] h = tt
marked_bytes (d ∷ ds) h = (omega (arith, h.0), marked_bytes ds h.1)

base128_bytes : (n : ℕ) → AllBelowBase 256 (base128 n)
base128_bytes n = bytes_append (marked (digits_of 128 (n / 128))) (n % 128 ∷ []) (marked_bytes (digits_of 128 (n / 128)) (all_below_base_digits_of 128 (n / 128) (omega arith))) (omega arith, tt)

groups_bytes : (gs : List ℕ) → AllBelowBase 256 (flat_map base128 gs)
groups_bytes [] = tt
groups_bytes (n ∷ gs) = bytes_append (base128 n) (flat_map base128 gs) (base128_bytes n) (groups_bytes gs)

-- the octets of an object identifier are bytes
pub bytes_from_oid : (os : List ℕ) → IsOid os → AllBelowBase 256 os
bytes_from_oid os h = subst (AllBelowBase 256) (sym h.spelled) (groups_bytes h.groups)

bytes_from_test : (os : List ℕ) → are_bytes os ≡ true → AllBelowBase 256 os
bytes_from_test [] e = tt
bytes_from_test (o ∷ os) e =
    let p = and_parts (ltb o 256) (are_bytes os) e in
    (ltb-true o 256 p.0, bytes_from_test os p.1)

test_from_bytes : (os : List ℕ) → AllBelowBase 256 os → are_bytes os ≡ true
test_from_bytes [] h = refl
test_from_bytes (o ∷ os) h = and_from (ltb o 256) (are_bytes os) (lt-ltb o 256 h.0) (test_from_bytes os h.1)

pub is_oid-true : (os : List ℕ) → (is_oid os ≡ true) ↔ IsOid os
is_oid-true [] = (λ e. absurd (false≢true e), λ h. absurd (some_from_oid [] h refl))
is_oid-true (o ∷ os) = (
  λ e.
      let p = and_parts (are_bytes (o ∷ os)) (ends_groups false (o ∷ os)) e in
      is_oid_from (o ∷ os) (bytes_from_test (o ∷ os) p.0) (λ n. omega (arith, ap length n)) p.1,
  λ h. and_from (are_bytes (o ∷ os)) (ends_groups false (o ∷ os)) (test_from_bytes (o ∷ os) (bytes_from_oid (o ∷ os) h)) (ends_from_oid (o ∷ os) h),
)

-- of octets that are written out: `oid_from_test octets refl`
pub oid_from_test : (os : List ℕ) → is_oid os ≡ true → IsOid os
oid_from_test os = (is_oid-true os).0
