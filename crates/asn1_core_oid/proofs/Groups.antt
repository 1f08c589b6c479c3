-- Reading groups, and writing one.
use Rattle.std.proofs.Common.{◌≡◌, ℕ, ◌+◌, ◌-◌, ◌*◌, ◌/◌, ◌%◌, ◌^◌, ◌<◌, ◌≤◌, true, not, ◌&&◌, eqb, leb, ltb, List, [], ◌∷◌, ◌++◌, map, length, drop, All, refl, sym, ap, ◌∙◌, arith, ⊎_elim, append_assoc, length-append}
use Rattle.std.specs.List.{flat_map, Any}
use Rattle.std.specs.Int.Digits.{digits_of}
use Rattle.std.proofs.lemmas.Int.Digits.{digits_of_step}
use Rattle.std.proofs.lemmas.List.{map_push, drop_all, append-nil, get_or_at}
use Rattle.std.proofs.lemmas.Bool.{cases_lt, lt-ltb, le-ltb, le-leb, false≢true}
use Rattle.asn1_core_oid.specs.Oid.{base128, IsOid}
use Rattle.asn1_core_oid.specs.OidLaws.{groups_after, groups_after-flat_map}
use Rattle.asn1_core_oid.specs.OidText.{SpellsGroups, HasLongGroup}
use Rattle.asn1_core_oid.specs.OidTest.{ends_groups}
use Rattle.asn1_core_oid.specs.laws.OidTestLaws.{past_guard}

-- one digit more that ends no group
pub leading_more : (n : ℕ) (old mid new : List ℕ) → (n ≡ 0 → ⊥) → mid ≡ old ++ map (λ d. 128 + d) (digits_of 128 (n / 128)) → new ≡ mid ++ (128 + n % 128) ∷ [] → new ≡ old ++ map (λ d. 128 + d) (digits_of 128 n)
leading_more n old mid new h e f =
    let step : map (λ d. 128 + d) (digits_of 128 n) ≡ map (λ d. 128 + d) (digits_of 128 (n / 128)) ++ (128 + n % 128) ∷ [] =
    ap (map (λ d. 128 + d)) (digits_of_step 128 n (omega arith) (omega (arith, h))) ∙ map_push (λ d. 128 + d) (digits_of 128 (n / 128)) (n % 128) in
    f ∙ ap (λ x. x ++ (128 + n % 128) ∷ []) e ∙ append_assoc old (map (λ d. 128 + d) (digits_of 128 (n / 128))) ((128 + n % 128) ∷ []) ∙ ap (λ x. old ++ x) (sym step)

-- a group that is begun with n is at least 128 times as large
pub long_after : (n : ℕ) (os : List ℕ) → ends_groups true os ≡ true → (m : ℕ) × (ms : List ℕ) × (groups_after n os ≡ m ∷ ms) × (n * 128 ≤ m)
long_after n [] e = absurd (false≢true e)
long_after n (o ∷ os) e =
    ⊎_elim
    (λ (low : o < 128). (n * 128 + o, groups_after 0 os, rw (lt-ltb o 128 low) refl, omega arith))
    (λ (high : 128 ≤ o).
    let f = rw (le-leb 128 o high) at (past_guard (eqb o 128 && not true) (ends_groups (leb 128 o) os) e) in
    let r = long_after (n * 128 + (o - 128)) os f in
    (r.0, r.1, rw (le-ltb o 128 high) r.2, omega (arith, r.3)))
    (cases_lt o 128)

pub groups_are : (os : List ℕ) → IsOid os → os ≡ flat_map base128 (groups_after 0 os)
groups_are os h =
    let e : groups_after 0 os ≡ h.groups = ap (groups_after 0) h.spelled ∙ groups_after-flat_map h.groups in
    h.spelled ∙ ap (flat_map base128) (sym e)

any_at : (P : ℕ → Type 0) (xs ys : List ℕ) (y : ℕ) → P y → Any P (xs ++ y ∷ ys)
any_at P xs ys y h = (length xs, y, omega (arith, length-append xs (y ∷ ys)), get_or_at xs y ys y (length xs) refl, h)

-- what reading the octets as far as i tells of them
module _ (os : List ℕ) (valid : IsOid os) (i n : ℕ) (groups : List ℕ) (read : groups ++ groups_after n (drop i os) ≡ groups_after 0 os) where
  pub long_group : ends_groups (ltb 0 n) (drop i os) ≡ true → 2 ^ 57 ≤ n → HasLongGroup os
  long_group e h =
      let r = long_after n (drop i os) (rw (lt-ltb 0 n (omega arith)) at e) in
      let P : ℕ → Type 0 = λ m. 2 ^ 64 ≤ m in
      let all : groups ++ r.0 ∷ r.1 ≡ groups_after 0 os = ap (λ ms. groups ++ ms) (sym r.2) ∙ read in
      record { groups = groups ++ r.0 ∷ r.1; spelled = groups_are os valid ∙ ap (flat_map base128) (sym all); long = any_at P groups r.1 r.0 (omega (arith, r.3, h)) }

  pub groups_read : All (λ m. m < 2 ^ 64) groups → length os ≤ i → SpellsGroups os groups
  groups_read fit h =
      let all : groups ≡ groups_after 0 os = sym (append-nil groups) ∙ ap (λ l. groups ++ groups_after n l) (sym (drop_all i os h)) ∙ read in
      record {
        some = λ e. valid.some (sym (groups_after-flat_map valid.groups) ∙ ap (groups_after 0) (sym valid.spelled) ∙ sym all ∙ e);
        fit = fit;
        spelled = groups_are os valid ∙ ap (flat_map base128) (sym all);
      }
