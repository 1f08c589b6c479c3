-- The octets of a BMPString, as a loop takes them two by two.
use Rattle.std.proofs.Common.{◌≡◌, ◌↔◌, ℕ, zero, suc, ◌+◌, ◌*◌, ◌/◌, ◌%◌, ◌<◌, ◌≤◌, Bool, true, false, true≢false, not, MatchBool, IsTrue, ◌||◌, ◌==◌, List, [], ◌∷◌, length, take, get_or, refl, sym, ap, subst, arith}
use Rattle.std.proofs.lemmas.Bool.Decides.{nat_tests}
use Rattle.std.proofs.lemmas.List.{take_all}
use Rattle.std.proofs.lemmas.List.Elements.{All-nil, All-cons, All-head, All-tail, All-get_or, All-more}
use Rattle.std.specs.List.{All, flat_map}
use Rattle.std.specs.Simd.{first_chunks}
use Rattle.asn1_leaves_strings.specs.Bmp.{IsSurrogate, unit_octets, IsBmp}
use Rattle.asn1_leaves_strings.specs.BmpLaws.{unit_of}
use Rattle.asn1_leaves_strings.specs.laws.BmpLaws.{IsBmp-nil, IsBmp-first, IsBmp-more}

-- the unit of two octets
abbrev unit_at : List ℕ → ℕ
unit_at pair = unit_of (get_or pair 0 0) (get_or pair 1 0)

abbrev pub IsCharacter : List ℕ → Type 0
IsCharacter pair = ¬ (IsSurrogate (unit_at pair))

-- what is known once i pairs were looked at
abbrev pub Looked : List (List ℕ) → ℕ → Bool → Type 0
Looked pairs i found = MatchBool found (¬ (All IsCharacter pairs)) (All IsCharacter (take i pairs))

pub one_more : (pairs : List (List ℕ)) (i unit : ℕ) (found now : Bool) → i < length pairs → unit ≡ unit_at (get_or pairs i []) → (IsTrue now ↔ IsSurrogate unit) → Looked pairs i found → Looked pairs (i + 1) (found || now)
one_more pairs i unit true now h u s l = l
one_more pairs i unit false true h u s l = λ all. All-get_or IsCharacter pairs i [] h all (subst IsSurrogate u (s.0 refl))
one_more pairs i unit false false h u s l = All-more IsCharacter pairs i [] h l (λ is. true≢false (sym (s.1 (subst IsSurrogate (sym u) is))))

length_units : (units : List ℕ) → length (flat_map unit_octets units) ≡ 2 * length units
length_units [] = refl
length_units (u ∷ us) = omega (arith, length_units us)

pub is_even : (octets : List ℕ) → IsBmp octets → length octets % 2 ≡ 0
is_even octets b = omega (arith, ap length b.is, length_units b.units)

in_pairs : (n : ℕ) (octets : List ℕ) → length octets ≡ 2 * n → ((i : ℕ) → get_or octets i 0 < 256) → All IsCharacter (first_chunks 2 n octets) ↔ IsBmp octets
in_pairs zero [] size bytes = (λ _. IsBmp-nil, λ _. All-nil IsCharacter)
in_pairs zero (a ∷ r) size bytes = absurd (omega (arith, size))
in_pairs (suc n) [] size bytes = absurd (omega (arith, size))
in_pairs (suc n) (a ∷ []) size bytes = absurd (omega (arith, size))
in_pairs (suc n) (a ∷ b ∷ r) size bytes =
    let after = in_pairs n r (omega (arith, size)) (λ i. bytes (suc (suc i))) in
    let pairs = first_chunks 2 n r in
    let high : a < 256 = bytes 0 in
    let low : b < 256 = bytes 1 in (
      λ each. IsBmp-more a b r (record {
        first = (omega arith, All-head IsCharacter (a ∷ b ∷ []) pairs each);
        high_octet = high;
        low_octet = low;
        others = after.0 (All-tail IsCharacter (a ∷ b ∷ []) pairs each);
      }),
      λ is. let f = IsBmp-first a b r is in All-cons IsCharacter (a ∷ b ∷ []) pairs f.first.1 (after.1 f.others),
    )

-- the pairs, and the octet after them, if there is one
pub record Split (octets : List ℕ) (pairs : List (List ℕ)) (odd : List ℕ) : Type 0 where
  pub bytes : (i : ℕ) → get_or octets i 0 < 256
  pub front : pairs ≡ first_chunks 2 (length octets / 2) octets
  pub back : length odd ≡ length octets % 2

module _ (octets : List ℕ) (pairs : List (List ℕ)) (odd : List ℕ) (s : Split octets pairs odd) where
  is_pairs : length octets % 2 ≡ 0 → All IsCharacter pairs ↔ IsBmp octets
  is_pairs e = rw s.front (in_pairs (length octets / 2) octets (omega (arith, e)) s.bytes)

  -- a surrogate was found
  pub none : (i : ℕ) (found : Bool) → found ≡ true → Looked pairs i found → IsTrue (not found) ↔ IsBmp octets
  none i false e l = absurd cc
  none i true e l = (λ t. absurd cc, λ b. absurd (l ((is_pairs (is_even octets b)).1 b)))

  -- none was found
  pub only : (i : ℕ) (found empty : Bool) → found ≡ false → length pairs ≤ i → Looked pairs i found → empty ≡ (length odd == 0) → IsTrue empty ↔ IsBmp octets
  only i true empty f end l e = absurd cc
  only i false empty f end l e =
      let all : All IsCharacter pairs = subst (All IsCharacter) (take_all i pairs end) l in
      let back = s.back in (
        λ t. let even : length octets % 2 ≡ 0 = grind (arith, nat_tests) in (is_pairs even).0 all,
        λ b. let even : length octets % 2 ≡ 0 = is_even octets b in grind (arith, nat_tests),
      )
