-- An object identifier's octets have one list of groups.
use Rattle.std.proofs.Common.{◌≡◌, ◌≢◌, ℕ, ◌+◌, ◌-◌, ◌*◌, ◌/◌, ◌%◌, ◌<◌, cond, ltb, List, [], ◌∷◌, ◌++◌, map, refl, sym, ap, ◌∙◌, arith, append_assoc}
use mathlib.Core.HLevel.{Σ_prop_path}
use Rattle.std.specs.Coded.{Coded-set, coded_list, coded_ℕ}
use Rattle.std.specs.List.{flat_map}
use Rattle.std.specs.Int.Digits.{digits_of, number_from_digits_after}
use Rattle.std.proofs.lemmas.Int.Digits.{number_digits_of}
use Rattle.std.proofs.lemmas.Bool.{lt-ltb, le-ltb}
use Rattle.asn1_core_oid.specs.Oid.{base128, IsOid}

-- the numbers of the groups, the first of which goes on from n
abbrev pub groups_after : ℕ → List ℕ → List ℕ
groups_after n [] = []
groups_after n (o ∷ os) = cond (ltb o 128) ((n * 128 + o) ∷ groups_after 0 os) (groups_after (n * 128 + (o - 128)) os)

groups_after_end : (n o : ℕ) (os : List ℕ) → o < 128 → groups_after n (o ∷ os) ≡ (n * 128 + o) ∷ groups_after 0 os
groups_after_end n o os h = rw (lt-ltb o 128 h) refl

groups_after_more : (n d : ℕ) (os : List ℕ) → groups_after n ((128 + d) ∷ os) ≡ groups_after (n * 128 + d) os
groups_after_more n d os =
    let e : 128 + d - 128 ≡ d = omega arith in
    rw (le-ltb (128 + d) 128 (omega arith), e) refl

groups_after_digits : (n : ℕ) (ds os : List ℕ) → groups_after n (map (λ d. 128 + d) ds ++ os) ≡ groups_after (number_from_digits_after 128 n ds) os
groups_after_digits n [] os = refl
groups_after_digits n (d ∷ ds) os = groups_after_more n d (map (λ d. 128 + d) ds ++ os) ∙ groups_after_digits (n * 128 + d) ds os

pub groups_after-base128 : (n : ℕ) (os : List ℕ) → groups_after 0 (base128 n ++ os) ≡ n ∷ groups_after 0 os
groups_after-base128 n os =
    ap (groups_after 0) (append_assoc (map (λ d. 128 + d) (digits_of 128 (n / 128))) (n % 128 ∷ []) os)
    ∙ groups_after_digits 0 (digits_of 128 (n / 128)) (n % 128 ∷ os)
    ∙ ap (λ m. groups_after m (n % 128 ∷ os)) (number_digits_of 128 (n / 128) (omega arith))
    ∙ groups_after_end (n / 128) (n % 128) os (omega arith)
    ∙ ap (λ m. m ∷ groups_after 0 os) (omega arith)

-- the octets of groups determine the groups
pub groups_after-flat_map : (groups : List ℕ) → groups_after 0 (flat_map base128 groups) ≡ groups
groups_after-flat_map [] = refl
groups_after-flat_map (n ∷ groups) = groups_after-base128 n (flat_map base128 groups) ∙ ap (λ gs. n ∷ gs) (groups_after-flat_map groups)

pub same_groups : (gs hs : List ℕ) → flat_map base128 gs ≡ flat_map base128 hs → gs ≡ hs
same_groups gs hs e = sym (groups_after-flat_map gs) ∙ ap (groups_after 0) e ∙ groups_after-flat_map hs

-- octets have one list of groups
pub one_groups : {octets : List ℕ} (p q : IsOid octets) → p.groups ≡ q.groups
one_groups p q = same_groups p.groups q.groups (sym p.spelled ∙ q.spelled)

-- that octets are an object identifier's has one proof
pub IsOid-prop : (octets : List ℕ) → IsProp (IsOid octets)
IsOid-prop octets p q =
    let P : List ℕ → Type 0 = λ gs. (gs ≢ []) × (octets ≡ flat_map base128 gs) in
    let one : (gs : List ℕ) → IsProp (P gs) = λ gs. hlevel (Coded-set (coded_list coded_ℕ)) in
    let s : (gs : List ℕ) × P gs = (p.groups, (p.some, p.spelled)) in
    let t : (gs : List ℕ) × P gs = (q.groups, (q.some, q.spelled)) in
    let f : (gs : List ℕ) × P gs → IsOid octets = λ u. record { groups = u.0; some = u.1.0; spelled = u.1.1 } in
    let path : s ≡ t = Σ_prop_path one (one_groups p q) in
    ap f path
