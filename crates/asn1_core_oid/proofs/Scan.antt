-- Going over contents octets, byte by byte.
use Rattle.std.proofs.Common.{◌≡◌, ◌↔◌, ℕ, suc, ◌+◌, ◌<◌, ◌≤◌, Bool, true, false, not, List, [], ◌∷◌, length, get_or, drop, sym, ap, ◌∙◌, arith}
use Rattle.std.specs.Int.Digits.{AllBelowBase}
use Rattle.std.proofs.lemmas.List.{drop_more, drop_all, nil_from_length}
use Rattle.std.proofs.lemmas.Bool.{false≢true}
use Rattle.asn1_core_oid.specs.Oid.{IsOid}
use Rattle.asn1_core_oid.specs.OidTest.{ends_groups}
use Rattle.asn1_core_oid.specs.laws.OidTestLaws.{is_oid_from, ends_from_oid, some_from_oid}

-- bytes are below 256
pub all_bytes : (os : List ℕ) → ((i : ℕ) → get_or os i 0 < 256) → AllBelowBase 256 os
all_bytes [] h = tt
all_bytes (o ∷ os) h = (h 0, all_bytes os (λ i. h (suc i)))

-- what going over the octets as far as i tells of them
module _ (os : List ℕ) (i : ℕ) (inside : Bool) (e : ends_groups inside (drop i os) ≡ ends_groups false os) where
  pub not_at_leading_zero : i < length os → get_or os i 0 ≡ 128 → inside ≡ false → IsOid os → ⊥
  not_at_leading_zero h z f s =
      let d : drop i os ≡ 128 ∷ drop (i + 1) os = drop_more os i 0 h ∙ ap (λ o. o ∷ drop (i + 1) os) z in
      false≢true (ap (λ b. ends_groups b (128 ∷ drop (i + 1) os)) (sym f) ∙ ap (ends_groups inside) (sym d) ∙ e ∙ ends_from_oid os s)

  pub at_end : ((k : ℕ) → get_or os k 0 < 256) → 0 < length os → length os ≤ i → (not inside ≡ true) ↔ IsOid os
  at_end h s l =
      let f : ends_groups false os ≡ not inside = sym e ∙ ap (ends_groups inside) (drop_all i os l) in
      (λ t. is_oid_from os (all_bytes os h) (λ n. omega (arith, s, ap length n)) (f ∙ t), λ o. sym f ∙ ends_from_oid os o)

pub not_empty : (os : List ℕ) → length os ≡ 0 → IsOid os → ⊥
not_empty os e s = some_from_oid os s (nil_from_length os e)
