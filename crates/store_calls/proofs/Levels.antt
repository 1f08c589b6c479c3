-- SafeContents in one another.
use Rattle.std.specs.Prelude.{◌≡◌, ◌≢◌, ◌<◌, ◌-◌, ℕ, zero, suc, List, length, map, slice_index_or, Result, Ok, Err, MatchResult}
use Rattle.std.specs.List.{AllByRecursion, Contains}
use Rattle.std.proofs.Common.{ap, arith, refl, subst, sym, ◌∙◌}
use Rattle.std.proofs.lemmas.List.{get_or-map, length-map}
use Rattle.std.proofs.lemmas.List.Elements.{All-contains, All-from_recursion}
use Rattle.asn1_core.specs.Der.{IsValueOf}
use Rattle.bag_writers.specs.Written.{SAFE}
use Rattle.store_calls.specs.Levels.{HasLevels, IsLevel}
use Rattle.call_values.specs.Read.{IsReadAs, IsUnreadAt}
use Rattle.call_values.specs.declared.not_built.NotBuilt.{NotBuilt}
use Rattle.call_values.specs.declared.not_built.NotBuilt.TheVariants.{Part, Refused}
use Rattle.x509_pkcs12.specs.RawBags.{raw_safe_bag, raw_safe_bag_value, raw_safe_contents}
use Rattle.x509_pkcs12.specs.declared.raw_bags.RawSafeBag.{RawSafeBag}

module _ (x : List ℕ) (bags : raw_safe_contents.Value) where
  has_levels : (levels : ℕ) → levels ≢ 0 → SAFE.format.Reads 64 x bags → AllByRecursion (IsLevel (HasLevels (levels - 1))) bags → HasLevels levels x
  has_levels zero some reads all = absurd (some refl)
  has_levels (suc below) some reads all =
      let same : suc below - 1 ≡ below = omega arith in
      (bags, reads, subst (λ n. AllByRecursion (IsLevel (HasLevels n)) bags) same all)

  all_levels : (levels : ℕ) → levels ≢ 0 → IsValueOf SAFE.format 64 x bags → HasLevels levels x → AllByRecursion (IsLevel (HasLevels (levels - 1))) bags
  all_levels zero some read h = absurd h
  all_levels (suc below) some read (others, reads, all) =
      let same : suc below - 1 ≡ below = omega arith in
      let its = subst (AllByRecursion (IsLevel (HasLevels below))) (read.only others reads) all in
      subst (λ n. AllByRecursion (IsLevel (HasLevels n)) bags) (sym same) its

  -- what refuses its bags refuses it
  lacks_levels : (number levels : ℕ) (w : NotBuilt) → levels ≢ 0 → IsValueOf SAFE.format 64 x bags → IsUnreadAt number (AllByRecursion (IsLevel (HasLevels (levels - 1))) bags) w → IsUnreadAt number (HasLevels levels x) w
  lacks_levels number levels (Part n) some read is = (is.0, λ h. is.1 (all_levels levels some read h))
  lacks_levels number levels (Refused e) some read m = m

  pub levels_read : {A : Type 0} (number levels : ℕ) → levels ≢ 0 → IsValueOf SAFE.format 64 x bags → (r : Result A NotBuilt) → MatchResult r (λ _. AllByRecursion (IsLevel (HasLevels (levels - 1))) bags) (λ w. IsUnreadAt number (AllByRecursion (IsLevel (HasLevels (levels - 1))) bags) w) → MatchResult r (λ _. HasLevels levels x) (λ w. IsUnreadAt number (HasLevels levels x) w)
  levels_read number levels some read (Ok y) h = has_levels levels some read.reads h
  levels_read number levels some read (Err w) h = lacks_levels number levels w some read h

-- what reads as none has none
pub unread_levels : (x : List ℕ) (number levels : ℕ) (w : NotBuilt) → IsUnreadAt number (IsReadAs SAFE.format x) w → IsUnreadAt number (HasLevels levels x) w
unread_levels x number zero (Part n) is = (is.0, λ h. h)
unread_levels x number (suc below) (Part n) is = (is.0, λ h. is.1 (h.0, h.1))
unread_levels x number zero (Refused e) m = m
unread_levels x number (suc below) (Refused e) m = m

-- a bag of some, by its index
a_bag : (bags : List RawSafeBag) (i : ℕ) (bag : RawSafeBag) → i < length bags → bag ≡ slice_index_or bags i bag → Contains (map raw_safe_bag_value bags) (raw_safe_bag_value bag)
a_bag bags i bag l is = (i, (omega (arith, l, length-map bags raw_safe_bag_value)), get_or-map raw_safe_bag_value bags i bag (raw_safe_bag_value bag) l ∙ ap raw_safe_bag_value (sym is))

-- where one has too many, not all fit
pub not_all : (number : ℕ) (P : raw_safe_bag.Value → Type 0) (bags : List RawSafeBag) (i : ℕ) (bag : RawSafeBag) (w : NotBuilt) → i < length bags → bag ≡ slice_index_or bags i bag → IsUnreadAt number (P (raw_safe_bag_value bag)) w → IsUnreadAt number (AllByRecursion P (map raw_safe_bag_value bags)) w
not_all number P bags i bag (Part n) l is none = (none.0, λ all. none.1 (All-contains P (map raw_safe_bag_value bags) (raw_safe_bag_value bag) (All-from_recursion P (map raw_safe_bag_value bags) all) (a_bag bags i bag l is)))
not_all number P bags i bag (Refused e) l is m = m
