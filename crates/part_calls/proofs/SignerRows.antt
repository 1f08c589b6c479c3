-- From the ranges of signers to their rows and a status.
use Rattle.std.proofs.Common.{◌≡◌, ℕ, ◌≤◌, List, [], ◌∷◌, ◌++◌, Option, length, take, drop, map, ap, arith, rules, zero, suc}
use Rattle.signer_ranges.specs.Signers.{AreFound, AreRangesOfAll, FileValue, HasNoRange, IsRefusal, SignerValue, signers_of, signed_file}
use Rattle.signer_ranges.specs.declared.ranges.SignerRanges.{SignerRanges}
use Rattle.input_ranges.specs.declared.ranges.Refusal.{Refusal}
use Rattle.call_values.proofs.Statuses.{IsRefusedFor, refusal_bounds, refusal_place, refusal_says, refused_ranges}
use Rattle.part_calls.specs.Signers.{FindsSigners, signer_row, without_signers}
use Rattle.call_values.specs.Statuses.{place_of, status_of_refusal, IsPlace, SaysWhy}
use Rattle.part_calls.specs.declared.signers.Signer.{Signer}

take_fits : {X : Type 0} (n : ℕ) (xs : List X) → length (take n xs) ≤ n
take_fits zero xs = omega arith
take_fits (suc n) [] = omega arith
take_fits (suc n) (x ∷ xs) = omega (arith, take_fits n xs)

-- a row for each signer
as_many : (b : List ℕ) (v : FileValue) (ss : List SignerValue) (found : List (Option SignerRanges)) → AreRangesOfAll b v ss found → length found ≡ length ss
as_many b v [] found a = ap length a
as_many b v (s ∷ ss) [] a = absurd a
as_many b v (s ∷ ss) (r ∷ found) a = let e : length found ≡ length ss = as_many b v ss found a.1 in omega (arith, e)

module _ (b : List ℕ) (first : ℕ) (old : List Signer) where
  pub rows_fit : (count : ℕ) (found : List (Option SignerRanges)) → AreFound b first (length old) count found → length found ≤ length old
  rows_fit count found a = omega (arith, as_many b a.value (take (length old) (drop first (signers_of a.value))) found a.part.ranges, take_fits (length old) (drop first (signers_of a.value)))

  pub rows_found : (count : ℕ) (found : List (Option SignerRanges)) (new : List Signer) → AreFound b first (length old) count found → new ≡ map signer_row found ++ drop (length found) old → FindsSigners b first old new count 0 0
  rows_found count found new a w = search rules

  pub signers_refused : (e : Refusal) (place status : ℕ) → place ≡ place_of e → status ≡ status_of_refusal e → IsRefusal b (HasNoRange b first (length old)) e → FindsSigners b first old old 0 place status
  signers_refused e place status p s why =
      let W = without_signers b first (length old) in
      let range = refusal_bounds e status s in
      let refused : IsRefusedFor W b e = refused_ranges signed_file W b (HasNoRange b first (length old)) tt (λ none. none) (λ lacks. lacks) e why in
      let says : SaysWhy W status = refusal_says W b e status s refused in
      let at : IsPlace b place status = refusal_place W b e place status p s refused in
      search rules
