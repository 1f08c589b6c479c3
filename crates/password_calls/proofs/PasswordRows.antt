-- From the ranges of an algorithm that encrypts with a password to what a call answers.
use Rattle.std.specs.Prelude.{◌≡◌, ◌≢◌, ℕ, List}
use Rattle.std.proofs.Common.{arith, refl}
use Rattle.call_values.proofs.Statuses.{IsRefusedFor, refusal_bounds, refusal_place, refusal_says, refused_ranges}
use Rattle.password_calls.specs.Passwords.{FindsParameters, HasParts, IsHolderRefusal, no_password, number_of, without_parameters}
use Rattle.call_values.specs.Statuses.{place_of, status_of_refusal}
use Rattle.password_calls.specs.declared.passwords.Holder.{Holder}
use Rattle.password_calls.specs.declared.passwords.Holder.TheVariants.{Algorithm, Key, Contents}
use Rattle.password_calls.specs.declared.passwords.Password.{Password}
use Rattle.input_ranges.specs.declared.ranges.Refusal.{Refusal}
use Rattle.password_ranges.specs.Heads.{ALGORITHM}
use Rattle.password_ranges.specs.Holders.{encrypted_info, encrypted_key}

-- a number of none
pub no_holder_number : (n : ℕ) → n ≢ 0 → n ≢ 1 → n ≢ 2 → (holder : Holder) → n ≢ number_of holder
no_holder_number n a b c Algorithm e = a e
no_holder_number n a b c Key e = b e
no_holder_number n a b c Contents e = c e

module _ (number : ℕ) (b : List ℕ) where
  pub parameters_found : (holder : Holder) (new : Password) → number ≡ number_of holder → HasParts holder b new → FindsParameters number b new 0 0
  parameters_found holder new is has = record {
    found = λ _. (holder, is, has);
    why = record {
      unknown = λ h. absurd (omega (arith, h));
      refused = λ low high. absurd (omega (arith, low));
      long = λ h. absurd (omega (arith, h));
      memory = λ h. absurd (omega (arith, h));
      no_range = λ h. absurd (omega (arith, h));
      absent = λ h. absurd (omega (arith, h));
    };
    none = λ n. absurd (n refl);
    at = record { inside = omega arith; none = λ _. refl };
    range = (λ h. omega (arith, h), (λ h. omega (arith, h), omega arith));
  }

  pub no_holder : ((holder : Holder) → number ≢ number_of holder) → FindsParameters number b no_password 0 2
  no_holder none = record {
    found = λ h. absurd (omega (arith, h));
    why = record {
      unknown = λ _. none;
      refused = λ low high. absurd (omega (arith, low));
      long = λ h. absurd (omega (arith, h));
      memory = λ h. absurd (omega (arith, h));
      no_range = λ h. absurd (omega (arith, h));
      absent = λ h. absurd (omega (arith, h));
    };
    none = λ _. refl;
    at = record { inside = omega arith; none = λ _. refl };
    range = (λ h. omega (arith, h), (λ h. omega (arith, h), omega arith));
  }

  refused_for : (holder : Holder) → number ≡ number_of holder → (e : Refusal) → IsHolderRefusal holder b e → IsRefusedFor (without_parameters number b) b e
  refused_for Algorithm is e why = refused_ranges ALGORITHM.format (without_parameters number b) b ⊥ tt (λ none. (Algorithm, is, none)) (λ lacks. lacks) e why
  refused_for Key is e why = refused_ranges encrypted_key (without_parameters number b) b ⊥ tt (λ none. (Key, is, none)) (λ lacks. lacks) e why
  refused_for Contents is e why = refused_ranges encrypted_info (without_parameters number b) b ⊥ tt (λ none. (Contents, is, none)) (λ lacks. lacks) e why

  pub parameters_refused : (holder : Holder) (e : Refusal) (place status : ℕ) → number ≡ number_of holder → place ≡ place_of e → status ≡ status_of_refusal e → IsHolderRefusal holder b e → FindsParameters number b no_password place status
  parameters_refused holder e place status is p s why =
      let range = refusal_bounds e status s in
      let W = without_parameters number b in
      let refused : IsRefusedFor W b e = refused_for holder is e why in
      record {
        found = λ h. absurd (omega (arith, h, range.0));
        why = refusal_says W b e status s refused;
        none = λ _. refl;
        at = refusal_place W b e place status p s refused;
        range = (λ h. omega (arith, h, range.0), (range.1, omega (arith, range.2)));
      }
