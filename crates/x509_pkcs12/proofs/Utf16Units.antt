-- Octets that a loop takes two by two.
use Rattle.std.proofs.Common.{◌≡◌, ℕ, ◌+◌, ◌-◌, ◌*◌, ◌<◌, ◌≤◌, List, [], ◌∷◌, ◌++◌, length, take, drop, get_or, sym, ap, ◌∙◌, arith}
use Rattle.std.proofs.lemmas.List.{append_assoc, append-nil, take_all}
use Rattle.x509_pkcs12.specs.Utf16.{units_of}

pub one_more : (all units new rest : List ℕ) (u : ℕ) → 2 ≤ length rest → u ≡ get_or rest 0 0 * 256 + get_or rest 1 0 → new ≡ units ++ u ∷ [] → units ++ units_of rest ≡ units_of all
    → new ++ units_of (take (length rest - 2) (drop 2 rest)) ≡ units_of all
one_more all units new [] u some is n so_far = absurd (omega (arith, some))
one_more all units new (a ∷ []) u some is n so_far = absurd (omega (arith, some))
one_more all units new (high ∷ low ∷ after) u some is n so_far =
    let size : length (high ∷ low ∷ after) - 2 ≡ length after = omega arith in
    rw (size, take_all (length after) after (omega arith))
    (ap (λ us. us ++ units_of after) n ∙ append_assoc units (u ∷ []) (units_of after) ∙ ap (λ v. units ++ (v ∷ units_of after)) is ∙ so_far)

-- no octet alone is a unit
pub all_taken : (all units rest : List ℕ) → length rest < 2 → units ++ units_of rest ≡ units_of all → units ≡ units_of all
all_taken all units [] short so_far = sym (append-nil units) ∙ so_far
all_taken all units (a ∷ []) short so_far = sym (append-nil units) ∙ so_far
all_taken all units (a ∷ b ∷ r) short so_far = absurd (omega (arith, short))
