-- Escapes are read back.
use Rattle.std.proofs.Common.{◌≡◌, ℕ, List, [], ◌∷◌, ◌++◌, Bool, false, refl, ap, ◌∙◌, arith}
use Rattle.std.proofs.lemmas.Bool.Decides.{nat_tests}
use Rattle.x509_text.specs.Escapes.{is_nil, escaped, escape_from, unescape_from}

one_back : (is_first is_last : Bool) (c : ℕ) (t : List ℕ) → unescape_from 0 (escaped is_first is_last c ++ t) ≡ c ∷ unescape_from 0 t
one_back is_first is_last c t = grind (arith, nat_tests)

pub all_back : (is_first : Bool) (cs : List ℕ) → unescape_from 0 (escape_from is_first cs) ≡ cs
all_back is_first [] = refl
all_back is_first (c ∷ cs) = one_back is_first (is_nil cs) c (escape_from false cs) ∙ ap (λ l. c ∷ l) (all_back false cs)
