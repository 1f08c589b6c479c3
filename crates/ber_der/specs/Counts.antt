-- How many elements an encoding has.
use Rattle.std.proofs.Common.{ℕ, Bool, zero, suc, ◌+◌, List, [], ◌∷◌, get_or, ⊎_elim}
use Rattle.ber_der.specs.Contexts.{role_in, context_after, context_inside}
use Rattle.ber_der.specs.Ber.{IsPrimitive, IsConstructed, IsBerWith, Holds}
use Rattle.ber_der.specs.declared.contexts.Role.{Role}
use Rattle.ber_der.specs.declared.contexts.Context.{Context}

-- those of the encodings in contents
abbrev pub elements_inside : (R : Role → List ℕ → List ℕ → Type 0) → ((role : Role) (b d : List ℕ) → R role b d → ℕ) → (context : Context) (c : List ℕ) (ds : List (List ℕ)) → Holds R context c ds → ℕ
elements_inside R count context c [] h = 0
elements_inside R count context c (d ∷ ds) h = count (role_in context h.0) h.0 d h.3 + elements_inside R count (context_after context (get_or h.0 0 0)) h.1 ds h.4

-- the encoding itself, and those that it holds
unfoldable pub elements : (joins : Bool) (k : ℕ) (role : Role) (b d : List ℕ) → IsBerWith joins k role b d → ℕ
unfolding IsBerWith
elements joins zero role b d p = 1
elements joins (suc k) role b d p =
    ⊎_elim (λ (h : IsPrimitive joins role b d). 1) (λ (h : IsConstructed joins (IsBerWith joins k) role b d). 1 + elements_inside (IsBerWith joins k) (elements joins k) (context_inside role h.tag) h.contents h.ders h.holds) p
