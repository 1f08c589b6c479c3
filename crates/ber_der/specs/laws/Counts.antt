-- Laws of `Counts.antt`.
use Rattle.std.proofs.Common.{ℕ, Bool, zero, suc, ◌+◌, ◌*◌, ◌≤◌, List, [], ◌∷◌, length, get_or, ap, ⊎_elim, inl, inr, arith, length-append}
use Rattle.ber_der.specs.Contexts.{role_in, context_after, context_inside}
use Rattle.ber_der.specs.Ber.{IsDefinite, IsIndefinite, IsConstructed, IsBerWith, Holds}
use Rattle.ber_der.specs.laws.BerLaws.{definite_long, indefinite_long}
use Rattle.ber_der.specs.declared.contexts.Role.{Role}
use Rattle.ber_der.specs.declared.contexts.Context.{Context}
use Rattle.ber_der.specs.Counts.{elements, elements_inside}

module _ (R : Role → List ℕ → List ℕ → Type 0) (count : (role : Role) (b d : List ℕ) → R role b d → ℕ) (few : (role : Role) (b d : List ℕ) (p : R role b d) → 2 * count role b d p ≤ length b) where
  few_held : (context : Context) (c : List ℕ) (ds : List (List ℕ)) (h : Holds R context c ds) → 2 * elements_inside R count context c ds h ≤ length c
  few_held context c [] h = omega arith
  few_held context c (d ∷ ds) h = omega (arith, ap length h.2, length-append h.0 h.1, few (role_in context h.0) h.0 d h.3, few_held (context_after context (get_or h.0 0 0)) h.1 ds h.4)

  few_constructed : (joins : Bool) (role : Role) (b d : List ℕ) (h : IsConstructed joins R role b d) → 2 * (1 + elements_inside R count (context_inside role h.tag) h.contents h.ders h.holds) ≤ length b
  few_constructed joins role b d h =
      let l : 2 * elements_inside R count (context_inside role h.tag) h.contents h.ders h.holds ≤ length h.contents = few_held (context_inside role h.tag) h.contents h.ders h.holds in
      ⊎_elim (λ (i : IsDefinite b h.tag h.contents). omega (arith, l, definite_long i)) (λ (i : IsIndefinite b h.tag h.contents). omega (arith, l, indefinite_long b h.contents h.tag i)) h.is

-- an encoding has at most half as many elements as bytes
pub few_elements : (joins : Bool) (k : ℕ) (role : Role) (b d : List ℕ) (p : IsBerWith joins k role b d) → 2 * elements joins k role b d p ≤ length b
unfolding IsBerWith elements
few_elements joins zero role b d p = omega (arith, definite_long p.is)
few_elements joins (suc k) role b d p =
    elim p as (λ q. 2 * elements joins (suc k) role b d q ≤ length b) [
      | inl h ↦ omega (arith, definite_long h.is)
      | inr h ↦ few_constructed (IsBerWith joins k) (elements joins k) (few_elements joins k) joins role b d h
    ]
