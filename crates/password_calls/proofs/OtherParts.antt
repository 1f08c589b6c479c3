-- An algorithm that is given with its parameters: a part that can't be written refuses it.
use Rattle.std.specs.Prelude.{◌≡◌, ℕ, List}
use Rattle.std.proofs.Common.{subst, sym}
use Rattle.call_values.specs.Given.{HasNone, IfGiven, IsElementOf, IsOidOf}
use Rattle.password_calls.specs.Others.{IsOtherOf, IsWrongOther, other_algorithm, other_parameters}
use Rattle.call_values.specs.declared.ranges.Octets.{Octets}

module _ (b : List ℕ) (oid : Octets) (k flag : ℕ) (parameters : Octets) (m n : ℕ) where
  pub wrong_oid : (n ≡ k) × HasNone (IsOidOf b oid) → IsWrongOther b oid k flag parameters m n × HasNone (IsOtherOf b oid flag parameters)
  wrong_oid e = (subst (IsWrongOther b oid k flag parameters m) (sym e.0) (other_algorithm e.1), λ w is. e.1 w.0 is.algorithm)

  pub wrong_element : (n ≡ m) × HasNone (IfGiven flag (IsElementOf b parameters)) → IsWrongOther b oid k flag parameters m n × HasNone (IsOtherOf b oid flag parameters)
  wrong_element e = (subst (IsWrongOther b oid k flag parameters m) (sym e.0) (other_parameters e.1), λ w is. e.1 w.1.0 is.parameters_are)
