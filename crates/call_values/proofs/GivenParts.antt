-- Parts that are given: of what isn't there nothing larger is made, and a range has one content.
use Rattle.std.specs.Prelude.{◌≡◌, ◌≢◌, ℕ, List, None, Some}
use Rattle.std.proofs.Common.{sym, ◌∙◌}
use Rattle.call_values.specs.Given.{HasNone, IfGiven, IsPartOf}
use Rattle.call_values.specs.Read.{HasOne, IsUnread, IsUnreadOf}
use Rattle.call_values.specs.declared.not_built.NotBuilt.{NotBuilt}
use Rattle.call_values.specs.declared.not_built.NotBuilt.TheVariants.{Part, Refused}
use Rattle.call_values.specs.declared.ranges.Octets.{Octets}

pub none_if : {X : Type 0} (flag : ℕ) (P : X → Type 0) → flag ≢ 0 → HasNone P → HasNone (IfGiven flag P)
none_if flag P given none None is = given is
none_if flag P given none (Some x) is = none x is.1

-- what is refused refuses what takes it
pub by_less : (P Q : Type 0) (w : NotBuilt) → (Q → P) → IsUnread P w → IsUnread Q w
by_less P Q (Part n) f none = λ q. none (f q)
by_less P Q (Refused e) f m = m

-- a range of an input has one content
pub same_part : (b : List ℕ) (r : Octets) (x y : List ℕ) → IsPartOf b r x → IsPartOf b r y → y ≡ x
same_part b r x y p q = q.1 ∙ sym p.1

-- a part that is there only if a flag isn't 0
pub if_some : {X : Type 0} (flag : ℕ) (P : X → Type 0) → flag ≢ 0 → HasOne (IfGiven flag P) → HasOne P
if_some flag P some (None, is) = absurd (some is)
if_some flag P some (Some x, is) = (x, is.1)

-- what isn't read, of any part
pub of_any : (P : Type 0) (w : NotBuilt) → IsUnread P w → IsUnreadOf (λ _. Unit {0}) P w
of_any P (Part n) none = (tt, none)
of_any P (Refused e) m = m

-- what is refused for a part refuses what takes it for that part
pub by_part : (Wrong : ℕ → Type 0) (P Q : Type 0) (w : NotBuilt) → (Q → P) → IsUnreadOf Wrong P w → IsUnreadOf Wrong Q w
by_part Wrong P Q (Part n) f is = (is.0, λ q. is.1 (f q))
by_part Wrong P Q (Refused e) f m = m
