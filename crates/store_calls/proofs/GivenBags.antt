-- Bags as they are given: what can't be written gives none.
use Rattle.std.specs.Prelude.{◌≡◌, ◌≢◌, ℕ, List, [], Option, None, Some, Result, Ok, Err, MatchResult, ◌<◌}
use Rattle.std.proofs.Common.{arith, refl, subst, sym, ◌∙◌}
use Rattle.asn1_core.specs.Der.{Octets as OctetList}
use Rattle.bag_writers.specs.declared.held.Held.{Held}
use Rattle.bag_writers.specs.declared.held.Held.TheVariants.{Key, ShroudedKey, Certificate, Crl, Secret, SafeContents, Other}
use Rattle.call_values.proofs.GivenParts.{by_part, if_some, same_part}
use Rattle.store_calls.specs.BuiltBags.{GivesBag, IsAsItsKind, IsAsKind, IsHeldBy, IsHeldOf, IsIdOf, IsNameOf, IsOtherId, IsWrongBag, bag_attributes, bag_friendly_name, bag_identifier, bag_kind, bag_local_key_id, bag_element, held_number, held_octets}
use Rattle.call_values.specs.Further.{AreFurther}
use Rattle.call_values.specs.Given.{HasNone, IfGiven, IsElementOf, IsOidOf, IsPartOf}
use Rattle.store_calls.specs.GivenBags.{IsChecked, IsIdIf}
use Rattle.call_values.specs.Read.{HasOne, IsUnreadAt, IsUnreadOf}
use Rattle.call_values.specs.declared.not_built.NotBuilt.{NotBuilt}
use Rattle.call_values.specs.declared.not_built.NotBuilt.TheVariants.{Part, Refused}
use Rattle.store_calls.specs.declared.built_bags.BagGiven.{BagGiven}
use Rattle.x509_base.specs.Names.{attribute}
use Rattle.x509_pkcs12.specs.Utf16.{IsUtf16}

any_read : (n : ℕ) (x : List ℕ) → n ≢ 2 → n ≢ 5 → n ≢ 6 → IsAsKind n x
any_read n x key secret safe = record { shrouded_key = λ e. absurd (key e); secret = λ e. absurd (secret e); safe_contents = λ e. absurd (safe e) }

by_number : (held : Held) → IsAsItsKind held → IsAsKind (held_number held) (held_octets held)
by_number (Key x) read = any_read 1 x.now (omega arith) (omega arith) (omega arith)
by_number (ShroudedKey x) read = record { shrouded_key = λ _. read; secret = λ e. absurd (omega (arith, e)); safe_contents = λ e. absurd (omega (arith, e)) }
by_number (Certificate x) read = any_read 3 x.now (omega arith) (omega arith) (omega arith)
by_number (Crl x) read = any_read 4 x.now (omega arith) (omega arith) (omega arith)
by_number (Secret x) read = record { shrouded_key = λ e. absurd (omega (arith, e)); secret = λ _. read; safe_contents = λ e. absurd (omega (arith, e)) }
by_number (SafeContents x) read = record { shrouded_key = λ e. absurd (omega (arith, e)); secret = λ e. absurd (omega (arith, e)); safe_contents = λ _. read }
by_number (Other id x) read = any_read 0 x.now (omega arith) (omega arith) (omega arith)

from_number : (held : Held) → IsAsKind (held_number held) (held_octets held) → IsAsItsKind held
from_number (Key x) k = tt
from_number (ShroudedKey x) k = k.shrouded_key refl
from_number (Certificate x) k = tt
from_number (Crl x) k = tt
from_number (Secret x) k = k.secret refl
from_number (SafeContents x) k = k.safe_contents refl
from_number (Other id x) k = tt

module _ (b : List ℕ) (row : BagGiven) where
  another : (n : ℕ) → row.kind ≡ n → n ≢ 0 → HasOne (IsIdIf b row)
  another n is not = ([], λ other. absurd (not (sym is ∙ other)))

  its_id : (held : Held) → row.kind ≡ held_number held → IsIdOf b row held → HasOne (IsIdIf b row)
  its_id (Key x) is id = another 1 is (omega arith)
  its_id (ShroudedKey x) is id = another 2 is (omega arith)
  its_id (Certificate x) is id = another 3 is (omega arith)
  its_id (Crl x) is id = another 4 is (omega arith)
  its_id (Secret x) is id = another 5 is (omega arith)
  its_id (SafeContents x) is id = another 6 is (omega arith)
  its_id (Other its x) is id = (its.now, λ _. id)

  no_kind : 6 < row.kind → (held : Held) → row.kind ≢ held_number held
  no_kind more (Key x) e = absurd (omega (arith, more, e))
  no_kind more (ShroudedKey x) e = absurd (omega (arith, more, e))
  no_kind more (Certificate x) e = absurd (omega (arith, more, e))
  no_kind more (Crl x) e = absurd (omega (arith, more, e))
  no_kind more (Secret x) e = absurd (omega (arith, more, e))
  no_kind more (SafeContents x) e = absurd (omega (arith, more, e))
  no_kind more (Other id x) e = absurd (omega (arith, more, e))

  pub wrong_kind : 6 < row.kind → IsWrongBag b row 1 × HasNone (IsHeldBy b row)
  wrong_kind more = (bag_kind (no_kind more), λ held is. no_kind more held is.kind)

  pub no_oid : (n : ℕ) → row.kind ≡ 0 → (n ≡ 2) × HasNone (IsOidOf b row.identifier) → (n ≡ 2) × (row.kind ≡ 0) × HasNone (IsOtherId b row)
  no_oid n is e = (e.0, is, λ id its. e.1 id its.0)

  pub wrong_id : (n : ℕ) → (n ≡ 2) × (row.kind ≡ 0) × HasNone (IsOtherId b row) → IsWrongBag b row n × HasNone (IsHeldBy b row)
  wrong_id n e = (subst (IsWrongBag b row) (sym e.0) (bag_identifier e.1 e.2), λ held is. let id = its_id held is.kind is.id in e.2 id.0 (id.1 e.1))

  pub wrong_value : (n : ℕ) → (n ≡ 3) × HasNone (IsElementOf b row.value) → IsWrongBag b row n × HasNone (IsHeldBy b row)
  wrong_value n e = (subst (IsWrongBag b row) (sym e.0) (bag_element (λ x is. e.1 x is.0)), λ held is. e.1 (held_octets held) is.value)

  -- of two that a row gives both read, or none
  pub same_kind : (held other : Held) → IsHeldBy b row held → IsHeldBy b row other → IsAsItsKind held → IsAsItsKind other
  same_kind held other by its_by read =
      let number : held_number held ≡ held_number other = sym by.kind ∙ its_by.kind in
      let octets : held_octets held ≡ held_octets other = same_part b row.value (held_octets other) (held_octets held) its_by.value.0 by.value.0 in
      from_number other (subst (λ n. IsAsKind n (held_octets other)) number (subst (IsAsKind (held_number held)) octets (by_number held read)))

  -- what a row gives isn't read as its kind says
  unlike : (held : Held) → IsHeldBy b row held → (IsAsItsKind held → ⊥) → (x : List ℕ) → IsElementOf b row.value x → IsAsKind row.kind x → ⊥
  unlike held by none x at read =
      let octets : x ≡ held_octets held = same_part b row.value (held_octets held) x by.value.0 at.0 in
      none (from_number held (subst (λ n. IsAsKind n (held_octets held)) by.kind (subst (IsAsKind row.kind) octets read)))

  value_unread : (held : Held) → IsHeldBy b row held → (w : NotBuilt) → IsUnreadAt 3 (IsAsItsKind held) w → IsUnreadOf (IsWrongBag b row) (HasOne (IsHeldOf b row)) w
  value_unread held by (Part n) is = (subst (IsWrongBag b row) (sym is.0) (bag_element (λ x its. unlike held by is.1 x its.0 its.1)), λ its. is.1 (same_kind its.0 held its.1.by by its.1.read))
  value_unread held by (Refused e) is = is

  pub value_checked : {A : Type 0} (held : Held) → IsHeldBy b row held → (r : Result A NotBuilt) → MatchResult r (λ _. IsAsItsKind held) (λ w. IsUnreadAt 3 (IsAsItsKind held) w) → MatchResult r (λ _. HasOne (IsHeldOf b row)) (λ w. IsUnreadOf (IsWrongBag b row) (HasOne (IsHeldOf b row)) w)
  value_checked held by (Ok y) read = (held, record { by = by; read = read })
  value_checked held by (Err w) none = value_unread held by w none

  pub no_value : (n : ℕ) → IsWrongBag b row n × HasNone (IsHeldBy b row) → IsUnreadOf (IsWrongBag b row) (HasOne (IsHeldOf b row)) (Part n)
  no_value n e = (e.0, λ its. e.1 its.0 its.1.by)

  -- what was looked at gives a bag
  pub gives : (further : List attribute.Value) → IsChecked b row further → GivesBag b row
  gives further c = record {
    held = c.held.0;
    name = c.friendly_name.0;
    key_id = c.local_key_id.0;
    further = further;
    given = record { held_is = c.held.1; friendly_name = c.friendly_name.1; local_key_id = c.local_key_id.1; attributes = c.attributes };
  }

  pub no_held : HasNone (IsHeldBy b row) → GivesBag b row → ⊥
  no_held none g = none g.held g.given.held_is.by

  a_name : (o : Option OctetList) → IfGiven row.has_friendly_name (IsNameOf b row.friendly_name) o → IfGiven row.has_friendly_name (IsPartOf b row.friendly_name) o
  a_name None is = is
  a_name (Some x) is = (is.0, is.1.0)

  pub no_name : HasNone (IfGiven row.has_friendly_name (IsPartOf b row.friendly_name)) → GivesBag b row → ⊥
  no_name none g = none g.name (a_name g.name g.given.friendly_name)

  pub no_key_id : HasNone (IfGiven row.has_local_key_id (IsPartOf b row.local_key_id)) → GivesBag b row → ⊥
  no_key_id none g = none g.key_id g.given.local_key_id

module _ (b : List ℕ) (row : BagGiven) where
  name_read : (x : List ℕ) → IsPartOf b row.friendly_name x → (y : List ℕ) → IsNameOf b row.friendly_name y → IsUtf16 x
  name_read x at y is = subst IsUtf16 (same_part b row.friendly_name x y at is.0) is.1

  no_name_read : row.has_friendly_name ≢ 0 → HasNone (IsNameOf b row.friendly_name) → HasNone (IfGiven row.has_friendly_name (IsNameOf b row.friendly_name))
  no_name_read some none o is = let its = if_some row.has_friendly_name (IsNameOf b row.friendly_name) some (o, is) in none its.0 its.1

  name_refused : (n : ℕ) → n ≡ 4 → HasNone (IfGiven row.has_friendly_name (IsNameOf b row.friendly_name)) → IsUnreadOf (IsWrongBag b row) (HasOne (IfGiven row.has_friendly_name (IsNameOf b row.friendly_name))) (Part n)
  name_refused n e none = (subst (IsWrongBag b row) (sym e) (bag_friendly_name none), λ has. none has.0 has.1)

  name_unread : (x : List ℕ) → row.has_friendly_name ≢ 0 → IsPartOf b row.friendly_name x → (w : NotBuilt) → IsUnreadAt 4 (IsUtf16 x) w → IsUnreadOf (IsWrongBag b row) (HasOne (IfGiven row.has_friendly_name (IsNameOf b row.friendly_name))) w
  name_unread x some at (Part n) h = name_refused n h.0 (no_name_read some (λ y is. h.1 (name_read x at y is)))
  name_unread x some at (Refused e) h = h

  pub name_checked : {A : Type 0} (x : List ℕ) → row.has_friendly_name ≢ 0 → IsPartOf b row.friendly_name x → (res : Result A NotBuilt) → MatchResult res (λ _. IsUtf16 x) (λ w. IsUnreadAt 4 (IsUtf16 x) w) → MatchResult res (λ _. HasOne (IfGiven row.has_friendly_name (IsNameOf b row.friendly_name))) (λ w. IsUnreadOf (IsWrongBag b row) (HasOne (IfGiven row.has_friendly_name (IsNameOf b row.friendly_name))) w)
  name_checked x some at (Ok y) h = (Some x, (some, (at, h)))
  name_checked x some at (Err w) h = name_unread x some at w h

  pub wrong_name : (n : ℕ) → row.has_friendly_name ≢ 0 → (n ≡ 4) × HasNone (IsPartOf b row.friendly_name) → IsUnreadOf (IsWrongBag b row) (HasOne (IfGiven row.has_friendly_name (IsNameOf b row.friendly_name))) (Part n)
  wrong_name n some e = name_refused n e.0 (no_name_read some (λ y is. e.1 y is.0))

  pub wrong_key_id : (n : ℕ) → (n ≡ 5) × HasNone (IfGiven row.has_local_key_id (IsPartOf b row.local_key_id)) → IsUnreadOf (IsWrongBag b row) (HasOne (IfGiven row.has_local_key_id (IsPartOf b row.local_key_id))) (Part n)
  wrong_key_id n e = (subst (IsWrongBag b row) (sym e.0) (bag_local_key_id e.1), λ has. e.1 has.0 has.1)

  -- what refuses a part of a bag refuses the bag
  pub held_unread : (w : NotBuilt) → IsUnreadOf (IsWrongBag b row) (HasOne (IsHeldOf b row)) w → IsUnreadOf (IsWrongBag b row) (GivesBag b row) w
  held_unread w = by_part (IsWrongBag b row) _ _ w (λ g. (g.held, g.given.held_is))

  pub a_name_unread : (w : NotBuilt) → IsUnreadOf (IsWrongBag b row) (HasOne (IfGiven row.has_friendly_name (IsNameOf b row.friendly_name))) w → IsUnreadOf (IsWrongBag b row) (GivesBag b row) w
  a_name_unread w = by_part (IsWrongBag b row) _ _ w (λ g. (g.name, g.given.friendly_name))

  pub key_id_unread : (w : NotBuilt) → IsUnreadOf (IsWrongBag b row) (HasOne (IfGiven row.has_local_key_id (IsPartOf b row.local_key_id))) w → IsUnreadOf (IsWrongBag b row) (GivesBag b row) w
  key_id_unread w = by_part (IsWrongBag b row) _ _ w (λ g. (g.key_id, g.given.local_key_id))

  further_unread : (w : NotBuilt) → IsUnreadAt 6 (HasOne (AreFurther b row.has_attributes row.attributes)) w → IsUnreadOf (IsWrongBag b row) (GivesBag b row) w
  further_unread (Part n) e = (subst (IsWrongBag b row) (sym e.0) (bag_attributes (λ all is. e.1 (all, is))), λ g. e.1 (g.further, g.given.attributes))
  further_unread (Refused e) is = is

  pub set_checked : {A : Type 0} (set : A → List attribute.Value) → HasOne (IsHeldOf b row) → HasOne (IfGiven row.has_friendly_name (IsNameOf b row.friendly_name)) → HasOne (IfGiven row.has_local_key_id (IsPartOf b row.local_key_id)) → (r : Result A NotBuilt) → MatchResult r (λ x. AreFurther b row.has_attributes row.attributes (set x)) (λ w. IsUnreadAt 6 (HasOne (AreFurther b row.has_attributes row.attributes)) w) → MatchResult r (λ x. IsChecked b row (set x)) (λ w. IsUnreadOf (IsWrongBag b row) (GivesBag b row) w)
  set_checked set held name key_id (Ok x) is = record { held = held; friendly_name = name; local_key_id = key_id; attributes = is }
  set_checked set held name key_id (Err w) is = further_unread w is
