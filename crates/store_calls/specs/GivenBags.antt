-- Bags as they are given, before they are written.
use Rattle.std.specs.Prelude.{◌≡◌, ℕ, List, map}
use Rattle.bag_writers.specs.Written.{key_id_of, name_of}
use Rattle.bag_writers.specs.declared.bags.Bag.{Bag}
use Rattle.bag_writers.specs.declared.held.Held.{Held}
use Rattle.bag_writers.specs.declared.held.Held.TheVariants.{Other}
use Rattle.store_calls.specs.BuiltBags.{IsHeldBy, IsHeldOf, IsNameOf, IsOtherId, held_number, held_octets}
use Rattle.call_values.specs.Further.{AreFurther}
use Rattle.call_values.specs.Given.{IfGiven, IsPartOf}
use Rattle.call_values.specs.Read.{HasOne}
use Rattle.store_calls.specs.declared.built_bags.BagGiven.{BagGiven}
use Rattle.x509_base.specs.Names.{attribute, attribute_value}

-- an object identifier is looked at of a bag of another kind only
abbrev pub IsIdIf : List ℕ → BagGiven → List ℕ → Type 0
IsIdIf b row id = row.kind ≡ 0 → IsOtherId b row id

abbrev pub HasId : List ℕ → Held → Type 0
HasId id (Other its x) = its.now ≡ id
HasId id known = Unit {0}

-- what is held, by the number of its kind
pub record IsHeldAs (kind : ℕ) (id octets : List ℕ) (held : Held) : Type 0 where
  pub number : held_number held ≡ kind
  pub id_is : HasId id held
  pub octets_are : held_octets held ≡ octets

-- what a row gives was looked at, and it has these further attributes
pub record IsChecked (b : List ℕ) (row : BagGiven) (further : List attribute.Value) : Type 0 where
  pub held : HasOne (IsHeldOf b row)
  pub friendly_name : HasOne (IfGiven row.has_friendly_name (IsNameOf b row.friendly_name))
  pub local_key_id : HasOne (IfGiven row.has_local_key_id (IsPartOf b row.local_key_id))
  pub attributes : AreFurther b row.has_attributes row.attributes further

-- a bag of parts that a row gives, with these further attributes
pub record HasParts (b : List ℕ) (row : BagGiven) (further : List attribute.Value) (bag : Bag) : Type 0 where
  pub held_is : IsHeldBy b row bag.held
  pub friendly_name : IfGiven row.has_friendly_name (IsPartOf b row.friendly_name) (name_of bag)
  pub local_key_id : IfGiven row.has_local_key_id (IsPartOf b row.local_key_id) (key_id_of bag)
  pub attributes : map attribute_value bag.attributes.now ≡ further
