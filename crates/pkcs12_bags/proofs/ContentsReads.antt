-- Reading bags, one level of them.
use Rattle.std.proofs.Common.{ℕ, List}
use Rattle.asn1_core.specs.Der.{Position, HasRead, HasRefused, less}
use Rattle.asn1_core_element.specs.declared.error.Error.{Error}
use Rattle.asn1_core_format.proofs.LevelReads.{has_read_level, refused_level, has_read_mapped, refused_mapped}
use Rattle.pkcs12_bags.specs.Bags.{Bag, bag_out, bag_into, bag_components, bags_with, level_invariant, step, safe_contents, safe_bag}
use Rattle.pkcs12_bags.specs.laws.BagsLaws.{bags_step}

module _ (k : ℕ) {old new : Position} where
  pub contents_has_read : {bs : List Bag} → HasRead (bags_with (less safe_contents)) k old new bs → HasRead safe_contents k old new bs
  contents_has_read t = has_read_level {I = Unit {0}} {V = λ _. List Bag} level_invariant step bags_step tt k t

  pub contents_refused : {e : Error} → HasRefused (bags_with (less safe_contents)) k old new e → HasRefused safe_contents k old new e
  contents_refused g = refused_level {I = Unit {0}} {V = λ _. List Bag} level_invariant step bags_step tt k g

  pub bag_has_read : (b : Bag) → HasRead (bag_components (less safe_contents)) k old new (bag_out b) → HasRead safe_bag k old new b
  bag_has_read b t = has_read_mapped bag_out bag_into (bag_components (less safe_contents)) k b t

  pub bag_refused : {e : Error} → HasRefused (bag_components (less safe_contents)) k old new e → HasRefused safe_bag k old new e
  bag_refused g = refused_mapped bag_out bag_into (bag_components (less safe_contents)) k g
