-- Attributes that are read of a set are well-formed.
use Rattle.std.specs.Prelude.{ℕ, List}
use Rattle.std.specs.List.{AllByRecursion}
use Rattle.std.proofs.Common.{inl, inr, subst, sym}
use Rattle.asn1_core.specs.Asn1.{SET_OF}
use Rattle.attribute_writers.specs.Attributes.{ATTRIBUTE, is_formed}
use Rattle.call_values.specs.Further.{AreFurther}
use Rattle.call_values.specs.declared.ranges.Octets.{Octets}
use Rattle.x509_base.specs.Names.{attribute}

pub all_formed : (b : List ℕ) (flag : ℕ) (r : Octets) (all : List attribute.Value) → AreFurther b flag r all → AllByRecursion is_formed all
all_formed b flag r all (inl none) = subst (AllByRecursion is_formed) (sym none.1) tt
all_formed b flag r all (inr set) = (SET_OF ATTRIBUTE).law.components.well_formed 64 set.1.0 all set.1.2
