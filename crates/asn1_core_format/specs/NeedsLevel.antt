-- A type that needs a nesting level to be left. Unlike `less` it doesn't consume that level.
use Rattle.asn1_core_format.specs.Format.{Format}
use Rattle.asn1_core_format.specs.Levels.{below}

abbrev pub needs_level : {V : Type 0} → Format V → Format V
needs_level F = record {
  text = F.text;
  IsWellFormed = λ k v. below (λ _. F.IsWellFormed k v) k;
  Reads = λ k b v. below (λ _. F.Reads k b v) k;
  IsNormal = λ k b. below (λ _. F.IsNormal k b) k;
  normal = F.normal;
  IsTag = F.IsTag;
  first = F.first;
  least = F.least;
}
