-- Choices by object identifier, as they are read: first the object identifier, then what follows it.
use Rattle.std.specs.Prelude.{ℕ, ◌-◌, List, ◌++◌}
use Rattle.asn1_core.specs.Der.{any_tag, element, Choice, Format}

-- what follows the object identifier `key`, which was read already
abbrev pub after_oid : {V : Type 0} → List ℕ → Choice V → Format V
after_oid key C = record {
  text = C.components.text;
  IsWellFormed = C.components.IsWellFormed;
  Reads = λ k b v. C.components.Reads k (element 0x06 key ++ b) v;
  IsNormal = λ k b. C.components.IsNormal k (element 0x06 key ++ b);
  normal = C.components.normal;
  IsTag = λ _. Unit {0};
  first = any_tag;
  least = λ v. C.components.least v - 1;
}
