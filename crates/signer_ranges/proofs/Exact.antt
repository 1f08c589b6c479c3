-- Formats that are read from one encoding of each value only: what is read is what is written.
use Rattle.std.specs.Prelude.{◌≡◌, ℕ, List, [], ◌∷◌, ◌++◌, None, Some}
use Rattle.std.proofs.Common.{ap, ◌∙◌}
use Rattle.asn1_core.specs.Asn1.{ANY, SEQUENCE, SET_OF}
use Rattle.asn1_core.specs.Der.{each, element, Format, nothing, object_identifier, optional, part, raw, within}
use Rattle.pkcs7_attributes.specs.Attributes.{attributes}
use Rattle.signer_ranges.specs.SignerRoutes.{ALGORITHM}
use Rattle.x509_base.specs.Algorithms.{algorithm_identifier}
use Rattle.x509_base.specs.Names.{attribute}

abbrev pub IsExact : {V : Type 0} → Format V → Type 0
IsExact {V} F = (k : ℕ) (b : List ℕ) (v : V) → F.Reads k b v → b ≡ F.text v

exact_raw : IsExact raw
exact_raw k b v r = r.0

exact_oid : IsExact object_identifier
exact_oid k b v r = r.0

exact_nothing : IsExact nothing
exact_nothing k b v r = r

module _ {V W : Type 0} (F : Format V) (R : Format W) (f : IsExact F) (r : IsExact R) where
  exact_part : IsExact (part F R)
  exact_part k b v s = s.2 ∙ ap (λ a. a ++ s.1) (f k s.0 v.0 s.3) ∙ ap (λ c. F.text v.0 ++ c) (r k s.1 v.1 s.4)

  exact_optional : IsExact (optional F R)
  exact_optional k b (None, w) s = r k b w s
  exact_optional k b (Some v, w) s = exact_part k b (v, w) s

exact_within : {V : Type 0} (tag : ℕ) (R : Format V) → IsExact R → IsExact (within tag R)
exact_within tag R r k b v s = s.1 ∙ ap (element tag) (r k s.0 v s.2)

exact_each : {V : Type 0} (F : Format V) → IsExact F → IsExact (each F)
exact_each F f k b [] s = s
exact_each F f k b (v ∷ vs) s = s.2 ∙ ap (λ a. a ++ s.1) (f k s.0 v s.3) ∙ ap (λ c. F.text v ++ c) (exact_each F f k s.1 vs s.4)

pub algorithm_exact : IsExact ALGORITHM.format
algorithm_exact = exact_within 0x30 algorithm_identifier.format (exact_part object_identifier (optional raw nothing) exact_oid (exact_optional raw nothing exact_raw exact_nothing))

set_exact : IsExact (SET_OF ANY).format
set_exact = exact_within 0x31 (each raw) (exact_each raw exact_raw)

attribute_exact : IsExact (SEQUENCE attribute).format
attribute_exact = exact_within 0x30 attribute.format (exact_part object_identifier (part (SET_OF ANY).format nothing) exact_oid (exact_part (SET_OF ANY).format nothing set_exact exact_nothing))

pub attributes_exact : IsExact attributes.format
attributes_exact = exact_within 0xA0 (each (SEQUENCE attribute).format) (exact_each (SEQUENCE attribute).format attribute_exact)
