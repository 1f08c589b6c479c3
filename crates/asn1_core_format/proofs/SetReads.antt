-- Reading a set at the end of contents, or none.
use Rattle.std.proofs.Common.{◌≡◌, ◌<◌, ℕ, [], length, ap, arith}
use Rattle.asn1_core_element.specs.Element.{element}
use Rattle.asn1_core_element.specs.Position.{Position}
use Rattle.asn1_core_element.specs.declared.error.Error.{Error}
use Rattle.asn1_core_element.specs.declared.error.Error.TheVariants.{Malformed}
use Rattle.asn1_core_format.specs.Format.{Format, IsLawful, HasRead, HasRefused}
use Rattle.asn1_core_format.specs.Nexts.{NextIs}
use Rattle.asn1_core_format.specs.Lists.{each}
use Rattle.asn1_core_format.specs.laws.ListLaws.{lawful_each}
use Rattle.asn1_core_format.specs.Components.{nothing, within, HasRefusedComponents}
use Rattle.asn1_core_format.specs.laws.ComponentLaws.{lawful_nothing, lawful_within}
use Rattle.asn1_core_format.proofs.ComponentReads.{first_refused, rest_refused, there_refused, omitted_refused}
use Rattle.asn1_core_format.specs.EmptySets.{is_nil, set_or_none}
use Rattle.asn1_core_format.specs.laws.EmptySets.{empty_default}

more_left : (k : ℕ) (p : Position) → 0 < length p.left → HasRefusedComponents nothing k p p Malformed
more_left k p more = record { kind = λ e. cc; none = λ m v r. omega (arith, more, ap length r); counts = omega arith; at_most = omega arith }

module _ {V : Type 0} (F : Format V) (f : IsLawful F) (k : ℕ) where
  lawful_items : IsLawful (within 0xA1 (each F))
  lawful_items = lawful_within (each F) (lawful_each F f) 0xA1 (omega arith)

  module _ {old new : Position} where
    pub set_refused : {e : Error} → NextIs (λ t. t ≡ 0xA1) old.left → HasRefused (within 0xA1 (each F)) k old new e → HasRefusedComponents (set_or_none 0xA1 F) k old new e
    set_refused n g = there_refused is_nil (element 0xA1 []) (within 0xA1 (each F)) nothing lawful_items lawful_nothing (empty_default 0xA1 (omega arith) F f) (λ u h e. e) k n (first_refused (within 0xA1 (each F)) nothing lawful_items k g)

    pub set_left : {vs : _} → NextIs (λ t. t ≡ 0xA1) old.left → HasRead (within 0xA1 (each F)) k old new vs → 0 < length new.left → HasRefusedComponents (set_or_none 0xA1 F) k old new Malformed
    set_left n t more = there_refused is_nil (element 0xA1 []) (within 0xA1 (each F)) nothing lawful_items lawful_nothing (empty_default 0xA1 (omega arith) F f) (λ u h e. e) k n (rest_refused (within 0xA1 (each F)) nothing lawful_items k t (more_left k new more))

  pub none_left : {old : Position} → (NextIs (λ t. t ≡ 0xA1) old.left → ⊥) → (p : Position) → 0 < length old.left → HasRefusedComponents (set_or_none 0xA1 F) k old old Malformed
  none_left {old} n p more = omitted_refused is_nil (element 0xA1 []) (within 0xA1 (each F)) nothing lawful_items lawful_nothing (empty_default 0xA1 (omega arith) F f) (λ u h e. e) k n (more_left k old more)
