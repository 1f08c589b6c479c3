-- Laws of `Tagged.antt`.
use Rattle.std.specs.Prelude.{◌≡◌, ℕ, List}
use Rattle.std.proofs.Common.{arith, refl}
use Rattle.asn1_core_element.specs.Element.{IsTagByte}
use Rattle.asn1_core_format.specs.Format.{Format, IsLawful, IsLawfulComponents}
use Rattle.asn1_core_format.specs.Leaf.{verbatim}
use Rattle.asn1_core_format.specs.laws.LeafLaws.{lawful_leaf, lawful_verbatim}
use Rattle.asn1_core_format.specs.Lists.{each}
use Rattle.asn1_core_format.specs.laws.ListLaws.{lawful_each}
use Rattle.asn1_core_format.specs.Components.{within, optional, nothing}
use Rattle.asn1_core_format.specs.laws.ComponentLaws.{lawful_within, lawful_nothing}
use Rattle.asn1_core_format.specs.laws.Sequences.{perhaps, lawful_sequence}
use Rattle.asn1_core_format.specs.Tagged.{implicit}
use Rattle.asn1_core_format.specs.laws.TaggedLaws.{lawful_implicit, leaf_tagged}
use Rattle.asn1_core.specs.Octets.{any_octets, octet_string}
use Rattle.asn1_core.specs.laws.Octets.{lawful_octet_string}
use Rattle.asn1_core.specs.Tagged.{only_oid, sequence_of}

-- an OPTIONAL last part
pub perhaps_last : {V : Type 0} {F : Format V} → IsLawful F → IsLawfulComponents (optional F nothing)
perhaps_last f = perhaps f refl lawful_nothing

pub lawful_sequence_of : {V : Type 0} {F : Format V} → IsLawful F → IsLawful (sequence_of F)
lawful_sequence_of {V} {F} f = lawful_sequence (lawful_each F f)

-- the same for any tag byte, so that `search` finds it
pub lawful_explicit : {V : Type 0} {tag : ℕ} {F : Format V} → IsTagByte tag → IsLawful F → IsLawful (within tag F)
lawful_explicit {V} {tag} {F} h f = lawful_within F f.components tag h

pub lawful_implicit_set : {V : Type 0} {tag : ℕ} {F : Format V} → IsTagByte tag → IsLawful F → IsLawful (within tag (each F))
lawful_implicit_set {V} {tag} {F} h f = lawful_within (each F) (lawful_each F f) tag h

-- [n] IMPLICIT OCTET STRING
pub lawful_implicit_octets : {tag : ℕ} → IsTagByte tag → IsLawful (implicit tag 0x04 octet_string)
lawful_implicit_octets {tag} h = lawful_implicit tag 0x04 octet_string lawful_octet_string (leaf_tagged 0x04 (omega arith) any_octets) h

pub lawful_only_oid : (o : List ℕ) → IsLawful (only_oid o)
lawful_only_oid o = lawful_leaf 0x06 (omega arith) (verbatim (λ c. c ≡ o)) (lawful_verbatim (λ c. c ≡ o))
