-- The words of ASN.1 for lists and for context tags (X.690, 8.10, 8.12, 8.14), each with its law.
use Rattle.std.specs.Prelude.{◌≡◌, ℕ, ◌+◌, List}
use Rattle.asn1_core_format.specs.Format.{Format}
use Rattle.asn1_core_format.specs.Leaf.{leaf, verbatim}
use Rattle.asn1_core_format.specs.Lists.{each}
use Rattle.asn1_core_format.specs.Components.{within}
use Rattle.asn1_core_format.specs.Sequences.{sequence}

-- SEQUENCE OF
abbrev pub sequence_of : {V : Type 0} → Format V → Format (List V)
sequence_of F = sequence (each F)

-- [n] EXPLICIT
abbrev pub explicit : {V : Type 0} → ℕ → Format V → Format V
explicit n F = within (0xA0 + n) F

-- [n] IMPLICIT SET OF
abbrev pub implicit_set : {V : Type 0} → ℕ → Format V → Format (List V)
implicit_set n F = within (0xA0 + n) (each F)

-- an object identifier and no other
abbrev pub only_oid : List ℕ → Format (List ℕ)
only_oid o = leaf 0x06 (verbatim (λ c. c ≡ o))
