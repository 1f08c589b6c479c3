-- Types and contents as specs/ gives them beside their ASN.1: one expression, of which come the type of the values, the
-- format and its law.
use Rattle.std.specs.Prelude.{◌≡◌, ℕ, ◌+◌, ◌%◌, Bool, true, false, List, Option, None, Some}
use Rattle.std.proofs.Common.{arith, refl}
use Rattle.asn1_core_element.specs.Element.{element, retag}
use Rattle.asn1_core_format.specs.Format.{Format, IsLawful, IsLawfulComponents, are_distinct}
use Rattle.asn1_core_format.specs.laws.Format.{distinct_tags}
use Rattle.asn1_core_format.specs.laws.Eithers.{or_else}
use Rattle.asn1_core_format.specs.Lists.{each}
use Rattle.asn1_core_format.specs.laws.ListLaws.{lawful_each}
use Rattle.asn1_core_format.specs.Omitted.{omitted, is_default_with, IsDefault}
use Rattle.asn1_core_format.specs.laws.Omitted.{lawful_omitted}
use Rattle.asn1_core_format.specs.Components.{nothing, part, optional}
use Rattle.asn1_core_format.specs.laws.ComponentLaws.{lawful_nothing, lawful_part, lawful_optional}
use Rattle.asn1_core_format.specs.laws.Sequences.{lawful_sequence, lawful_set}
use Rattle.asn1_core_format.specs.Numbers.{numbers_below}
use Rattle.asn1_core_format.specs.laws.Numbers.{lawful_number}
use Rattle.asn1_core_format.specs.Tagged.{IsTagged, context_tag}
use Rattle.asn1_core_format.specs.laws.TaggedLaws.{leaf_tagged, within_tagged}
use Rattle.asn1_core_format.specs.laws.TaggedDefaults.{explicit_left_out, implicit_left_out}
use Rattle.asn1_core_format.specs.TagNumbers.{explicit_tag, explicit_context, implicit_context}
use Rattle.asn1_core_format.specs.laws.TagNumbers.{lawful_explicit_context, explicit_context_tagged, lawful_implicit_context, implicit_context_tagged}

-- whether all encodings are elements with that tag, where there is one
abbrev pub HasTag : {V : Type 0} → Option ℕ → Format V → Type 0
HasTag None F = Unit {0}
HasTag (Some tag) F = IsTagged tag F

-- a type, and the one tag of its encodings: CHOICE and ANY have none
pub record Asn1 : Type 1 where
  pub Value : Type 0
  pub format : Format Value
  pub law : IsLawful format
  pub tag : Option ℕ
  pub tagged : HasTag tag format

-- a type without a tag of its own
abbrev pub asn1 : {V : Type 0} {F : Format V} → IsLawful F → Asn1
asn1 {V} {F} law = record { Value = V; format = F; law = law; tag = None; tagged = tt }

abbrev pub asn1_tagged : {V : Type 0} {F : Format V} → IsLawful F → (tag : ℕ) → IsTagged tag F → Asn1
asn1_tagged {V} {F} law tag tagged = record { Value = V; format = F; law = law; tag = Some tag; tagged = tagged }

-- from 0 to below the bound
abbrev pub INTEGER_BELOW : ℕ → Asn1
INTEGER_BELOW bound = asn1_tagged (lawful_number bound) 0x02 (leaf_tagged 0x02 (omega arith) (numbers_below bound))

-- a type and a value of it, by its encoding, that may be left out
pub record Asn1Default : Type 1 where
  pub type : Asn1
  pub text : List ℕ
  -- the elements inside that one
  pub inside : ℕ
  pub left_out : IsDefault (is_default_with inside type.format text) text type.format

-- whether the first tags of each part that may be absent are distinct from those that may follow it (X.680, 25.6), or
-- the first part of which they aren't
pub data Distinct : Type 0 where
  all_distinct : Distinct
  not_distinct_part : ℕ → Distinct

abbrev pub one_later : Distinct → Distinct
one_later all_distinct = all_distinct
one_later (not_distinct_part n) = not_distinct_part (1 + n)

abbrev pub distinct_if : Bool → Distinct → Distinct
distinct_if true t = one_later t
distinct_if false t = not_distinct_part 1

later : (t : Distinct) → one_later t ≡ all_distinct → t ≡ all_distinct
later all_distinct e = refl
later (not_distinct_part n) e = cc

distinct_parts : (b : Bool) (t : Distinct) → distinct_if b t ≡ all_distinct → (b ≡ true) × (t ≡ all_distinct)
distinct_parts true t e = (refl, later t e)
distinct_parts false t e = cc

-- the types of the components, in order
pub record ComponentTypes : Type 1 where
  pub Value : Type 0
  pub format : Format Value
  pub distinct : Distinct
  pub law : distinct ≡ all_distinct → IsLawfulComponents format

-- the contents of a SEQUENCE
pub record Contents : Type 1 where
  pub Value : Type 0
  pub format : Format Value
  pub law : IsLawfulComponents format

abbrev pub implicit_at : {V : Type 0} → ℕ → Option ℕ → Format V → Format V
implicit_at n None F = explicit_context n F
implicit_at n (Some inner) F = implicit_context n inner F

abbrev pub implicit_tag_at : ℕ → Option ℕ → ℕ
implicit_tag_at n None = explicit_tag n
implicit_tag_at n (Some inner) = context_tag (n % 31) inner

pub lawful_implicit_at : {V : Type 0} (n : ℕ) (tag : Option ℕ) (F : Format V) → IsLawful F → HasTag tag F → IsLawful (implicit_at n tag F)
lawful_implicit_at n None F f g = lawful_explicit_context n f
lawful_implicit_at n (Some inner) F f g = lawful_implicit_context n inner f g

pub implicit_tagged_at : {V : Type 0} (n : ℕ) (tag : Option ℕ) (F : Format V) → HasTag tag F → IsTagged (implicit_tag_at n tag) (implicit_at n tag F)
implicit_tagged_at n None F g = explicit_context_tagged n F
implicit_tagged_at n (Some inner) F g = implicit_context_tagged n inner F g

abbrev pub implicit_text_at : ℕ → Option ℕ → List ℕ → List ℕ
implicit_text_at n None d = element (explicit_tag n) d
implicit_text_at n (Some inner) d = retag (context_tag (n % 31) inner) d

abbrev pub implicit_inside_at : Option ℕ → ℕ → ℕ
implicit_inside_at None inside = 1 + inside
implicit_inside_at (Some inner) inside = inside

pub implicit_left_out_at : {V : Type 0} (n : ℕ) (tag : Option ℕ) (i : ℕ) (F : Format V) (d : List ℕ) → HasTag tag F → IsDefault (is_default_with i F d) d F → IsDefault (is_default_with (implicit_inside_at tag i) (implicit_at n tag F) (implicit_text_at n tag d)) (implicit_text_at n tag d) (implicit_at n tag F)
implicit_left_out_at n None i F d g l = explicit_left_out n i F d l
implicit_left_out_at n (Some inner) i F d g l = implicit_left_out n inner i F d g l

infixr 5 ◌then◌
infixr 5 ◌OPTIONAL◌
infixr 5 ◌DEFAULT◌
abbrev pub end : ComponentTypes
end = record { Value = Unit {0}; format = nothing; distinct = all_distinct; law = λ _. lawful_nothing }

pub then_law : (a : Asn1) (r : ComponentTypes) → one_later r.distinct ≡ all_distinct → IsLawfulComponents (part a.format r.format)
then_law a r e = lawful_part a.format r.format a.law (r.law (later r.distinct e))

pub optional_law : (a : Asn1) (r : ComponentTypes) → distinct_if (are_distinct a.format r.format) r.distinct ≡ all_distinct → IsLawfulComponents (optional a.format r.format)
optional_law a r e = let p = distinct_parts (are_distinct a.format r.format) r.distinct e in lawful_optional a.format r.format a.law (r.law p.1) (distinct_tags a.format r.format p.0)

abbrev pub with_default : (a : Asn1Default) (r : ComponentTypes) → Format (a.type.Value × r.Value)
with_default a r = omitted (is_default_with a.inside a.type.format a.text) a.text a.type.format r.format

pub default_law : (a : Asn1Default) (r : ComponentTypes) → distinct_if (are_distinct a.type.format r.format) r.distinct ≡ all_distinct → IsLawfulComponents (with_default a r)
default_law a r e =
    let p = distinct_parts (are_distinct a.type.format r.format) r.distinct e in
    lawful_omitted (is_default_with a.inside a.type.format a.text) a.text a.type.format r.format a.type.law (r.law p.1) a.left_out (distinct_tags a.type.format r.format p.0)

abbrev pub ◌then◌ : Asn1 → ComponentTypes → ComponentTypes
a then r = record { Value = a.Value × r.Value; format = part a.format r.format; distinct = one_later r.distinct; law = then_law a r }

abbrev pub ◌OPTIONAL◌ : Asn1 → ComponentTypes → ComponentTypes
a OPTIONAL r = record { Value = Option a.Value × r.Value; format = optional a.format r.format; distinct = distinct_if (are_distinct a.format r.format) r.distinct; law = optional_law a r }

abbrev pub ◌DEFAULT◌ : Asn1Default → ComponentTypes → ComponentTypes
a DEFAULT r = record { Value = a.type.Value × r.Value; format = with_default a r; distinct = distinct_if (are_distinct a.type.format r.format) r.distinct; law = default_law a r }

-- `refl` where all of them are distinct
abbrev pub contents : (p : ComponentTypes) → p.distinct ≡ all_distinct → Contents
contents p e = record { Value = p.Value; format = p.format; law = p.law e }

abbrev pub SEQUENCE : Contents → Asn1
SEQUENCE c = asn1_tagged (lawful_sequence c.law) 0x30 (within_tagged 0x30 (omega arith) c.format)

-- the contents of SEQUENCE OF and SET OF
abbrev pub list_of : Asn1 → Contents
list_of a = record { Value = List a.Value; format = each a.format; law = lawful_each a.format a.law }

abbrev pub SEQUENCE_OF : Asn1 → Asn1
SEQUENCE_OF a = SEQUENCE (list_of a)

abbrev pub SET_OF : Asn1 → Asn1
SET_OF a = asn1_tagged (lawful_set a.format a.law) 0x31 (within_tagged 0x31 (omega arith) (each a.format))

abbrev pub EXPLICIT : ℕ → Asn1 → Asn1
EXPLICIT n a = asn1_tagged (lawful_explicit_context n a.law) (explicit_tag n) (explicit_context_tagged n a.format)

-- Where the type under it has no tag to replace, the tag is explicit all the same (X.680, 31.2.7).
abbrev pub IMPLICIT : ℕ → Asn1 → Asn1
IMPLICIT n a = record {
  Value = a.Value;
  format = implicit_at n a.tag a.format;
  law = lawful_implicit_at n a.tag a.format a.law a.tagged;
  tag = Some (implicit_tag_at n a.tag);
  tagged = implicit_tagged_at n a.tag a.format a.tagged;
}

-- a type with a DEFAULT, under a tag
abbrev pub EXPLICIT_default : ℕ → Asn1Default → Asn1Default
EXPLICIT_default n a = record {
  type = EXPLICIT n a.type;
  text = element (explicit_tag n) a.text;
  inside = 1 + a.inside;
  left_out = explicit_left_out n a.inside a.type.format a.text a.left_out;
}

abbrev pub IMPLICIT_default : ℕ → Asn1Default → Asn1Default
IMPLICIT_default n a = record {
  type = IMPLICIT n a.type;
  text = implicit_text_at n a.type.tag a.text;
  inside = implicit_inside_at a.type.tag a.inside;
  left_out = implicit_left_out_at n a.type.tag a.inside a.type.format a.text a.type.tagged a.left_out;
}

-- `refl` where no first tag is one of both
abbrev pub CHOICE : (a b : Asn1) → are_distinct a.format b.format ≡ true → Asn1
CHOICE a b distinct = asn1 (or_else a.law distinct b.law)
