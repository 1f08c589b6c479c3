-- The prelude of specifications: the definitions with which types and their laws are stated, from one place, and
-- the laws by which `search` finds that a type is lawful. The definitions of std come from its own modules,
-- `Rattle.std.specs.Prelude` and `Rattle.std.proofs.Common`.
use Rattle.std.proofs.Common.{arith}
pub use Rattle.asn1_core_format.specs.FirstTags.{Listing, no_tag, any_tag, one_tag, both_tags, other_tags}
pub use Rattle.asn1_core_format.specs.Format.{Format, IsLawfulComponents, IsLawful, HasRefused, Gives, HasRead, are_distinct}
pub use Rattle.asn1_core_format.specs.laws.Format.{distinct_tags}
pub use Rattle.asn1_core_format.specs.Lists.{each, least_all}
pub use Rattle.asn1_core_format.specs.laws.ListLaws.{lawful_each}
pub use Rattle.asn1_core_format.specs.Numbers.{number_below, numbers_below}
pub use Rattle.asn1_core_format.specs.laws.Numbers.{lawful_number}
pub use Rattle.asn1_core_format.specs.Components.{nothing, part, optional, within, option_value, HasRefusedComponents, GivesComponents, HasReadComponents, text_if}
pub use Rattle.asn1_core_format.specs.laws.ComponentLaws.{lawful_nothing, lawful_part, lawful_optional, lawful_within}
pub use Rattle.asn1_core_format.specs.Sequences.{sequence, set_of}
pub use Rattle.asn1_core_format.specs.laws.Sequences.{followed_by, perhaps, lawful_sequence, lawful_set}
pub use Rattle.asn1_core_format.specs.Omitted.{omitted, is_default, IsDefault, least_unless, text_unless}
pub use Rattle.asn1_core_format.specs.laws.Omitted.{lawful_omitted, unless}
pub use Rattle.asn1_core_format.specs.Tagged.{implicit, context_tag}
pub use Rattle.asn1_core_format.specs.laws.TaggedLaws.{lawful_implicit, leaf_tagged, within_tagged, context_tag_is}
pub use Rattle.asn1_core_oid.specs.OidValue.{octets_of}
pub use Rattle.asn1_core.specs.Nulls.{null_element}
pub use Rattle.asn1_core.specs.laws.Nulls.{lawful_null_element}
pub use Rattle.asn1_core.specs.Objects.{object_identifier}
pub use Rattle.asn1_core.specs.laws.Objects.{lawful_object_identifier}
pub use Rattle.asn1_core.specs.Octets.{octet_string, any_octets}
pub use Rattle.asn1_core.specs.laws.Octets.{lawful_octet_string}
pub use Rattle.asn1_core.specs.Raw.{element_of, raw}
pub use Rattle.asn1_core.specs.laws.Raw.{lawful_element_of, lawful_raw}
pub use Rattle.asn1_core.specs.Tagged.{sequence_of, explicit, implicit_set, only_oid}
pub use Rattle.asn1_core.specs.laws.Tagged.{perhaps_last, lawful_sequence_of, lawful_explicit, lawful_implicit_set, lawful_implicit_octets, lawful_only_oid}
pub use Rattle.asn1_core.specs.Versions.{version}
pub use Rattle.asn1_core.specs.laws.Versions.{lawful_version_0, lawful_version_1, lawful_version_3}
pub use Rattle.asn1_core.specs.Words.{Octets, OidOctets, IntegerOctets, BitStringOctets, StringOctets, ElementOctets}
pub use Rattle.asn1_core.specs.ViewsEqual.{octets_equal, raw_equal}
pub use Rattle.asn1_core.specs.laws.ViewsEqual.{der_equal, same_first, same_second, with_end}
pub use Rattle.asn1_core_element.specs.Element.{IsElement, IsTagByte, element, head, length_octets}
pub use Rattle.asn1_core_element.specs.laws.ElementLaws.{element_cut, element_long, element_same, octets_long, octets_short}
pub use Rattle.asn1_core_element.specs.Numbers.{integer_octets}
pub use Rattle.asn1_core_element.specs.Position.{Position}
pub use Rattle.asn1_core_element.specs.Reading.{RefusedElement, HasReadElement}
pub use Rattle.asn1_core_element.specs.Words.{word_of}
pub use Rattle.asn1_core_format.specs.Calls.{GivesBelow, MayBelow}
pub use Rattle.asn1_core_format.specs.Choices.{Choice, Heads, IsLawfulChoice, known, otherwise}
pub use Rattle.asn1_core_format.specs.laws.Choices.{heads_begin, lawful_known, lawful_otherwise, same_head}
pub use Rattle.asn1_core_format.specs.Eithers.{OneOf, either, from_one, map_one}
pub use Rattle.asn1_core_format.specs.laws.Eithers.{lawful_either, or_else}
pub use Rattle.asn1_core_format.specs.EmptySets.{is_nil, set_or_none}
pub use Rattle.asn1_core_format.specs.laws.EmptySets.{empty_left_out, lawful_set_or_none}
pub use Rattle.asn1_core_format.specs.NeedsLevel.{needs_level}
pub use Rattle.asn1_core_format.specs.laws.NeedsLevel.{lawful_needs_level}
pub use Rattle.asn1_core_format.specs.Nexts.{NextIs}
pub use Rattle.asn1_core_format.specs.laws.Formats.{begins_next, element_some, next_distinct}
pub use Rattle.asn1_core_format.specs.Leaf.{IsLawfulSpelling, Spelling, verbatim, leaf}
pub use Rattle.asn1_core_format.specs.laws.LeafLaws.{lawful_leaf}
pub use Rattle.asn1_core_format.specs.LevelLaws.{IsStep}
pub use Rattle.asn1_core_format.specs.laws.LevelLaws.{lawful_less, lawful_levels, unroll_formed, unroll_text}
pub use Rattle.asn1_core_format.specs.Levels.{Grammar, LevelInvariant, always, by_levels, less, levels, no_grammar}
pub use Rattle.asn1_core_format.specs.Loosened.{IsLoosening, Loosening, loosened}
pub use Rattle.asn1_core_format.specs.laws.Loosened.{lawful_loosened, lawful_loosened_components}
pub use Rattle.asn1_core_format.specs.Mapped.{mapped}
pub use Rattle.asn1_core_format.specs.laws.Mapped.{lawful_mapped}
pub use Rattle.asn1_core_format.specs.laws.Same.{all_same, least_same, texts_same}
pub use Rattle.asn1_core_format.specs.Views.{Clones, SeesEqual}
pub use Rattle.asn1_core_format.specs.laws.Views.{list_equal, option_equal, two_equal}
pub use Rattle.asn1_core_format.specs.Whole.{AnswersInput, HasNoValue, IsValueOf}
pub use Rattle.asn1_core_oid.specs.Arcs.{arcs}
pub use Rattle.asn1_core_oid.specs.Oid.{IsOid}
pub use Rattle.asn1_core_oid.specs.OidTest.{is_oid}
pub use Rattle.asn1_core_oid.specs.laws.OidTestLaws.{oid_from_test}
pub use Rattle.asn1_core_oid.specs.laws.OidValueLaws.{equal_octets}
pub use Rattle.asn1_core_oid.specs.Refusal.{IsRefusal}
pub use Rattle.asn1_core_streams.specs.Streams.{AppendsBeginning}
pub use Rattle.asn1_core_writers.specs.Comparing.{IsBefore}
pub use Rattle.asn1_core_writers.specs.Sinks.{Emits}
pub use Rattle.asn1_core_writers.specs.Texts.{Measures, Writes}

-- The laws of required parts, and of a last part that is OPTIONAL. That of any other OPTIONAL part is `perhaps`, with `refl`
-- for the first tags, of one with a default `unless`.
pub ruleset der_laws = (arith, followed_by, perhaps_last, lawful_sequence, lawful_sequence_of, lawful_set, lawful_explicit, lawful_implicit_set, lawful_implicit_octets, lawful_each, lawful_nothing, lawful_number, lawful_object_identifier, lawful_only_oid, lawful_octet_string, lawful_raw, lawful_null_element, lawful_version_0, lawful_version_1, lawful_version_3)
