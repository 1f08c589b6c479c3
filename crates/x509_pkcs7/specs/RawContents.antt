-- ContentInfo ::= SEQUENCE { contentType ContentType, content [0] EXPLICIT ANY DEFINED BY contentType OPTIONAL }
-- (RFC 2315, 7)
use Rattle.std.specs.Prelude.{Option, None, Some, Result}
use Rattle.std.proofs.Common.{refl}
use Rattle.asn1_core_element.specs.declared.error.Error.{Error}
use Rattle.asn1_core.specs.Asn1.{Contents, contents, ◌then◌, ◌OPTIONAL◌, end, OBJECT_IDENTIFIER, ANY, EXPLICIT}
use Rattle.asn1_core.specs.Der.{Format, octets_of, option_value, AnswersInput, SeesEqual, der_equal}
use Rattle.asn1_core.specs.declared.explicit.ExplicitContextTag0.{ExplicitContextTag0}
use Rattle.asn1_core.specs.declared.raw.Asn1RawDer.{Asn1RawDer}
use Rattle.x509_pkcs7.specs.declared.raw_contents.RawEncapsulatedContentInfo.{RawEncapsulatedContentInfo}
use Rattle.x509_pkcs7.specs.contracts.raw_contents.RawEncapsulatedContentInfoPartialEq.TheImpl as EncapsulatedEq

abbrev pub raw_encapsulated_content_info : Contents
raw_encapsulated_content_info = contents (OBJECT_IDENTIFIER then EXPLICIT 0 ANY OPTIONAL end) refl

abbrev pub raw_encapsulated_content_info_value : RawEncapsulatedContentInfo → raw_encapsulated_content_info.Value
raw_encapsulated_content_info_value x = (octets_of x.content_type.0, (option_value (λ c. c.0.0.items) x.content, tt))

-- content that is there is read from its element, and absent content is none
abbrev pub AnswersContent : {T V : Type 0} → (T → V) → Format V → Option (ExplicitContextTag0 Asn1RawDer) → Option (Result T Error) → Type 0
AnswersContent value F None None = Unit {0}
AnswersContent value F None (Some r) = ⊥
AnswersContent value F (Some c) None = ⊥
AnswersContent value F (Some c) (Some r) = AnswersInput value F 64 c.0.0.items r

pub raw_encapsulated_equal : SeesEqual EncapsulatedEq.ghosts.eq raw_encapsulated_content_info_value
raw_encapsulated_equal x y = search der_equal depth 20
