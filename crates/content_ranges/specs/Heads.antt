-- What Authenticode signs, whatever the type of its attribute is: of an image, a cabinet, a script.
-- SpcPeImageData ::= SEQUENCE { flags SpcPeImageFlags DEFAULT { includeResources }, file [0] EXPLICIT SpcLink OPTIONAL }
-- Here flags may be absent, and file is of any type.
use Rattle.std.proofs.Common.{refl, rules}
use Rattle.asn1_core.specs.Asn1.{ANY, Contents, EXPLICIT, OBJECT_IDENTIFIER, SEQUENCE, contents, end, ◌then◌, ◌OPTIONAL◌}
use Rattle.asn1_core.specs.Der.{SeesEqual, der_equal, octets_of, option_value}
use Rattle.asn1_leaves.specs.Asn1.{BIT_STRING}
use Rattle.asn1_leaves.specs.contracts.bits.BitStringAsn1PartialEq.TheImpl as Bits
use Rattle.asn1_leaves_strings.specs.Octets.{contents_of}
use Rattle.content_ranges.specs.contracts.heads.AnySubjectPartialEq.TheImpl as SubjectEq
use Rattle.content_ranges.specs.contracts.heads.ImageHeadPartialEq.TheImpl as ImageEq
use Rattle.content_ranges.specs.contracts.heads.IndirectHeadPartialEq.TheImpl as IndirectEq
use Rattle.content_ranges.specs.declared.heads.AnySubject.{AnySubject}
use Rattle.content_ranges.specs.declared.heads.ImageHead.{ImageHead}
use Rattle.content_ranges.specs.declared.heads.IndirectHead.{IndirectHead}
use Rattle.x509_base.specs.Digests.{digest_info, digest_info_value}
use Rattle.x509_base.specs.contracts.digests.DigestInfoPartialEq.TheImpl as DigestEq

-- SpcAttributeTypeAndOptionalValue ::= SEQUENCE { type OBJECT IDENTIFIER, value ANY DEFINED BY type OPTIONAL }
abbrev pub any_subject : Contents
any_subject = contents (OBJECT_IDENTIFIER then ANY OPTIONAL end) refl

abbrev pub any_subject_value : AnySubject → any_subject.Value
any_subject_value x = (octets_of x.ty.0, (option_value (λ e. e.0.items) x.value, tt))

-- SpcIndirectDataContent ::= SEQUENCE { data SpcAttributeTypeAndOptionalValue, messageDigest DigestInfo }
abbrev pub indirect_head : Contents
indirect_head = contents (SEQUENCE any_subject then SEQUENCE digest_info then end) refl

abbrev pub indirect_head_value : IndirectHead → indirect_head.Value
indirect_head_value x = (any_subject_value x.data, (digest_info_value x.message_digest, tt))

abbrev pub image_head : Contents
image_head = contents (BIT_STRING OPTIONAL EXPLICIT 0 ANY OPTIONAL end) refl

abbrev pub image_head_value : ImageHead → image_head.Value
image_head_value x = (option_value (λ f. contents_of f.0) x.flags, (option_value (λ f. f.0.0.items) x.file, tt))

pub any_subject_equal : SeesEqual SubjectEq.ghosts.eq any_subject_value
any_subject_equal x y = search der_equal depth 20

digest_equal : SeesEqual DigestEq.ghosts.eq digest_info_value
digest_equal x y = search rules

pub indirect_head_equal : SeesEqual IndirectEq.ghosts.eq indirect_head_value
indirect_head_equal x y = search (der_equal, any_subject_equal, digest_equal) depth 20

bits_equal : SeesEqual Bits.ghosts.eq (λ x. contents_of x.0)
bits_equal x y = search rules

pub image_head_equal : SeesEqual ImageEq.ghosts.eq image_head_value
image_head_equal x y = search (der_equal, bits_equal) depth 20
