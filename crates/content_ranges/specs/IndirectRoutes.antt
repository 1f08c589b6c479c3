-- The ways to the parts of indirect data.
-- SpcIndirectDataContent ::= SEQUENCE { data SpcAttributeTypeAndOptionalValue, messageDigest DigestInfo }
-- SpcAttributeTypeAndOptionalValue ::= SEQUENCE { type OBJECT IDENTIFIER, value ANY DEFINED BY type OPTIONAL }
-- DigestInfo ::= SEQUENCE { digestAlgorithm AlgorithmIdentifier, digest OCTET STRING }
-- SpcPeImageData ::= SEQUENCE { flags SpcPeImageFlags DEFAULT { includeResources }, file [0] EXPLICIT SpcLink OPTIONAL }
use Rattle.std.proofs.Common.{refl, arith}
use Rattle.asn1_core.specs.Asn1.{ANY, EXPLICIT, OBJECT_IDENTIFIER, OCTET_STRING, SEQUENCE, end, ◌then◌, ◌OPTIONAL◌}
use Rattle.asn1_core.specs.Der.{Format, IsOid, raw}
use Rattle.asn1_leaves.specs.Asn1.{BIT_STRING}
use Rattle.asn1_leaves_strings.specs.Bits.{IsBits}
use Rattle.asn1_located.specs.Places.{Route}
use Rattle.asn1_located.specs.Routes.{Tagged, again, as_is, component, enclosed, fixed, octets, opened, with_tag, ◌before◌, ◌here◌, ◌maybe◌, ◌there◌, ◌▸◌}
use Rattle.content_ranges.specs.Heads.{any_subject, image_head, indirect_head}
use Rattle.x509_base.specs.Algorithms.{algorithm_identifier}
use Rattle.x509_base.specs.Digests.{digest_info}

abbrev pub IndirectValue : Type 0
IndirectValue = indirect_head.Value

abbrev pub indirect_data : Format IndirectValue
indirect_data = (SEQUENCE indirect_head).format

abbrev pub ImageValue : Type 0
ImageValue = image_head.Value

abbrev pub image_data : Format ImageValue
image_data = (SEQUENCE image_head).format

-- the attribute: the octets of its type, and its value
abbrev pub subject : Route (fixed indirect_data.Reads) (fixed (SEQUENCE any_subject).format.Reads)
subject = again (component 0x30 (omega arith) (SEQUENCE any_subject here SEQUENCE digest_info then end) refl)

abbrev pub subject_type : Route (fixed indirect_data.Reads) as_is
subject_type = subject ▸ again (component 0x30 (omega arith) (OBJECT_IDENTIFIER here ANY OPTIONAL end) refl) ▸ again (octets 0x06 (omega arith) IsOid)

abbrev pub subject_value : Route (fixed indirect_data.Reads) (fixed raw.Reads)
subject_value = subject ▸ again (component 0x30 (omega arith) (OBJECT_IDENTIFIER before ANY there end) refl)

-- the digest: its algorithm, and its octets
abbrev pub message_digest : Route (fixed indirect_data.Reads) (fixed (SEQUENCE digest_info).format.Reads)
message_digest = again (component 0x30 (omega arith) (SEQUENCE any_subject before SEQUENCE digest_info here end) refl)

abbrev pub digest_algorithm : Route (fixed indirect_data.Reads) (fixed (SEQUENCE algorithm_identifier).format.Reads)
digest_algorithm = message_digest ▸ again (component 0x30 (omega arith) (SEQUENCE algorithm_identifier here OCTET_STRING then end) refl)

abbrev pub digest : Route (fixed indirect_data.Reads) as_is
digest = message_digest ▸ again (component 0x30 (omega arith) (SEQUENCE algorithm_identifier before OCTET_STRING here end) refl) ▸ again (octets 0x04 (omega arith) (λ _. Unit {0}))

-- of the value, where it is image data: the contents octets of its flags, and the element of the link in its file
abbrev pub image : Route (fixed indirect_data.Reads) (fixed image_data.Reads)
image = subject_value ▸ again (opened image_data)

abbrev pub flags : Route (fixed indirect_data.Reads) as_is
flags = image ▸ again (component 0x30 (omega arith) (BIT_STRING there EXPLICIT 0 ANY OPTIONAL end) refl) ▸ again (octets 0x03 (omega arith) IsBits)

abbrev pub PAST_FLAGS : Tagged
PAST_FLAGS = with_tag 0x03 BIT_STRING refl

abbrev pub link : Route (fixed indirect_data.Reads) (fixed raw.Reads)
link = image ▸ again (component 0x30 (omega arith) (PAST_FLAGS maybe EXPLICIT 0 ANY there end) refl) ▸ again (enclosed 0xA0 (omega arith) ANY.format)
