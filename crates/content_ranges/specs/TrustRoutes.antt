-- The ways to the parts of a trust list, and of its entries.
-- CertificateTrustList ::= SEQUENCE { version CTLVersion DEFAULT v1, subjectUsage SubjectUsage, listIdentifier OCTET STRING
--   OPTIONAL, sequenceNumber INTEGER OPTIONAL, ctlThisUpdate ChoiceOfTime, ctlNextUpdate ChoiceOfTime OPTIONAL,
--   subjectAlgorithm AlgorithmIdentifier, trustedSubjects SEQUENCE OF TrustedSubject OPTIONAL, ctlExtensions [0] EXPLICIT
--   Extensions OPTIONAL }
-- TrustedSubject ::= SEQUENCE { subjectIdentifier OCTET STRING, subjectAttributes SET OF Attribute OPTIONAL }
use Rattle.std.specs.Prelude.{◌≢◌, ℕ, []}
use Rattle.std.proofs.Common.{refl, arith}
use Rattle.asn1_core.specs.Asn1.{ANY, Asn1, EXPLICIT, OCTET_STRING, SEQUENCE, end, ◌then◌, ◌OPTIONAL◌}
use Rattle.asn1_core.specs.Der.{Format, each, raw}
use Rattle.asn1_leaves.specs.Asn1.{INTEGER}
use Rattle.asn1_located.specs.Places.{Route}
use Rattle.asn1_located.specs.Routes.{Tagged, again, as_is, component, enclosed, fixed, octets, with_tag, ◌before◌, ◌here◌, ◌maybe◌, ◌there◌, ◌▸◌}
use Rattle.content_ranges.specs.PastTimes.{past_time}
use Rattle.content_ranges.specs.TrustHeads.{ATTRIBUTES, SUBJECTS, USAGES, trust_list_head, trusted_subject}
use Rattle.located_rows.specs.Rows.{entry}
use Rattle.x509_base.specs.Algorithms.{algorithm_identifier}
use Rattle.x509_base.specs.Times.{time}

abbrev pub TrustValue : Type 0
TrustValue = trust_list_head.Value

abbrev pub trust_list : Format TrustValue
trust_list = (SEQUENCE trust_list_head).format

abbrev pub ALGORITHM : Asn1
ALGORITHM = SEQUENCE algorithm_identifier

abbrev pub PAST_INTEGER : Tagged
PAST_INTEGER = with_tag 0x02 INTEGER refl

abbrev pub PAST_IDENTIFIER : Tagged
PAST_IDENTIFIER = with_tag 0x04 OCTET_STRING refl

abbrev pub PAST_SUBJECTS : Tagged
PAST_SUBJECTS = with_tag 0x30 SUBJECTS refl

-- the parts of a list
abbrev pub version : Route (fixed trust_list.Reads) as_is
version =
    again (component 0x30 (omega arith) (INTEGER there USAGES then OCTET_STRING OPTIONAL INTEGER OPTIONAL time then time OPTIONAL ALGORITHM then SUBJECTS OPTIONAL EXPLICIT 0 ANY OPTIONAL end) refl)
    ▸ again (octets 0x02 (omega arith) (λ c. c ≢ []))

abbrev pub usages : Route (fixed trust_list.Reads) (fixed USAGES.format.Reads)
usages = again (component 0x30 (omega arith) (PAST_INTEGER maybe USAGES here OCTET_STRING OPTIONAL INTEGER OPTIONAL time then time OPTIONAL ALGORITHM then SUBJECTS OPTIONAL EXPLICIT 0 ANY OPTIONAL end) refl)

abbrev pub list_identifier : Route (fixed trust_list.Reads) as_is
list_identifier =
    again (component 0x30 (omega arith) (PAST_INTEGER maybe USAGES before OCTET_STRING there INTEGER OPTIONAL time then time OPTIONAL ALGORITHM then SUBJECTS OPTIONAL EXPLICIT 0 ANY OPTIONAL end) refl)
    ▸ again (octets 0x04 (omega arith) (λ _. Unit {0}))

abbrev pub sequence_number : Route (fixed trust_list.Reads) as_is
sequence_number =
    again (component 0x30 (omega arith) (PAST_INTEGER maybe USAGES before PAST_IDENTIFIER maybe INTEGER there time then time OPTIONAL ALGORITHM then SUBJECTS OPTIONAL EXPLICIT 0 ANY OPTIONAL end) refl)
    ▸ again (octets 0x02 (omega arith) (λ c. c ≢ []))

abbrev pub this_update : Route (fixed trust_list.Reads) (fixed time.format.Reads)
this_update = again (component 0x30 (omega arith) (PAST_INTEGER maybe USAGES before PAST_IDENTIFIER maybe PAST_INTEGER maybe time here time OPTIONAL ALGORITHM then SUBJECTS OPTIONAL EXPLICIT 0 ANY OPTIONAL end) refl)

abbrev pub next_update : Route (fixed trust_list.Reads) (fixed time.format.Reads)
next_update = again (component 0x30 (omega arith) (PAST_INTEGER maybe USAGES before PAST_IDENTIFIER maybe PAST_INTEGER maybe time before time there ALGORITHM then SUBJECTS OPTIONAL EXPLICIT 0 ANY OPTIONAL end) refl)

abbrev pub algorithm : Route (fixed trust_list.Reads) (fixed ALGORITHM.format.Reads)
algorithm = again (component 0x30 (omega arith) (PAST_INTEGER maybe USAGES before PAST_IDENTIFIER maybe PAST_INTEGER maybe time before past_time (ALGORITHM here SUBJECTS OPTIONAL EXPLICIT 0 ANY OPTIONAL end)) refl)

abbrev pub subjects : Route (fixed trust_list.Reads) (fixed (each (SEQUENCE trusted_subject).format).Reads)
subjects =
    again (component 0x30 (omega arith) (PAST_INTEGER maybe USAGES before PAST_IDENTIFIER maybe PAST_INTEGER maybe time before past_time (ALGORITHM before SUBJECTS there EXPLICIT 0 ANY OPTIONAL end)) refl)
    ▸ again (enclosed 0x30 (omega arith) (each (SEQUENCE trusted_subject).format))

abbrev pub extensions : Route (fixed trust_list.Reads) (fixed raw.Reads)
extensions =
    again (component 0x30 (omega arith) (PAST_INTEGER maybe USAGES before PAST_IDENTIFIER maybe PAST_INTEGER maybe time before past_time (ALGORITHM before PAST_SUBJECTS maybe EXPLICIT 0 ANY there end)) refl)
    ▸ again (enclosed 0xA0 (omega arith) ANY.format)

-- an entry of the list, by its index
abbrev pub subject_at : ℕ → Route (fixed trust_list.Reads) (fixed (SEQUENCE trusted_subject).format.Reads)
subject_at i = subjects ▸ again (entry (SEQUENCE trusted_subject).format (SEQUENCE trusted_subject).law i)

-- from an entry to the octets of its identifier
abbrev pub identifier : Route (SEQUENCE trusted_subject).format.Reads as_is
identifier = component 0x30 (omega arith) (OCTET_STRING here ATTRIBUTES OPTIONAL end) refl ▸ octets 0x04 (omega arith) (λ _. Unit {0})

-- and to its attributes
abbrev pub attributes : Route (SEQUENCE trusted_subject).format.Reads ATTRIBUTES.format.Reads
attributes = component 0x30 (omega arith) (OCTET_STRING before ATTRIBUTES there end) refl
