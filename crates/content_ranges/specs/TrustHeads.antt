-- Trust lists, of which all that a list may have is read, and extensions are kept as they are.
-- CertificateTrustList ::= SEQUENCE { version CTLVersion DEFAULT v1, subjectUsage SubjectUsage, listIdentifier OCTET STRING
--   OPTIONAL, sequenceNumber INTEGER OPTIONAL, ctlThisUpdate ChoiceOfTime, ctlNextUpdate ChoiceOfTime OPTIONAL,
--   subjectAlgorithm AlgorithmIdentifier, trustedSubjects SEQUENCE OF TrustedSubject OPTIONAL, ctlExtensions [0] EXPLICIT
--   Extensions OPTIONAL }
-- SubjectUsage ::= SEQUENCE OF OBJECT IDENTIFIER
-- TrustedSubject ::= SEQUENCE { subjectIdentifier OCTET STRING, subjectAttributes SET OF Attribute OPTIONAL }
use Rattle.std.specs.Prelude.{map}
use Rattle.std.proofs.Common.{refl, rules}
use Rattle.asn1_core.specs.Asn1.{ANY, Asn1, Contents, EXPLICIT, OBJECT_IDENTIFIER, OCTET_STRING, SEQUENCE, SEQUENCE_OF, SET_OF, contents, end, ◌then◌, ◌OPTIONAL◌}
use Rattle.asn1_core.specs.Der.{SeesEqual, der_equal, octets_of, option_value}
use Rattle.asn1_leaves.specs.Asn1.{INTEGER}
use Rattle.content_ranges.specs.contracts.trust_heads.TrustedSubjectPartialEq.TheImpl as SubjectEq
use Rattle.content_ranges.specs.contracts.trust_heads.TrustListHeadPartialEq.TheImpl as ListEq
use Rattle.content_ranges.specs.declared.trust_heads.TrustedSubject.{TrustedSubject}
use Rattle.content_ranges.specs.declared.trust_heads.TrustListHead.{TrustListHead}
use Rattle.x509_base.specs.Algorithms.{algorithm_identifier}
use Rattle.x509_base.specs.AlgorithmParts.{algorithm_identifier_value}
use Rattle.x509_base.specs.Names.{attribute, attribute_equal, attribute_value}
use Rattle.x509_base.specs.Times.{time, time_equal, time_value}
use Rattle.x509_base.specs.contracts.algorithms.AlgorithmIdentifierPartialEq.TheImpl as AlgorithmEq

abbrev pub ATTRIBUTES : Asn1
ATTRIBUTES = SET_OF (SEQUENCE attribute)

abbrev pub trusted_subject : Contents
trusted_subject = contents (OCTET_STRING then ATTRIBUTES OPTIONAL end) refl

abbrev pub trusted_subject_value : TrustedSubject → trusted_subject.Value
trusted_subject_value x = (x.identifier.0.items, (option_value (λ a. map attribute_value a.0.items) x.attributes, tt))

abbrev pub USAGES : Asn1
USAGES = SEQUENCE_OF OBJECT_IDENTIFIER

abbrev pub SUBJECTS : Asn1
SUBJECTS = SEQUENCE_OF (SEQUENCE trusted_subject)

-- a version is kept as it is
abbrev pub trust_list_head : Contents
trust_list_head =
    contents (INTEGER OPTIONAL USAGES then OCTET_STRING OPTIONAL INTEGER OPTIONAL time then time OPTIONAL
    SEQUENCE algorithm_identifier then SUBJECTS OPTIONAL EXPLICIT 0 ANY OPTIONAL end) refl

abbrev pub trust_list_head_value : TrustListHead → trust_list_head.Value
trust_list_head_value x = (
  option_value (λ n. n.0.items) x.version,
  (
    map (λ o. octets_of o.0) x.usages.0.items,
    (
      option_value (λ o. o.0.items) x.list_identifier,
      (
        option_value (λ n. n.0.items) x.sequence_number,
        (
          time_value x.this_update,
          (
            option_value time_value x.next_update,
            (
              algorithm_identifier_value x.algorithm,
              (option_value (λ s. map trusted_subject_value s.0.items) x.subjects, (option_value (λ e. e.0.0.items) x.extensions, tt)),
            ),
          ),
        ),
      ),
    ),
  ),
)

pub trusted_subject_equal : SeesEqual SubjectEq.ghosts.eq trusted_subject_value
trusted_subject_equal x y = search (der_equal, attribute_equal) depth 20

algorithm_equal : SeesEqual AlgorithmEq.ghosts.eq algorithm_identifier_value
algorithm_equal x y = search rules

pub trust_list_head_equal : SeesEqual ListEq.ghosts.eq trust_list_head_value
trust_list_head_equal x y = search (der_equal, time_equal, algorithm_equal, trusted_subject_equal) depth 30
