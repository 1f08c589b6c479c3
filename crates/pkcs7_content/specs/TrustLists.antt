-- Certificate trust lists, with the parts that are read.
use Rattle.std.specs.Prelude.{map}
use Rattle.std.proofs.Common.{rules, refl}
use Rattle.asn1_core.specs.Asn1.{Contents, contents, ◌then◌, end, OBJECT_IDENTIFIER, OCTET_STRING, SEQUENCE, SEQUENCE_OF, SET_OF}
use Rattle.asn1_core.specs.Der.{SeesEqual, der_equal, OidOctets, octets_of}
use Rattle.asn1_leaves.specs.Asn1.{INTEGER, UTC_TIME}
use Rattle.asn1_leaves_times.specs.Times.{moment_of}
use Rattle.asn1_choices.specs.DefinedBy.{any_defined_by}
use Rattle.asn1_choices.specs.laws.DefinedByLaws.{lawful_any_defined_by}
use Rattle.x509_base.specs.Algorithms.{algorithm_identifier}
use Rattle.x509_base.specs.AlgorithmParts.{algorithm_identifier_value}
use Rattle.pkcs7_content.specs.AttributeValues.{AttributeValues, values_defined_by, attribute_values_value, attribute_values_equal}
use Rattle.pkcs7_content.specs.laws.AttributeValues.{values_are_defined_by}
use Rattle.pkcs7_content.specs.declared.trust_lists.attributes.CTLEntryAttribute.{CTLEntryAttribute}
use Rattle.pkcs7_content.specs.declared.trust_lists.entries.CTLEntry.{CTLEntry}
use Rattle.pkcs7_content.specs.declared.trust_lists.entries.Ctl.{Ctl}
use Rattle.asn1_leaves_times.specs.laws.TimesLaws.{equal_utc}
use Rattle.x509_base.specs.contracts.algorithms.AlgorithmIdentifierPartialEq.TheImpl as AlgorithmEq
use Rattle.pkcs7_content.specs.contracts.trust_lists.attributes.CTLEntryAttributePartialEq.TheImpl as AttributeEq
use Rattle.pkcs7_content.specs.contracts.trust_lists.entries.CTLEntryPartialEq.TheImpl as EntryEq
use Rattle.pkcs7_content.specs.contracts.trust_lists.entries.CtlPartialEq.TheImpl as CtlEq

-- Attribute ::= SEQUENCE { type OBJECT IDENTIFIER, values SET OF ANY DEFINED BY type }
abbrev pub ctl_entry_attribute : Contents
ctl_entry_attribute = record { Value = OidOctets × AttributeValues; format = any_defined_by values_defined_by; law = lawful_any_defined_by values_defined_by values_are_defined_by }

abbrev pub ctl_entry_attribute_value : CTLEntryAttribute → ctl_entry_attribute.Value
ctl_entry_attribute_value x = (octets_of x.oid.0, attribute_values_value x.value)

-- TrustedSubject ::= SEQUENCE { subjectIdentifier OCTET STRING, subjectAttributes SET OF Attribute }
abbrev pub ctl_entry : Contents
ctl_entry = contents (OCTET_STRING then SET_OF (SEQUENCE ctl_entry_attribute) then end) refl

abbrev pub ctl_entry_value : CTLEntry → ctl_entry.Value
ctl_entry_value x = (x.cert_fingerprint.0.items, (map ctl_entry_attribute_value x.attributes.0.items, tt))

-- CertificateTrustList ::= SEQUENCE { subjectUsage SEQUENCE OF OBJECT IDENTIFIER, sequenceNumber INTEGER,
--   thisUpdate UTCTime, subjectAlgorithm AlgorithmIdentifier, trustedSubjects SEQUENCE OF TrustedSubject }
abbrev pub ctl : Contents
ctl =
    contents (SEQUENCE_OF OBJECT_IDENTIFIER then INTEGER then UTC_TIME then SEQUENCE algorithm_identifier then
    SEQUENCE_OF (SEQUENCE ctl_entry) then end) refl

abbrev pub ctl_value : Ctl → ctl.Value
ctl_value x = (map (λ o. octets_of o.0) x.signers.0.items, (x.sequence_number.0.items, (moment_of x.effective_date.0, (algorithm_identifier_value x.digest_algorithm, (map ctl_entry_value x.crl_entries.0.items, tt)))))

pub ctl_entry_attribute_equal : SeesEqual AttributeEq.ghosts.eq ctl_entry_attribute_value
ctl_entry_attribute_equal x y = search (der_equal, attribute_values_equal) depth 20

pub ctl_entry_equal : SeesEqual EntryEq.ghosts.eq ctl_entry_value
ctl_entry_equal x y = search (der_equal, ctl_entry_attribute_equal) depth 20

algorithm_equal : SeesEqual AlgorithmEq.ghosts.eq algorithm_identifier_value
algorithm_equal x y = search rules

pub ctl_equal : SeesEqual CtlEq.ghosts.eq ctl_value
ctl_equal x y = search (der_equal, equal_utc, algorithm_equal, ctl_entry_equal) depth 20
