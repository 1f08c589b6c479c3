-- The types of PKIX1Implicit88, made of rfc5280-implicit.asn1; not to be edited.
use Rattle.asn1_core.specs.Asn1.{ANY, Asn1, BOOLEAN_or_FALSE, CHOICE, Contents, EXPLICIT, IMPLICIT, IMPLICIT_default, INTEGER_or, OBJECT_IDENTIFIER, OCTET_STRING, SEQUENCE, SEQUENCE_OF, contents, end, ◌then◌, ◌OPTIONAL◌, ◌DEFAULT◌}
use Rattle.asn1_leaves.specs.Asn1.{BIT_STRING, BMP_STRING, GENERALIZED_TIME, IA5_STRING, INTEGER, UTF8_STRING}
use Rattle.std.proofs.lemmas.Bool.Decides.{Decides-eqb}
use Rattle.asn1_module_leaves.specs.Asn1.{ENUMERATED_of, VISIBLE_STRING}
use Rattle.std.specs.Prelude.{List, map, ℕ, [], ◌∷◌}
use Rattle.asn1_core.specs.Der.{SeesEqual, list_equal, octets_of, option_equal, option_value, raw_equal, same_first, same_second, two_equal, with_end}
use Rattle.x509_base.specs.Names.{attribute, name, name_equal, name_parts, name_value_equal, name_value_value}
use Rattle.asn1_module_leaves.specs.LeavesEqual.{bits_equal, bmp_equal, ia5_equal, integer_equal, utf8_equal}
use Rattle.std.specs.Cmp.{booleans_Decides}
use Rattle.std.proofs.lemmas.Slice.Eq.{bytes_eq-Decides}
use Rattle.rfc5280.specs.Pkix1Explicit88.{certificate_serial_number, directory_string, directory_string_equal, directory_string_value, relative_distinguished_name}
use Rattle.asn1_leaves_strings.specs.Octets.{contents_of, octets_of_bmp, octets_of_ia5, octets_of_utf8}
use Rattle.asn1_module_leaves.specs.laws.Differ.{differ}
use Rattle.asn1_leaves_times.specs.laws.TimesLaws.{equal_generalized}
use Rattle.std.proofs.Common.{inl, inr, refl, rules}
use Rattle.asn1_leaves_times.specs.Times.{moment_of_generalized}
use Rattle.asn1_core.specs.laws.ViewsEqual.{oid_equal}
use Rattle.rfc5280.specs.declared.pkix1_implicit88.AnotherName.{AnotherName}
use Rattle.rfc5280.specs.contracts.pkix1_implicit88.AnotherNamePartialEq.TheImpl as AnotherNameEq
use Rattle.rfc5280.specs.declared.pkix1_implicit88.EdiPartyName.{EdiPartyName}
use Rattle.rfc5280.specs.contracts.pkix1_implicit88.EdiPartyNamePartialEq.TheImpl as EdiPartyNameEq
use Rattle.rfc5280.specs.declared.pkix1_implicit88.GeneralName.{GeneralName}
use Rattle.rfc5280.specs.declared.pkix1_implicit88.GeneralName.TheVariants as GeneralNameIs
use Rattle.rfc5280.specs.contracts.pkix1_implicit88.GeneralNamePartialEq.TheImpl as GeneralNameEq
use Rattle.rfc5280.specs.declared.pkix1_implicit88.AuthorityKeyIdentifier.{AuthorityKeyIdentifier}
use Rattle.rfc5280.specs.contracts.pkix1_implicit88.AuthorityKeyIdentifierPartialEq.TheImpl as AuthorityKeyIdentifierEq
use Rattle.rfc5280.specs.declared.pkix1_implicit88.PrivateKeyUsagePeriod.{PrivateKeyUsagePeriod}
use Rattle.rfc5280.specs.contracts.pkix1_implicit88.PrivateKeyUsagePeriodPartialEq.TheImpl as PrivateKeyUsagePeriodEq
use Rattle.rfc5280.specs.declared.pkix1_implicit88.PolicyQualifierInfo.{PolicyQualifierInfo}
use Rattle.rfc5280.specs.contracts.pkix1_implicit88.PolicyQualifierInfoPartialEq.TheImpl as PolicyQualifierInfoEq
use Rattle.rfc5280.specs.declared.pkix1_implicit88.PolicyInformation.{PolicyInformation}
use Rattle.rfc5280.specs.contracts.pkix1_implicit88.PolicyInformationPartialEq.TheImpl as PolicyInformationEq
use Rattle.rfc5280.specs.declared.pkix1_implicit88.DisplayText.{DisplayText}
use Rattle.rfc5280.specs.declared.pkix1_implicit88.DisplayText.TheVariants as DisplayTextIs
use Rattle.rfc5280.specs.contracts.pkix1_implicit88.DisplayTextPartialEq.TheImpl as DisplayTextEq
use Rattle.rfc5280.specs.declared.pkix1_implicit88.NoticeReference.{NoticeReference}
use Rattle.rfc5280.specs.contracts.pkix1_implicit88.NoticeReferencePartialEq.TheImpl as NoticeReferenceEq
use Rattle.rfc5280.specs.declared.pkix1_implicit88.UserNotice.{UserNotice}
use Rattle.rfc5280.specs.contracts.pkix1_implicit88.UserNoticePartialEq.TheImpl as UserNoticeEq
use Rattle.rfc5280.specs.declared.pkix1_implicit88.PolicyMappingsItem.{PolicyMappingsItem}
use Rattle.rfc5280.specs.contracts.pkix1_implicit88.PolicyMappingsItemPartialEq.TheImpl as PolicyMappingsItemEq
use Rattle.rfc5280.specs.declared.pkix1_implicit88.BasicConstraints.{BasicConstraints}
use Rattle.rfc5280.specs.contracts.pkix1_implicit88.BasicConstraintsPartialEq.TheImpl as BasicConstraintsEq
use Rattle.rfc5280.specs.declared.pkix1_implicit88.GeneralSubtree.{GeneralSubtree}
use Rattle.rfc5280.specs.contracts.pkix1_implicit88.GeneralSubtreePartialEq.TheImpl as GeneralSubtreeEq
use Rattle.rfc5280.specs.declared.pkix1_implicit88.NameConstraints.{NameConstraints}
use Rattle.rfc5280.specs.contracts.pkix1_implicit88.NameConstraintsPartialEq.TheImpl as NameConstraintsEq
use Rattle.rfc5280.specs.declared.pkix1_implicit88.PolicyConstraints.{PolicyConstraints}
use Rattle.rfc5280.specs.contracts.pkix1_implicit88.PolicyConstraintsPartialEq.TheImpl as PolicyConstraintsEq
use Rattle.rfc5280.specs.declared.pkix1_implicit88.DistributionPointName.{DistributionPointName}
use Rattle.rfc5280.specs.declared.pkix1_implicit88.DistributionPointName.TheVariants as DistributionPointNameIs
use Rattle.rfc5280.specs.contracts.pkix1_implicit88.DistributionPointNamePartialEq.TheImpl as DistributionPointNameEq
use Rattle.rfc5280.specs.declared.pkix1_implicit88.DistributionPoint.{DistributionPoint}
use Rattle.rfc5280.specs.contracts.pkix1_implicit88.DistributionPointPartialEq.TheImpl as DistributionPointEq
use Rattle.rfc5280.specs.declared.pkix1_implicit88.AccessDescription.{AccessDescription}
use Rattle.rfc5280.specs.contracts.pkix1_implicit88.AccessDescriptionPartialEq.TheImpl as AccessDescriptionEq
use Rattle.rfc5280.specs.declared.pkix1_implicit88.IssuingDistributionPoint.{IssuingDistributionPoint}
use Rattle.rfc5280.specs.contracts.pkix1_implicit88.IssuingDistributionPointPartialEq.TheImpl as IssuingDistributionPointEq
use Rattle.rfc5280.specs.declared.pkix1_implicit88.CrlReason.{CrlReason}
use Rattle.rfc5280.specs.declared.pkix1_implicit88.CrlReason.TheVariants as CrlReasonIs
use Rattle.rfc5280.specs.contracts.pkix1_implicit88.CrlReasonPartialEq.TheImpl as CrlReasonEq

-- KeyIdentifier ::= OCTET STRING (RFC 5280, 4.2.1.1)
abbrev pub key_identifier : Asn1
key_identifier = OCTET_STRING

-- AnotherName ::= SEQUENCE { type-id OBJECT IDENTIFIER, value [0] EXPLICIT ANY DEFINED BY type-id } (RFC 5280,
--   4.2.1.6)
abbrev pub another_name : Contents
another_name =
    contents (OBJECT_IDENTIFIER then EXPLICIT 0 ANY then end) refl

abbrev pub another_name_value : AnotherName → another_name.Value
another_name_value x = (octets_of x.type_id.0, (x.value.0.0.items, tt))

pub another_name_equal : SeesEqual AnotherNameEq.ghosts.eq another_name_value
another_name_equal x y = two_equal (oid_equal x.type_id y.type_id) (with_end (raw_equal x.value.0 y.value.0))

-- ORAddress ::= SEQUENCE OF ANY (RFC 5280, 4.2.1.6)
abbrev pub or_address : Asn1
or_address = SEQUENCE_OF ANY

-- EDIPartyName ::= SEQUENCE { nameAssigner [0] DirectoryString OPTIONAL, partyName [1] DirectoryString } (RFC
--   5280, 4.2.1.6)
abbrev pub edi_party_name : Contents
edi_party_name =
    contents (EXPLICIT 0 directory_string OPTIONAL EXPLICIT 1 directory_string then end) refl

abbrev pub edi_party_name_value : EdiPartyName → edi_party_name.Value
edi_party_name_value x = (option_value (λ y. directory_string_value y.0) x.name_assigner, (directory_string_value x.party_name.0, tt))

pub edi_party_name_equal : SeesEqual EdiPartyNameEq.ghosts.eq edi_party_name_value
edi_party_name_equal x y = two_equal (option_equal _ (λ y. directory_string_value y.0) (λ x y. directory_string_equal x.0 y.0) x.name_assigner y.name_assigner) (with_end (directory_string_equal x.party_name.0 y.party_name.0))

-- GeneralName ::= CHOICE { otherName [0] AnotherName, rfc822Name [1] IA5String, dNSName [2] IA5String, x400Address
--   [3] ORAddress, directoryName [4] Name, ediPartyName [5] EDIPartyName, uniformResourceIdentifier [6] IA5String,
--   iPAddress [7] OCTET STRING, registeredID [8] OBJECT IDENTIFIER } (RFC 5280, 4.2.1.6)
abbrev pub general_name : Asn1
general_name =
    CHOICE (IMPLICIT 0 (SEQUENCE another_name)) (CHOICE (IMPLICIT 1 IA5_STRING) (CHOICE (IMPLICIT 2 IA5_STRING)
    (CHOICE (IMPLICIT 3 or_address) (CHOICE (EXPLICIT 4 (SEQUENCE name)) (CHOICE (IMPLICIT 5 (SEQUENCE
    edi_party_name)) (CHOICE (IMPLICIT 6 IA5_STRING) (CHOICE (IMPLICIT 7 OCTET_STRING) (IMPLICIT 8
    OBJECT_IDENTIFIER) refl) refl) refl) refl) refl) refl) refl) refl

abbrev pub general_name_value : GeneralName → general_name.Value
general_name_value (GeneralNameIs.OtherName x) = inl (another_name_value x)
general_name_value (GeneralNameIs.Rfc822Name x) = inr (inl (octets_of_ia5 x.0))
general_name_value (GeneralNameIs.DnsName x) = inr (inr (inl (octets_of_ia5 x.0)))
general_name_value (GeneralNameIs.X400Address x) = inr (inr (inr (inl (map (λ y. y.0.items) x.0.items))))
general_name_value (GeneralNameIs.DirectoryName x) = inr (inr (inr (inr (inl (name_parts x)))))
general_name_value (GeneralNameIs.EdiPartyName x) = inr (inr (inr (inr (inr (inl (edi_party_name_value x))))))
general_name_value (GeneralNameIs.UniformResourceIdentifier x) = inr (inr (inr (inr (inr (inr (inl (octets_of_ia5 x.0)))))))
general_name_value (GeneralNameIs.IpAddress x) = inr (inr (inr (inr (inr (inr (inr (inl x.0.items)))))))
general_name_value (GeneralNameIs.RegisteredId x) = inr (inr (inr (inr (inr (inr (inr (inr (octets_of x.0))))))))

-- which alternative a value is
abbrev general_name_which : general_name.Value → ℕ
general_name_which (inl v) = 0
general_name_which (inr (inl v)) = 1
general_name_which (inr (inr (inl v))) = 2
general_name_which (inr (inr (inr (inl v)))) = 3
general_name_which (inr (inr (inr (inr (inl v))))) = 4
general_name_which (inr (inr (inr (inr (inr (inl v)))))) = 5
general_name_which (inr (inr (inr (inr (inr (inr (inl v))))))) = 6
general_name_which (inr (inr (inr (inr (inr (inr (inr (inl v)))))))) = 7
general_name_which (inr (inr (inr (inr (inr (inr (inr (inr v)))))))) = 8

pub general_name_equal : SeesEqual GeneralNameEq.ghosts.eq general_name_value
general_name_equal (GeneralNameIs.OtherName x) (GeneralNameIs.OtherName y) = same_first (another_name_equal x y)
general_name_equal (GeneralNameIs.OtherName x) (GeneralNameIs.Rfc822Name y) = differ general_name_which refl refl refl
general_name_equal (GeneralNameIs.OtherName x) (GeneralNameIs.DnsName y) = differ general_name_which refl refl refl
general_name_equal (GeneralNameIs.OtherName x) (GeneralNameIs.X400Address y) = differ general_name_which refl refl refl
general_name_equal (GeneralNameIs.OtherName x) (GeneralNameIs.DirectoryName y) = differ general_name_which refl refl refl
general_name_equal (GeneralNameIs.OtherName x) (GeneralNameIs.EdiPartyName y) = differ general_name_which refl refl refl
general_name_equal (GeneralNameIs.OtherName x) (GeneralNameIs.UniformResourceIdentifier y) = differ general_name_which refl refl refl
general_name_equal (GeneralNameIs.OtherName x) (GeneralNameIs.IpAddress y) = differ general_name_which refl refl refl
general_name_equal (GeneralNameIs.OtherName x) (GeneralNameIs.RegisteredId y) = differ general_name_which refl refl refl
general_name_equal (GeneralNameIs.Rfc822Name x) (GeneralNameIs.OtherName y) = differ general_name_which refl refl refl
general_name_equal (GeneralNameIs.Rfc822Name x) (GeneralNameIs.Rfc822Name y) = same_second (same_first (ia5_equal x y))
general_name_equal (GeneralNameIs.Rfc822Name x) (GeneralNameIs.DnsName y) = differ general_name_which refl refl refl
general_name_equal (GeneralNameIs.Rfc822Name x) (GeneralNameIs.X400Address y) = differ general_name_which refl refl refl
general_name_equal (GeneralNameIs.Rfc822Name x) (GeneralNameIs.DirectoryName y) = differ general_name_which refl refl refl
general_name_equal (GeneralNameIs.Rfc822Name x) (GeneralNameIs.EdiPartyName y) = differ general_name_which refl refl refl
general_name_equal (GeneralNameIs.Rfc822Name x) (GeneralNameIs.UniformResourceIdentifier y) = differ general_name_which refl refl refl
general_name_equal (GeneralNameIs.Rfc822Name x) (GeneralNameIs.IpAddress y) = differ general_name_which refl refl refl
general_name_equal (GeneralNameIs.Rfc822Name x) (GeneralNameIs.RegisteredId y) = differ general_name_which refl refl refl
general_name_equal (GeneralNameIs.DnsName x) (GeneralNameIs.OtherName y) = differ general_name_which refl refl refl
general_name_equal (GeneralNameIs.DnsName x) (GeneralNameIs.Rfc822Name y) = differ general_name_which refl refl refl
general_name_equal (GeneralNameIs.DnsName x) (GeneralNameIs.DnsName y) = same_second (same_second (same_first (ia5_equal x y)))
general_name_equal (GeneralNameIs.DnsName x) (GeneralNameIs.X400Address y) = differ general_name_which refl refl refl
general_name_equal (GeneralNameIs.DnsName x) (GeneralNameIs.DirectoryName y) = differ general_name_which refl refl refl
general_name_equal (GeneralNameIs.DnsName x) (GeneralNameIs.EdiPartyName y) = differ general_name_which refl refl refl
general_name_equal (GeneralNameIs.DnsName x) (GeneralNameIs.UniformResourceIdentifier y) = differ general_name_which refl refl refl
general_name_equal (GeneralNameIs.DnsName x) (GeneralNameIs.IpAddress y) = differ general_name_which refl refl refl
general_name_equal (GeneralNameIs.DnsName x) (GeneralNameIs.RegisteredId y) = differ general_name_which refl refl refl
general_name_equal (GeneralNameIs.X400Address x) (GeneralNameIs.OtherName y) = differ general_name_which refl refl refl
general_name_equal (GeneralNameIs.X400Address x) (GeneralNameIs.Rfc822Name y) = differ general_name_which refl refl refl
general_name_equal (GeneralNameIs.X400Address x) (GeneralNameIs.DnsName y) = differ general_name_which refl refl refl
general_name_equal (GeneralNameIs.X400Address x) (GeneralNameIs.X400Address y) = same_second (same_second (same_second (same_first (list_equal _ (λ y. y.0.items) raw_equal x.0.items y.0.items))))
general_name_equal (GeneralNameIs.X400Address x) (GeneralNameIs.DirectoryName y) = differ general_name_which refl refl refl
general_name_equal (GeneralNameIs.X400Address x) (GeneralNameIs.EdiPartyName y) = differ general_name_which refl refl refl
general_name_equal (GeneralNameIs.X400Address x) (GeneralNameIs.UniformResourceIdentifier y) = differ general_name_which refl refl refl
general_name_equal (GeneralNameIs.X400Address x) (GeneralNameIs.IpAddress y) = differ general_name_which refl refl refl
general_name_equal (GeneralNameIs.X400Address x) (GeneralNameIs.RegisteredId y) = differ general_name_which refl refl refl
general_name_equal (GeneralNameIs.DirectoryName x) (GeneralNameIs.OtherName y) = differ general_name_which refl refl refl
general_name_equal (GeneralNameIs.DirectoryName x) (GeneralNameIs.Rfc822Name y) = differ general_name_which refl refl refl
general_name_equal (GeneralNameIs.DirectoryName x) (GeneralNameIs.DnsName y) = differ general_name_which refl refl refl
general_name_equal (GeneralNameIs.DirectoryName x) (GeneralNameIs.X400Address y) = differ general_name_which refl refl refl
general_name_equal (GeneralNameIs.DirectoryName x) (GeneralNameIs.DirectoryName y) = same_second (same_second (same_second (same_second (same_first (name_equal x y)))))
general_name_equal (GeneralNameIs.DirectoryName x) (GeneralNameIs.EdiPartyName y) = differ general_name_which refl refl refl
general_name_equal (GeneralNameIs.DirectoryName x) (GeneralNameIs.UniformResourceIdentifier y) = differ general_name_which refl refl refl
general_name_equal (GeneralNameIs.DirectoryName x) (GeneralNameIs.IpAddress y) = differ general_name_which refl refl refl
general_name_equal (GeneralNameIs.DirectoryName x) (GeneralNameIs.RegisteredId y) = differ general_name_which refl refl refl
general_name_equal (GeneralNameIs.EdiPartyName x) (GeneralNameIs.OtherName y) = differ general_name_which refl refl refl
general_name_equal (GeneralNameIs.EdiPartyName x) (GeneralNameIs.Rfc822Name y) = differ general_name_which refl refl refl
general_name_equal (GeneralNameIs.EdiPartyName x) (GeneralNameIs.DnsName y) = differ general_name_which refl refl refl
general_name_equal (GeneralNameIs.EdiPartyName x) (GeneralNameIs.X400Address y) = differ general_name_which refl refl refl
general_name_equal (GeneralNameIs.EdiPartyName x) (GeneralNameIs.DirectoryName y) = differ general_name_which refl refl refl
general_name_equal (GeneralNameIs.EdiPartyName x) (GeneralNameIs.EdiPartyName y) = same_second (same_second (same_second (same_second (same_second (same_first (edi_party_name_equal x y))))))
general_name_equal (GeneralNameIs.EdiPartyName x) (GeneralNameIs.UniformResourceIdentifier y) = differ general_name_which refl refl refl
general_name_equal (GeneralNameIs.EdiPartyName x) (GeneralNameIs.IpAddress y) = differ general_name_which refl refl refl
general_name_equal (GeneralNameIs.EdiPartyName x) (GeneralNameIs.RegisteredId y) = differ general_name_which refl refl refl
general_name_equal (GeneralNameIs.UniformResourceIdentifier x) (GeneralNameIs.OtherName y) = differ general_name_which refl refl refl
general_name_equal (GeneralNameIs.UniformResourceIdentifier x) (GeneralNameIs.Rfc822Name y) = differ general_name_which refl refl refl
general_name_equal (GeneralNameIs.UniformResourceIdentifier x) (GeneralNameIs.DnsName y) = differ general_name_which refl refl refl
general_name_equal (GeneralNameIs.UniformResourceIdentifier x) (GeneralNameIs.X400Address y) = differ general_name_which refl refl refl
general_name_equal (GeneralNameIs.UniformResourceIdentifier x) (GeneralNameIs.DirectoryName y) = differ general_name_which refl refl refl
general_name_equal (GeneralNameIs.UniformResourceIdentifier x) (GeneralNameIs.EdiPartyName y) = differ general_name_which refl refl refl
general_name_equal (GeneralNameIs.UniformResourceIdentifier x) (GeneralNameIs.UniformResourceIdentifier y) = same_second (same_second (same_second (same_second (same_second (same_second (same_first (ia5_equal x y)))))))
general_name_equal (GeneralNameIs.UniformResourceIdentifier x) (GeneralNameIs.IpAddress y) = differ general_name_which refl refl refl
general_name_equal (GeneralNameIs.UniformResourceIdentifier x) (GeneralNameIs.RegisteredId y) = differ general_name_which refl refl refl
general_name_equal (GeneralNameIs.IpAddress x) (GeneralNameIs.OtherName y) = differ general_name_which refl refl refl
general_name_equal (GeneralNameIs.IpAddress x) (GeneralNameIs.Rfc822Name y) = differ general_name_which refl refl refl
general_name_equal (GeneralNameIs.IpAddress x) (GeneralNameIs.DnsName y) = differ general_name_which refl refl refl
general_name_equal (GeneralNameIs.IpAddress x) (GeneralNameIs.X400Address y) = differ general_name_which refl refl refl
general_name_equal (GeneralNameIs.IpAddress x) (GeneralNameIs.DirectoryName y) = differ general_name_which refl refl refl
general_name_equal (GeneralNameIs.IpAddress x) (GeneralNameIs.EdiPartyName y) = differ general_name_which refl refl refl
general_name_equal (GeneralNameIs.IpAddress x) (GeneralNameIs.UniformResourceIdentifier y) = differ general_name_which refl refl refl
general_name_equal (GeneralNameIs.IpAddress x) (GeneralNameIs.IpAddress y) = same_second (same_second (same_second (same_second (same_second (same_second (same_second (same_first (bytes_eq-Decides x.0.items y.0.items))))))))
general_name_equal (GeneralNameIs.IpAddress x) (GeneralNameIs.RegisteredId y) = differ general_name_which refl refl refl
general_name_equal (GeneralNameIs.RegisteredId x) (GeneralNameIs.OtherName y) = differ general_name_which refl refl refl
general_name_equal (GeneralNameIs.RegisteredId x) (GeneralNameIs.Rfc822Name y) = differ general_name_which refl refl refl
general_name_equal (GeneralNameIs.RegisteredId x) (GeneralNameIs.DnsName y) = differ general_name_which refl refl refl
general_name_equal (GeneralNameIs.RegisteredId x) (GeneralNameIs.X400Address y) = differ general_name_which refl refl refl
general_name_equal (GeneralNameIs.RegisteredId x) (GeneralNameIs.DirectoryName y) = differ general_name_which refl refl refl
general_name_equal (GeneralNameIs.RegisteredId x) (GeneralNameIs.EdiPartyName y) = differ general_name_which refl refl refl
general_name_equal (GeneralNameIs.RegisteredId x) (GeneralNameIs.UniformResourceIdentifier y) = differ general_name_which refl refl refl
general_name_equal (GeneralNameIs.RegisteredId x) (GeneralNameIs.IpAddress y) = differ general_name_which refl refl refl
general_name_equal (GeneralNameIs.RegisteredId x) (GeneralNameIs.RegisteredId y) = same_second (same_second (same_second (same_second (same_second (same_second (same_second (same_second (oid_equal x y))))))))

-- GeneralNames ::= SEQUENCE SIZE (1..MAX) OF GeneralName (RFC 5280, 4.2.1.6)
abbrev pub general_names : Asn1
general_names = SEQUENCE_OF general_name

-- AuthorityKeyIdentifier ::= SEQUENCE { keyIdentifier [0] KeyIdentifier OPTIONAL, authorityCertIssuer [1]
--   GeneralNames OPTIONAL, authorityCertSerialNumber [2] CertificateSerialNumber OPTIONAL } (RFC 5280, 4.2.1.1)
abbrev pub authority_key_identifier : Contents
authority_key_identifier =
    contents (IMPLICIT 0 key_identifier OPTIONAL IMPLICIT 1 general_names OPTIONAL IMPLICIT 2
    certificate_serial_number OPTIONAL end) refl

abbrev pub authority_key_identifier_value : AuthorityKeyIdentifier → authority_key_identifier.Value
authority_key_identifier_value x = (option_value (λ y. y.0.0.items) x.key_identifier, (option_value (λ y. map general_name_value y.0.0.items) x.authority_cert_issuer, (option_value (λ y. y.0.0.items) x.authority_cert_serial_number, tt)))

pub authority_key_identifier_equal : SeesEqual AuthorityKeyIdentifierEq.ghosts.eq authority_key_identifier_value
authority_key_identifier_equal x y = two_equal (option_equal _ (λ y. y.0.0.items) (λ x y. bytes_eq-Decides x.0.0.items y.0.0.items) x.key_identifier y.key_identifier) (two_equal (option_equal _ (λ y. map general_name_value y.0.0.items) (λ x y. list_equal _ general_name_value general_name_equal x.0.0.items y.0.0.items) x.authority_cert_issuer y.authority_cert_issuer) (with_end (option_equal _ (λ y. y.0.0.items) (λ x y. integer_equal x.0 y.0) x.authority_cert_serial_number y.authority_cert_serial_number)))

-- SubjectKeyIdentifier ::= KeyIdentifier (RFC 5280, 4.2.1.2)
abbrev pub subject_key_identifier : Asn1
subject_key_identifier = key_identifier

-- KeyUsage ::= BIT STRING { digitalSignature(0), nonRepudiation(1), keyEncipherment(2), dataEncipherment(3),
--   keyAgreement(4), keyCertSign(5), cRLSign(6), encipherOnly(7), decipherOnly(8) } (RFC 5280, 4.2.1.3)
abbrev pub key_usage : Asn1
key_usage = BIT_STRING

-- PrivateKeyUsagePeriod ::= SEQUENCE { notBefore [0] GeneralizedTime OPTIONAL, notAfter [1] GeneralizedTime
--   OPTIONAL } (RFC 5280, A.2)
abbrev pub private_key_usage_period : Contents
private_key_usage_period =
    contents (IMPLICIT 0 GENERALIZED_TIME OPTIONAL IMPLICIT 1 GENERALIZED_TIME OPTIONAL end) refl

abbrev pub private_key_usage_period_value : PrivateKeyUsagePeriod → private_key_usage_period.Value
private_key_usage_period_value x = (option_value (λ y. moment_of_generalized y.0.0) x.not_before, (option_value (λ y. moment_of_generalized y.0.0) x.not_after, tt))

pub private_key_usage_period_equal : SeesEqual PrivateKeyUsagePeriodEq.ghosts.eq private_key_usage_period_value
private_key_usage_period_equal x y = two_equal (option_equal _ (λ y. moment_of_generalized y.0.0) (λ x y. equal_generalized x.0.0 y.0.0) x.not_before y.not_before) (with_end (option_equal _ (λ y. moment_of_generalized y.0.0) (λ x y. equal_generalized x.0.0 y.0.0) x.not_after y.not_after))

-- CertPolicyId ::= OBJECT IDENTIFIER (RFC 5280, 4.2.1.4)
abbrev pub cert_policy_id : Asn1
cert_policy_id = OBJECT_IDENTIFIER

-- PolicyQualifierId ::= OBJECT IDENTIFIER (RFC 5280, 4.2.1.4)
abbrev pub policy_qualifier_id : Asn1
policy_qualifier_id = OBJECT_IDENTIFIER

-- PolicyQualifierInfo ::= SEQUENCE { policyQualifierId PolicyQualifierId, qualifier ANY DEFINED BY
--   policyQualifierId } (RFC 5280, 4.2.1.4)
abbrev pub policy_qualifier_info : Contents
policy_qualifier_info =
    contents (policy_qualifier_id then ANY then end) refl

abbrev pub policy_qualifier_info_value : PolicyQualifierInfo → policy_qualifier_info.Value
policy_qualifier_info_value x = (octets_of x.policy_qualifier_id.0, (x.qualifier.0.items, tt))

pub policy_qualifier_info_equal : SeesEqual PolicyQualifierInfoEq.ghosts.eq policy_qualifier_info_value
policy_qualifier_info_equal x y = two_equal (oid_equal x.policy_qualifier_id y.policy_qualifier_id) (with_end (raw_equal x.qualifier y.qualifier))

-- PolicyInformation ::= SEQUENCE { policyIdentifier CertPolicyId, policyQualifiers SEQUENCE SIZE (1..MAX) OF
--   PolicyQualifierInfo OPTIONAL } (RFC 5280, 4.2.1.4)
abbrev pub policy_information : Contents
policy_information =
    contents (cert_policy_id then SEQUENCE_OF (SEQUENCE policy_qualifier_info) OPTIONAL end) refl

abbrev pub policy_information_value : PolicyInformation → policy_information.Value
policy_information_value x = (octets_of x.policy_identifier.0, (option_value (λ y. map policy_qualifier_info_value y.0.items) x.policy_qualifiers, tt))

pub policy_information_equal : SeesEqual PolicyInformationEq.ghosts.eq policy_information_value
policy_information_equal x y = two_equal (oid_equal x.policy_identifier y.policy_identifier) (with_end (option_equal _ (λ y. map policy_qualifier_info_value y.0.items) (λ x y. list_equal _ policy_qualifier_info_value policy_qualifier_info_equal x.0.items y.0.items) x.policy_qualifiers y.policy_qualifiers))

-- CertificatePolicies ::= SEQUENCE SIZE (1..MAX) OF PolicyInformation (RFC 5280, 4.2.1.4)
abbrev pub certificate_policies : Asn1
certificate_policies = SEQUENCE_OF (SEQUENCE policy_information)

-- CPSuri ::= IA5String (RFC 5280, 4.2.1.4)
abbrev pub cp_suri : Asn1
cp_suri = IA5_STRING

-- DisplayText ::= CHOICE { ia5String IA5String (SIZE (1..200)), visibleString VisibleString (SIZE (1..200)),
--   bmpString BMPString (SIZE (1..200)), utf8String UTF8String (SIZE (1..200)) } (RFC 5280, 4.2.1.4)
abbrev pub display_text : Asn1
display_text =
    CHOICE IA5_STRING (CHOICE VISIBLE_STRING (CHOICE BMP_STRING UTF8_STRING refl) refl) refl

abbrev pub display_text_value : DisplayText → display_text.Value
display_text_value (DisplayTextIs.Ia5String x) = inl (octets_of_ia5 x.0)
display_text_value (DisplayTextIs.VisibleString x) = inr (inl x.0.items)
display_text_value (DisplayTextIs.BmpString x) = inr (inr (inl (octets_of_bmp x.0)))
display_text_value (DisplayTextIs.Utf8String x) = inr (inr (inr (octets_of_utf8 x.0)))

-- which alternative a value is
abbrev display_text_which : display_text.Value → ℕ
display_text_which (inl v) = 0
display_text_which (inr (inl v)) = 1
display_text_which (inr (inr (inl v))) = 2
display_text_which (inr (inr (inr v))) = 3

pub display_text_equal : SeesEqual DisplayTextEq.ghosts.eq display_text_value
display_text_equal (DisplayTextIs.Ia5String x) (DisplayTextIs.Ia5String y) = same_first (ia5_equal x y)
display_text_equal (DisplayTextIs.Ia5String x) (DisplayTextIs.VisibleString y) = differ display_text_which refl refl refl
display_text_equal (DisplayTextIs.Ia5String x) (DisplayTextIs.BmpString y) = differ display_text_which refl refl refl
display_text_equal (DisplayTextIs.Ia5String x) (DisplayTextIs.Utf8String y) = differ display_text_which refl refl refl
display_text_equal (DisplayTextIs.VisibleString x) (DisplayTextIs.Ia5String y) = differ display_text_which refl refl refl
display_text_equal (DisplayTextIs.VisibleString x) (DisplayTextIs.VisibleString y) = same_second (same_first (bytes_eq-Decides x.0.items y.0.items))
display_text_equal (DisplayTextIs.VisibleString x) (DisplayTextIs.BmpString y) = differ display_text_which refl refl refl
display_text_equal (DisplayTextIs.VisibleString x) (DisplayTextIs.Utf8String y) = differ display_text_which refl refl refl
display_text_equal (DisplayTextIs.BmpString x) (DisplayTextIs.Ia5String y) = differ display_text_which refl refl refl
display_text_equal (DisplayTextIs.BmpString x) (DisplayTextIs.VisibleString y) = differ display_text_which refl refl refl
display_text_equal (DisplayTextIs.BmpString x) (DisplayTextIs.BmpString y) = same_second (same_second (same_first (bmp_equal x y)))
display_text_equal (DisplayTextIs.BmpString x) (DisplayTextIs.Utf8String y) = differ display_text_which refl refl refl
display_text_equal (DisplayTextIs.Utf8String x) (DisplayTextIs.Ia5String y) = differ display_text_which refl refl refl
display_text_equal (DisplayTextIs.Utf8String x) (DisplayTextIs.VisibleString y) = differ display_text_which refl refl refl
display_text_equal (DisplayTextIs.Utf8String x) (DisplayTextIs.BmpString y) = differ display_text_which refl refl refl
display_text_equal (DisplayTextIs.Utf8String x) (DisplayTextIs.Utf8String y) = same_second (same_second (same_second (utf8_equal x y)))

-- NoticeReference ::= SEQUENCE { organization DisplayText, noticeNumbers SEQUENCE OF INTEGER } (RFC 5280, 4.2.1.4)
abbrev pub notice_reference : Contents
notice_reference =
    contents (display_text then SEQUENCE_OF INTEGER then end) refl

abbrev pub notice_reference_value : NoticeReference → notice_reference.Value
notice_reference_value x = (display_text_value x.organization, (map (λ y. y.0.items) x.notice_numbers.0.items, tt))

pub notice_reference_equal : SeesEqual NoticeReferenceEq.ghosts.eq notice_reference_value
notice_reference_equal x y = two_equal (display_text_equal x.organization y.organization) (with_end (list_equal _ (λ y. y.0.items) integer_equal x.notice_numbers.0.items y.notice_numbers.0.items))

-- UserNotice ::= SEQUENCE { noticeRef NoticeReference OPTIONAL, explicitText DisplayText OPTIONAL } (RFC 5280,
--   4.2.1.4)
abbrev pub user_notice : Contents
user_notice =
    contents (SEQUENCE notice_reference OPTIONAL display_text OPTIONAL end) refl

abbrev pub user_notice_value : UserNotice → user_notice.Value
user_notice_value x = (option_value notice_reference_value x.notice_ref, (option_value display_text_value x.explicit_text, tt))

pub user_notice_equal : SeesEqual UserNoticeEq.ghosts.eq user_notice_value
user_notice_equal x y = two_equal (option_equal _ notice_reference_value notice_reference_equal x.notice_ref y.notice_ref) (with_end (option_equal _ display_text_value display_text_equal x.explicit_text y.explicit_text))

-- PolicyMappings.item ::= SEQUENCE { issuerDomainPolicy CertPolicyId, subjectDomainPolicy CertPolicyId } (RFC
--   5280, 4.2.1.5)
abbrev pub policy_mappings_item : Contents
policy_mappings_item =
    contents (cert_policy_id then cert_policy_id then end) refl

abbrev pub policy_mappings_item_value : PolicyMappingsItem → policy_mappings_item.Value
policy_mappings_item_value x = (octets_of x.issuer_domain_policy.0, (octets_of x.subject_domain_policy.0, tt))

pub policy_mappings_item_equal : SeesEqual PolicyMappingsItemEq.ghosts.eq policy_mappings_item_value
policy_mappings_item_equal x y = two_equal (oid_equal x.issuer_domain_policy y.issuer_domain_policy) (with_end (oid_equal x.subject_domain_policy y.subject_domain_policy))

-- PolicyMappings ::= SEQUENCE SIZE (1..MAX) OF SEQUENCE { issuerDomainPolicy CertPolicyId, subjectDomainPolicy
--   CertPolicyId } (RFC 5280, 4.2.1.5)
abbrev pub policy_mappings : Asn1
policy_mappings = SEQUENCE_OF (SEQUENCE policy_mappings_item)

-- SubjectAltName ::= GeneralNames (RFC 5280, 4.2.1.6)
abbrev pub subject_alt_name : Asn1
subject_alt_name = general_names

-- IssuerAltName ::= GeneralNames (RFC 5280, 4.2.1.7)
abbrev pub issuer_alt_name : Asn1
issuer_alt_name = general_names

-- SubjectDirectoryAttributes ::= SEQUENCE SIZE (1..MAX) OF Attribute (RFC 5280, 4.2.1.8)
abbrev pub subject_directory_attributes : Asn1
subject_directory_attributes = SEQUENCE_OF (SEQUENCE attribute)

-- BasicConstraints ::= SEQUENCE { cA BOOLEAN DEFAULT FALSE, pathLenConstraint INTEGER (0..MAX) OPTIONAL } (RFC
--   5280, 4.2.1.9)
abbrev pub basic_constraints : Contents
basic_constraints =
    contents (BOOLEAN_or_FALSE DEFAULT INTEGER OPTIONAL end) refl

abbrev pub basic_constraints_value : BasicConstraints → basic_constraints.Value
basic_constraints_value x = (x.ca, (option_value (λ y. y.0.items) x.path_len_constraint, tt))

pub basic_constraints_equal : SeesEqual BasicConstraintsEq.ghosts.eq basic_constraints_value
basic_constraints_equal x y = two_equal (booleans_Decides x.ca y.ca) (with_end (option_equal _ (λ y. y.0.items) integer_equal x.path_len_constraint y.path_len_constraint))

-- BaseDistance ::= INTEGER (0..MAX) (RFC 5280, 4.2.1.10)
abbrev pub base_distance : Asn1
base_distance = INTEGER

-- GeneralSubtree ::= SEQUENCE { base GeneralName, minimum [0] BaseDistance DEFAULT 0, maximum [1] BaseDistance
--   OPTIONAL } (RFC 5280, 4.2.1.10)
abbrev pub general_subtree : Contents
general_subtree =
    contents (general_name then IMPLICIT_default 0 (INTEGER_or 0 refl) DEFAULT IMPLICIT 1 base_distance OPTIONAL
    end) refl

abbrev pub general_subtree_value : GeneralSubtree → general_subtree.Value
general_subtree_value x = (general_name_value x.base, (x.minimum.0.0, (option_value (λ y. y.0.0.items) x.maximum, tt)))

pub general_subtree_equal : SeesEqual GeneralSubtreeEq.ghosts.eq general_subtree_value
general_subtree_equal x y = two_equal (general_name_equal x.base y.base) (two_equal (Decides-eqb x.minimum.0.0 y.minimum.0.0) (with_end (option_equal _ (λ y. y.0.0.items) (λ x y. integer_equal x.0 y.0) x.maximum y.maximum)))

-- GeneralSubtrees ::= SEQUENCE SIZE (1..MAX) OF GeneralSubtree (RFC 5280, 4.2.1.10)
abbrev pub general_subtrees : Asn1
general_subtrees = SEQUENCE_OF (SEQUENCE general_subtree)

-- NameConstraints ::= SEQUENCE { permittedSubtrees [0] GeneralSubtrees OPTIONAL, excludedSubtrees [1]
--   GeneralSubtrees OPTIONAL } (RFC 5280, 4.2.1.10)
abbrev pub name_constraints : Contents
name_constraints =
    contents (IMPLICIT 0 general_subtrees OPTIONAL IMPLICIT 1 general_subtrees OPTIONAL end) refl

abbrev pub name_constraints_value : NameConstraints → name_constraints.Value
name_constraints_value x = (option_value (λ y. map general_subtree_value y.0.0.items) x.permitted_subtrees, (option_value (λ y. map general_subtree_value y.0.0.items) x.excluded_subtrees, tt))

pub name_constraints_equal : SeesEqual NameConstraintsEq.ghosts.eq name_constraints_value
name_constraints_equal x y = two_equal (option_equal _ (λ y. map general_subtree_value y.0.0.items) (λ x y. list_equal _ general_subtree_value general_subtree_equal x.0.0.items y.0.0.items) x.permitted_subtrees y.permitted_subtrees) (with_end (option_equal _ (λ y. map general_subtree_value y.0.0.items) (λ x y. list_equal _ general_subtree_value general_subtree_equal x.0.0.items y.0.0.items) x.excluded_subtrees y.excluded_subtrees))

-- SkipCerts ::= INTEGER (0..MAX) (RFC 5280, 4.2.1.11)
abbrev pub skip_certs : Asn1
skip_certs = INTEGER

-- PolicyConstraints ::= SEQUENCE { requireExplicitPolicy [0] SkipCerts OPTIONAL, inhibitPolicyMapping [1]
--   SkipCerts OPTIONAL } (RFC 5280, 4.2.1.11)
abbrev pub policy_constraints : Contents
policy_constraints =
    contents (IMPLICIT 0 skip_certs OPTIONAL IMPLICIT 1 skip_certs OPTIONAL end) refl

abbrev pub policy_constraints_value : PolicyConstraints → policy_constraints.Value
policy_constraints_value x = (option_value (λ y. y.0.0.items) x.require_explicit_policy, (option_value (λ y. y.0.0.items) x.inhibit_policy_mapping, tt))

pub policy_constraints_equal : SeesEqual PolicyConstraintsEq.ghosts.eq policy_constraints_value
policy_constraints_equal x y = two_equal (option_equal _ (λ y. y.0.0.items) (λ x y. integer_equal x.0 y.0) x.require_explicit_policy y.require_explicit_policy) (with_end (option_equal _ (λ y. y.0.0.items) (λ x y. integer_equal x.0 y.0) x.inhibit_policy_mapping y.inhibit_policy_mapping))

-- DistributionPointName ::= CHOICE { fullName [0] GeneralNames, nameRelativeToCRLIssuer [1]
--   RelativeDistinguishedName } (RFC 5280, 4.2.1.13)
abbrev pub distribution_point_name : Asn1
distribution_point_name =
    CHOICE (IMPLICIT 0 general_names) (IMPLICIT 1 relative_distinguished_name) refl

abbrev pub distribution_point_name_value : DistributionPointName → distribution_point_name.Value
distribution_point_name_value (DistributionPointNameIs.FullName x) = inl (map general_name_value x.0.items)
distribution_point_name_value (DistributionPointNameIs.NameRelativeToCrlIssuer x) = inr (map name_value_value x.0.items)

-- which alternative a value is
abbrev distribution_point_name_which : distribution_point_name.Value → ℕ
distribution_point_name_which (inl v) = 0
distribution_point_name_which (inr v) = 1

pub distribution_point_name_equal : SeesEqual DistributionPointNameEq.ghosts.eq distribution_point_name_value
distribution_point_name_equal (DistributionPointNameIs.FullName x) (DistributionPointNameIs.FullName y) = same_first (list_equal _ general_name_value general_name_equal x.0.items y.0.items)
distribution_point_name_equal (DistributionPointNameIs.FullName x) (DistributionPointNameIs.NameRelativeToCrlIssuer y) = differ distribution_point_name_which refl refl refl
distribution_point_name_equal (DistributionPointNameIs.NameRelativeToCrlIssuer x) (DistributionPointNameIs.FullName y) = differ distribution_point_name_which refl refl refl
distribution_point_name_equal (DistributionPointNameIs.NameRelativeToCrlIssuer x) (DistributionPointNameIs.NameRelativeToCrlIssuer y) = same_second (list_equal _ name_value_value name_value_equal x.0.items y.0.items)

-- ReasonFlags ::= BIT STRING { unused(0), keyCompromise(1), cACompromise(2), affiliationChanged(3), superseded(4),
--   cessationOfOperation(5), certificateHold(6), privilegeWithdrawn(7), aACompromise(8) } (RFC 5280, 4.2.1.13)
abbrev pub reason_flags : Asn1
reason_flags = BIT_STRING

-- DistributionPoint ::= SEQUENCE { distributionPoint [0] DistributionPointName OPTIONAL, reasons [1] ReasonFlags
--   OPTIONAL, cRLIssuer [2] GeneralNames OPTIONAL } (RFC 5280, 4.2.1.13)
abbrev pub distribution_point : Contents
distribution_point =
    contents (EXPLICIT 0 distribution_point_name OPTIONAL IMPLICIT 1 reason_flags OPTIONAL IMPLICIT 2 general_names
    OPTIONAL end) refl

abbrev pub distribution_point_value : DistributionPoint → distribution_point.Value
distribution_point_value x = (option_value (λ y. distribution_point_name_value y.0) x.distribution_point, (option_value (λ y. contents_of y.0.0) x.reasons, (option_value (λ y. map general_name_value y.0.0.items) x.crl_issuer, tt)))

pub distribution_point_equal : SeesEqual DistributionPointEq.ghosts.eq distribution_point_value
distribution_point_equal x y = two_equal (option_equal _ (λ y. distribution_point_name_value y.0) (λ x y. distribution_point_name_equal x.0 y.0) x.distribution_point y.distribution_point) (two_equal (option_equal _ (λ y. contents_of y.0.0) (λ x y. bits_equal x.0 y.0) x.reasons y.reasons) (with_end (option_equal _ (λ y. map general_name_value y.0.0.items) (λ x y. list_equal _ general_name_value general_name_equal x.0.0.items y.0.0.items) x.crl_issuer y.crl_issuer)))

-- CRLDistributionPoints ::= SEQUENCE SIZE (1..MAX) OF DistributionPoint (RFC 5280, 4.2.1.13)
abbrev pub crl_distribution_points : Asn1
crl_distribution_points = SEQUENCE_OF (SEQUENCE distribution_point)

-- KeyPurposeId ::= OBJECT IDENTIFIER (RFC 5280, 4.2.1.12)
abbrev pub key_purpose_id : Asn1
key_purpose_id = OBJECT_IDENTIFIER

-- ExtKeyUsageSyntax ::= SEQUENCE SIZE (1..MAX) OF KeyPurposeId (RFC 5280, 4.2.1.12)
abbrev pub ext_key_usage_syntax : Asn1
ext_key_usage_syntax = SEQUENCE_OF key_purpose_id

-- InhibitAnyPolicy ::= SkipCerts (RFC 5280, 4.2.1.14)
abbrev pub inhibit_any_policy : Asn1
inhibit_any_policy = skip_certs

-- FreshestCRL ::= CRLDistributionPoints (RFC 5280, 4.2.1.15)
abbrev pub freshest_crl : Asn1
freshest_crl = crl_distribution_points

-- AccessDescription ::= SEQUENCE { accessMethod OBJECT IDENTIFIER, accessLocation GeneralName } (RFC 5280,
--   4.2.2.1)
abbrev pub access_description : Contents
access_description =
    contents (OBJECT_IDENTIFIER then general_name then end) refl

abbrev pub access_description_value : AccessDescription → access_description.Value
access_description_value x = (octets_of x.access_method.0, (general_name_value x.access_location, tt))

pub access_description_equal : SeesEqual AccessDescriptionEq.ghosts.eq access_description_value
access_description_equal x y = two_equal (oid_equal x.access_method y.access_method) (with_end (general_name_equal x.access_location y.access_location))

-- AuthorityInfoAccessSyntax ::= SEQUENCE SIZE (1..MAX) OF AccessDescription (RFC 5280, 4.2.2.1)
abbrev pub authority_info_access_syntax : Asn1
authority_info_access_syntax = SEQUENCE_OF (SEQUENCE access_description)

-- SubjectInfoAccessSyntax ::= SEQUENCE SIZE (1..MAX) OF AccessDescription (RFC 5280, 4.2.2.2)
abbrev pub subject_info_access_syntax : Asn1
subject_info_access_syntax = SEQUENCE_OF (SEQUENCE access_description)

-- CRLNumber ::= INTEGER (0..MAX) (RFC 5280, 5.2.3)
abbrev pub crl_number : Asn1
crl_number = INTEGER

-- BaseCRLNumber ::= CRLNumber (RFC 5280, 5.2.4)
abbrev pub base_crl_number : Asn1
base_crl_number = crl_number

-- IssuingDistributionPoint ::= SEQUENCE { distributionPoint [0] DistributionPointName OPTIONAL,
--   onlyContainsUserCerts [1] BOOLEAN DEFAULT FALSE, onlyContainsCACerts [2] BOOLEAN DEFAULT FALSE,
--   onlySomeReasons [3] ReasonFlags OPTIONAL, indirectCRL [4] BOOLEAN DEFAULT FALSE, onlyContainsAttributeCerts
--   [5] BOOLEAN DEFAULT FALSE } (RFC 5280, 5.2.5)
abbrev pub issuing_distribution_point : Contents
issuing_distribution_point =
    contents (EXPLICIT 0 distribution_point_name OPTIONAL IMPLICIT_default 1 BOOLEAN_or_FALSE DEFAULT
    IMPLICIT_default 2 BOOLEAN_or_FALSE DEFAULT IMPLICIT 3 reason_flags OPTIONAL IMPLICIT_default 4
    BOOLEAN_or_FALSE DEFAULT IMPLICIT_default 5 BOOLEAN_or_FALSE DEFAULT end) refl

abbrev pub issuing_distribution_point_value : IssuingDistributionPoint → issuing_distribution_point.Value
issuing_distribution_point_value x = (option_value (λ y. distribution_point_name_value y.0) x.distribution_point, (x.only_contains_user_certs.0.0, (x.only_contains_ca_certs.0.0, (option_value (λ y. contents_of y.0.0) x.only_some_reasons, (x.indirect_crl.0.0, (x.only_contains_attribute_certs.0.0, tt))))))

pub issuing_distribution_point_equal : SeesEqual IssuingDistributionPointEq.ghosts.eq issuing_distribution_point_value
issuing_distribution_point_equal x y = two_equal (option_equal _ (λ y. distribution_point_name_value y.0) (λ x y. distribution_point_name_equal x.0 y.0) x.distribution_point y.distribution_point) (two_equal (booleans_Decides x.only_contains_user_certs.0.0 y.only_contains_user_certs.0.0) (two_equal (booleans_Decides x.only_contains_ca_certs.0.0 y.only_contains_ca_certs.0.0) (two_equal (option_equal _ (λ y. contents_of y.0.0) (λ x y. bits_equal x.0 y.0) x.only_some_reasons y.only_some_reasons) (two_equal (booleans_Decides x.indirect_crl.0.0 y.indirect_crl.0.0) (with_end (booleans_Decides x.only_contains_attribute_certs.0.0 y.only_contains_attribute_certs.0.0))))))

-- CRLReason ::= ENUMERATED { unspecified(0), keyCompromise(1), cACompromise(2), affiliationChanged(3),
--   superseded(4), cessationOfOperation(5), certificateHold(6), removeFromCRL(8), privilegeWithdrawn(9),
--   aACompromise(10) } (RFC 5280, 5.3.1)
abbrev pub crl_reason_numbers : List ℕ
crl_reason_numbers = 0 ∷ 1 ∷ 2 ∷ 3 ∷ 4 ∷ 5 ∷ 6 ∷ 8 ∷ 9 ∷ 10 ∷ []

abbrev pub crl_reason : Asn1
crl_reason = ENUMERATED_of crl_reason_numbers refl

abbrev pub crl_reason_value : CrlReason → ℕ
crl_reason_value CrlReasonIs.Unspecified = 0
crl_reason_value CrlReasonIs.KeyCompromise = 1
crl_reason_value CrlReasonIs.CaCompromise = 2
crl_reason_value CrlReasonIs.AffiliationChanged = 3
crl_reason_value CrlReasonIs.Superseded = 4
crl_reason_value CrlReasonIs.CessationOfOperation = 5
crl_reason_value CrlReasonIs.CertificateHold = 6
crl_reason_value CrlReasonIs.RemoveFromCrl = 8
crl_reason_value CrlReasonIs.PrivilegeWithdrawn = 9
crl_reason_value CrlReasonIs.AaCompromise = 10

pub crl_reason_equal : SeesEqual CrlReasonEq.ghosts.eq crl_reason_value
crl_reason_equal x y = search rules

-- CertificateIssuer ::= GeneralNames (RFC 5280, 5.3.3)
abbrev pub certificate_issuer : Asn1
certificate_issuer = general_names

-- InvalidityDate ::= GeneralizedTime (RFC 5280, 5.3.2)
abbrev pub invalidity_date : Asn1
invalidity_date = GENERALIZED_TIME
