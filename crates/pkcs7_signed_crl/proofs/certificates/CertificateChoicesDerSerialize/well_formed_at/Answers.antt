use Rattle.std.proofs.Common.{rules}
use Rattle.asn1_choices.specs.laws.ByTag.{tagged_is, other_is}
use Rattle.pkcs7_signed_crl.specs.Certificates.{IsSequenceTag}
use Rattle.pkcs7_signed_crl.proofs.certificates.CertificateChoicesDerSerialize.well_formed_at.Goals as goal

pub returns-then-is_sequence : goal.returns-then-is_sequence
returns-then-is_sequence c = let w = tagged_is IsSequenceTag c.in-Certificate.element.0.items in search rules

pub returns-else-is_sequence : goal.returns-else-is_sequence
returns-else-is_sequence c = let w = tagged_is IsSequenceTag c.in-Certificate.element.0.items in search rules

pub returns-then-not-is_sequence : goal.returns-then-not-is_sequence
returns-then-not-is_sequence c = let w = other_is IsSequenceTag c.in-Other.element.0.items in search rules

pub returns-else-not-is_sequence : goal.returns-else-not-is_sequence
returns-else-not-is_sequence c = let w = other_is IsSequenceTag c.in-Other.element.0.items in search rules
