-- The values of what parameters, and those that hold an algorithm, are read as.
use Rattle.asn1_core.specs.Der.{octets_of, option_value}
use Rattle.asn1_core_format.specs.declared.components.End.{End}
use Rattle.asn1_core_format.specs.declared.components.Required.{Required}
use Rattle.password_ranges.specs.Heads.{encrypted_content_head, pbes2_head, pbkdf2_head}
use Rattle.password_ranges.specs.declared.heads.Body.{Body}
use Rattle.password_ranges.specs.declared.heads.EncryptedContentHead.{EncryptedContentHead}
use Rattle.password_ranges.specs.declared.heads.Pbkdf2Head.{Pbkdf2Head}
use Rattle.pkcs12_algs.specs.Pbkdf2.{pbkdf2_salt_source_value}
use Rattle.x509_base.specs.AlgorithmParts.{algorithm_identifier_value}
use Rattle.x509_base.specs.declared.algorithms.AlgorithmIdentifier.{AlgorithmIdentifier}

abbrev pub pbes2_value : Body (Required AlgorithmIdentifier (Required AlgorithmIdentifier End)) → pbes2_head.Value
pbes2_value x = (algorithm_identifier_value x.0.0, (algorithm_identifier_value x.0.1.0, tt))

abbrev pub pbkdf2_value : Pbkdf2Head → pbkdf2_head.Value
pbkdf2_value x =
    (pbkdf2_salt_source_value x.0.0, (x.0.1.0, (option_value (λ n. n) x.0.1.1.0, (option_value algorithm_identifier_value x.0.1.1.1.0, tt))))

abbrev pub encrypted_content_value : EncryptedContentHead → encrypted_content_head.Value
encrypted_content_value x = (octets_of x.0.0.0, (algorithm_identifier_value x.0.1.0, (option_value (λ o. o.0.0.items) x.0.1.1.0, tt)))
