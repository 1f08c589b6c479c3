-- What parts are, as values.
use Rattle.std.specs.Prelude.{List, Option, map}
use Rattle.asn1_core.specs.Der.{ElementOctets, option_value}
use Rattle.asn1_core.specs.declared.raw.Asn1RawDer.{Asn1RawDer}
use Rattle.asn1_core_format.specs.declared.traits.Ref.{Ref}
use Rattle.pkcs7_content.specs.Versions.{number_of}
use Rattle.pkcs7_signed_crl.specs.declared.algorithms.DigestAlgorithmIdentifier.{DigestAlgorithmIdentifier}
use Rattle.x509_base.specs.Algorithms.{algorithm_identifier}
use Rattle.x509_base.specs.AlgorithmParts.{algorithm_identifier_value}
use denote.Ref.{Bor}
use Rattle.signed_writers.specs.Given.{GivenFileValue, GivenSignedValue}
use Rattle.signed_writers.specs.Values.{content_info_value}
use Rattle.signed_writers.specs.declared.parts.Certificates.{Certificates}
use Rattle.signed_writers.specs.declared.parts.RevocationLists.{RevocationLists}
use Rattle.signed_writers.specs.declared.parts.SignedFile.{SignedFile}
use Rattle.signed_writers.specs.declared.parts.SignedParts.{SignedParts}
use Rattle.x509_pkcs7.specs.RawSigned.{signed_data_oid}

abbrev pub texts_in : List Asn1RawDer → List ElementOctets
texts_in es = map (λ e. e.0.items) es

abbrev pub algorithms_in : List (Ref (Bor DigestAlgorithmIdentifier)) → List algorithm_identifier.Value
algorithms_in all = map (λ r. algorithm_identifier_value r.0.now.0) all

abbrev pub certificates_in : Option Certificates → Option (List ElementOctets)
certificates_in o = option_value (λ s. map (λ e. e.0.now) s.0.items) o

abbrev pub crls_in : Option RevocationLists → Option (List ElementOctets)
crls_in o = option_value (λ s. map (λ e. e.0.now) s.0.items) o

abbrev pub signed_value : SignedParts → GivenSignedValue
signed_value x = (
  number_of x.version,
  (
    texts_in x.digest_algorithms.0.items,
    (content_info_value x.content_info, (certificates_in x.certificates, (crls_in x.crls, (texts_in x.signers_infos.0.items, tt)))),
  ),
)

abbrev pub file_value : SignedFile → GivenFileValue
file_value x = (signed_data_oid, (signed_value x.signed_data.0, tt))
