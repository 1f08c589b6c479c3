-- Laws of `SignerRoutes.antt`.
use Rattle.std.specs.Prelude.{◌≡◌, ℕ, List, [], ◌∷◌}
use Rattle.std.proofs.Common.{refl, arith}
use Rattle.asn1_core.specs.Asn1.{end, ◌then◌, ◌DEFAULT◌, INTEGER_BELOW, OCTET_STRING, SET_OF, SEQUENCE}
use Rattle.asn1_core.specs.Der.{each}
use Rattle.asn1_located.specs.Places.{Route}
use Rattle.asn1_located.specs.Routes.{component, enclosed, ◌before◌, ◌here◌, ◌maybe◌, ◌default◌, ◌▸◌}
use Rattle.asn1_located.specs.declared.walks.Step.{Step}
use Rattle.asn1_located.specs.declared.walks.Step.TheVariants.{Inside, Element, After, Past, Nth}
use Rattle.pkcs7_signed_crl.specs.Algorithms.{digest_algorithm_identifiers}
use Rattle.pkcs7_signed_crl.specs.SignerParts.{signer_identifier}
use Rattle.x509_pkcs7.specs.RawContents.{raw_encapsulated_content_info}
use Rattle.x509_pkcs7.specs.RawSigners.{SIGNED_ATTRIBUTES, UNSIGNED_ATTRIBUTES}
use Rattle.signer_ranges.specs.SignerRoutes.{ALGORITHM, PAST_CERTIFICATES, PAST_CRLS, SIGNER, certificate, content, digest_algorithm, digest_in, signature, signature_algorithm, signed_attributes, signed_data, signed_file, signer, unsigned_attributes}

-- the signers
abbrev pub signers : Route signed_file.Reads (each SIGNER.format).Reads
signers =
    signed_data
    ▸ component 0x30 (omega arith) (INTEGER_BELOW 6 before digest_algorithm_identifiers before SEQUENCE raw_encapsulated_content_info before PAST_CERTIFICATES default PAST_CRLS maybe SET_OF SIGNER here end) refl
    ▸ enclosed 0x31 (omega arith) (each SIGNER.format)

-- the parts of a signer
abbrev pub sid : Route SIGNER.format.Reads signer_identifier.format.Reads
sid = component 0x30 (omega arith) (INTEGER_BELOW 6 before signer_identifier here ALGORITHM then SIGNED_ATTRIBUTES DEFAULT ALGORITHM then OCTET_STRING then UNSIGNED_ATTRIBUTES DEFAULT end) refl

-- the steps, which are computed
abbrev pub to_signer : ℕ → List Step
to_signer i = Inside ∷ After ∷ Element ∷ Inside ∷ Inside ∷ After ∷ After ∷ After ∷ Past 0xA0 ∷ Past 0xA1 ∷ Element ∷ Inside ∷ Nth i ∷ Element ∷ []

pub signer_steps : (i : ℕ) → (signer i).steps ≡ to_signer i
signer_steps i = refl

pub sid_steps : sid.steps ≡ Inside ∷ After ∷ Element ∷ []
sid_steps = refl

pub digest_algorithm_steps : digest_algorithm.steps ≡ Inside ∷ After ∷ After ∷ Element ∷ []
digest_algorithm_steps = refl

pub signed_attributes_steps : signed_attributes.steps ≡ Inside ∷ After ∷ After ∷ After ∷ Element ∷ []
signed_attributes_steps = refl

pub signature_algorithm_steps : signature_algorithm.steps ≡ Inside ∷ After ∷ After ∷ After ∷ Past 0xA0 ∷ Element ∷ []
signature_algorithm_steps = refl

pub signature_steps : signature.steps ≡ Inside ∷ After ∷ After ∷ After ∷ Past 0xA0 ∷ After ∷ Element ∷ Inside ∷ []
signature_steps = refl

pub unsigned_attributes_steps : unsigned_attributes.steps ≡ Inside ∷ After ∷ After ∷ After ∷ Past 0xA0 ∷ After ∷ After ∷ Element ∷ []
unsigned_attributes_steps = refl

pub digest_steps : (j : ℕ) → (digest_in j).steps ≡ Inside ∷ Nth j ∷ Element ∷ Inside ∷ After ∷ Element ∷ Inside ∷ Nth 0 ∷ Element ∷ Inside ∷ []
digest_steps j = refl

pub content_steps : content.steps ≡ Inside ∷ After ∷ Element ∷ Inside ∷ Inside ∷ After ∷ After ∷ Element ∷ Inside ∷ After ∷ Element ∷ Inside ∷ Inside ∷ []
content_steps = refl

pub certificate_steps : (j : ℕ) → (certificate j).steps ≡ Inside ∷ After ∷ Element ∷ Inside ∷ Inside ∷ After ∷ After ∷ After ∷ Element ∷ Inside ∷ Nth j ∷ Element ∷ []
certificate_steps j = refl
