-- The ways to the parts of a certificate (RFC 5280, 4.1), each component in its place.
use Rattle.std.specs.Prelude.{◌≡◌, ◌≢◌, ◌+◌, ℕ, List, [], ◌∷◌, length}
use Rattle.std.proofs.Common.{refl, sym, ◌∙◌, subst, arith}
use Rattle.asn1_core.specs.Asn1.{ANY, BOOLEAN_or_FALSE, EXPLICIT, INTEGER_BELOW, OBJECT_IDENTIFIER, OCTET_STRING, SEQUENCE, end, ◌then◌, ◌OPTIONAL◌}
use Rattle.asn1_core.specs.Der.{ElementOctets, Format, IsOid, IsTagByte, element, head, lawful_raw, octet_string, raw}
use Rattle.asn1_leaves.specs.Asn1.{BIT_STRING, INTEGER}
use Rattle.asn1_leaves_strings.specs.Bits.{IsBits}
use Rattle.asn1_located.specs.Finding.{Found, Skips, any_element, contains_element, follows_many}
use Rattle.asn1_located.specs.Places.{Route}
use Rattle.asn1_located.specs.Routes.{Mark, Tagged, TaggedDefault, again, as_is, component, default_with_tag, enclosed, fixed, item, octets, opened, with_tag, ◌before◌, ◌default◌, ◌here◌, ◌maybe◌, ◌there◌, ◌▸◌}
use Rattle.asn1_located.specs.declared.walks.Step.TheVariants.{Element, Inside, Nth}
use Rattle.certificate_ranges.specs.Certificates.{certificate, key_format}
use Rattle.pkcs7_verifier.specs.Heads.{REST, tbs_certificate_head}
use Rattle.pkcs7_verifier.specs.KeyIdentifiers.{explicit_extensions}
use Rattle.x509_base.specs.Algorithms.{algorithm_identifier}
use Rattle.x509_base.specs.Extensions.{extension, extensions}
use Rattle.x509_base.specs.Names.{name}

-- version [0] EXPLICIT Version, which may be absent
abbrev pub VERSION : Tagged
VERSION = with_tag 0xA0 (EXPLICIT 0 (INTEGER_BELOW 3)) refl

-- critical BOOLEAN DEFAULT FALSE
abbrev pub CRITICAL : TaggedDefault
CRITICAL = default_with_tag 0x01 BOOLEAN_or_FALSE refl

pub after_key_found : (i k : ℕ) (vs : List ElementOctets) (w : ElementOctets) → (others : List ElementOctets) × Skips i vs (w ∷ others) → (m : ℕ) (x : List ℕ) → REST.format.Reads k x vs → Found (Nth i ∷ Element ∷ []) m x (λ y. raw.Reads k y w)
after_key_found i k vs w (others, o) m x s =
    let r = follows_many raw lawful_raw k i m x vs (w ∷ others) o s in
    let t = r.3 in
    (r.0, t.0, (r.0, r.1, r.2, (r.0, t.0, record { rest = t.1; is = any_element raw.IsTag t.0 (lawful_raw.element k t.0 w t.3); split = t.2; place = refl }, (refl, refl))), t.3)

-- the element with an index, of those after the key
abbrev pub after_key : ℕ → Mark
after_key i = record {
  components = REST;
  part = ANY;
  steps = Nth i ∷ Element ∷ [];
  IsPart = λ vs w. (others : List ElementOctets) × Skips i vs (w ∷ others);
  found = λ _. after_key_found i;
}

-- to the contents octets of an element, whatever its tag is
abbrev pub inner : Route raw.Reads as_is
inner = record {
  steps = Inside ∷ [];
  IsPart = λ v w. (tag : ℕ) × IsTagByte tag × (v ≡ element tag w);
  found = λ k v w o m x s. (m + length (head o.0 (length w)), w, (m + length (head o.0 (length w)), w, contains_element m o.0 x w o.1 (s.0 ∙ o.2), (refl, refl)), refl);
}

-- to what octets are read as, by a type of its own, at 64 levels
abbrev pub read_as : {W : Type 0} (G : Format W) → Route as_is (fixed G.Reads)
read_as G = record {
  steps = [];
  IsPart = λ v w. G.Reads 64 v w;
  found = λ k v w o m x s. (m, x, (refl, refl), subst (λ y. G.Reads 64 y w) (sym s) o);
}

-- Certificate ::= SEQUENCE { tbsCertificate TBSCertificate, signatureAlgorithm AlgorithmIdentifier, signature BIT STRING }
abbrev pub to_be_signed : Route certificate.Reads (SEQUENCE tbs_certificate_head).format.Reads
to_be_signed = component 0x30 (omega arith) (SEQUENCE tbs_certificate_head here SEQUENCE algorithm_identifier then BIT_STRING then end) refl

-- TBSCertificate ::= SEQUENCE { version [0] Version DEFAULT v1, serialNumber CertificateSerialNumber, signature
--   AlgorithmIdentifier, issuer Name, validity Validity, subject Name, subjectPublicKeyInfo SubjectPublicKeyInfo,
--   issuerUniqueID [1] .., subjectUniqueID [2] .., extensions [3] .. }
abbrev pub serial_number : Route certificate.Reads as_is
serial_number =
    to_be_signed
    ▸ component 0x30 (omega arith) (VERSION maybe INTEGER here SEQUENCE algorithm_identifier then SEQUENCE name then ANY then SEQUENCE name then ANY then REST) refl
    ▸ octets 0x02 (omega arith) (λ c. c ≢ [])

abbrev pub issuer : Route certificate.Reads (SEQUENCE name).format.Reads
issuer =
    to_be_signed
    ▸ component 0x30 (omega arith) (VERSION maybe INTEGER before SEQUENCE algorithm_identifier before SEQUENCE name here ANY then SEQUENCE name then ANY then REST) refl

abbrev pub validity : Route certificate.Reads raw.Reads
validity =
    to_be_signed
    ▸ component 0x30 (omega arith) (VERSION maybe INTEGER before SEQUENCE algorithm_identifier before SEQUENCE name before ANY here SEQUENCE name then ANY then REST) refl

abbrev pub subject : Route certificate.Reads (SEQUENCE name).format.Reads
subject =
    to_be_signed
    ▸ component 0x30 (omega arith) (VERSION maybe INTEGER before SEQUENCE algorithm_identifier before SEQUENCE name before ANY before SEQUENCE name here ANY then REST) refl

-- subjectPublicKeyInfo, and what it reads as
abbrev pub key_info : Route certificate.Reads raw.Reads
key_info =
    to_be_signed
    ▸ component 0x30 (omega arith) (VERSION maybe INTEGER before SEQUENCE algorithm_identifier before SEQUENCE name before ANY before SEQUENCE name before ANY here REST) refl

abbrev pub read_key_info : Route certificate.Reads (fixed key_format.Reads)
read_key_info = key_info ▸ opened key_format

-- SubjectPublicKeyInfo ::= SEQUENCE { algorithm AlgorithmIdentifier, subjectPublicKey BIT STRING }
abbrev pub key_algorithm_identifier : Route certificate.Reads (fixed (SEQUENCE algorithm_identifier).format.Reads)
key_algorithm_identifier = read_key_info ▸ again (component 0x30 (omega arith) (SEQUENCE algorithm_identifier here BIT_STRING then end) refl)

abbrev pub key_bits : Route certificate.Reads as_is
key_bits = read_key_info ▸ again (component 0x30 (omega arith) (SEQUENCE algorithm_identifier before BIT_STRING here end) refl) ▸ again (octets 0x03 (omega arith) IsBits)

-- AlgorithmIdentifier ::= SEQUENCE { algorithm OBJECT IDENTIFIER, parameters ANY DEFINED BY algorithm OPTIONAL }
abbrev pub key_algorithm : Route certificate.Reads as_is
key_algorithm = key_algorithm_identifier ▸ again (component 0x30 (omega arith) (OBJECT_IDENTIFIER here ANY OPTIONAL end) refl) ▸ again (octets 0x06 (omega arith) IsOid)

abbrev pub key_parameters : Route certificate.Reads (fixed raw.Reads)
key_parameters = key_algorithm_identifier ▸ again (component 0x30 (omega arith) (OBJECT_IDENTIFIER before ANY there end) refl)

-- the element with an index, of those after the key, and what is in it
abbrev pub element_after_key : ℕ → Route certificate.Reads raw.Reads
element_after_key i =
    to_be_signed
    ▸ component 0x30 (omega arith) (VERSION maybe INTEGER before SEQUENCE algorithm_identifier before SEQUENCE name before ANY before SEQUENCE name before ANY before after_key i) refl

abbrev pub in_element : ℕ → Route certificate.Reads as_is
in_element i = element_after_key i ▸ inner

-- Extensions ::= SEQUENCE OF Extension, under [3]: the octets of the OCTET STRING in extnValue of the one with an index
-- Extension ::= SEQUENCE { extnID OBJECT IDENTIFIER, critical BOOLEAN DEFAULT FALSE, extnValue OCTET STRING }
abbrev pub in_extension : ℕ → ℕ → Route certificate.Reads as_is
in_extension i j =
    element_after_key i
    ▸ opened explicit_extensions
    ▸ again (enclosed 0xA3 (omega arith) (SEQUENCE extensions).format)
    ▸ again (item 0x30 (omega arith) (SEQUENCE extension).format (SEQUENCE extension).law j)
    ▸ again (component 0x30 (omega arith) (OBJECT_IDENTIFIER before CRITICAL default OCTET_STRING here end) refl)
    ▸ again (octets 0x04 (omega arith) (λ _. Unit {0}))
    ▸ read_as octet_string
    ▸ again (octets 0x04 (omega arith) (λ _. Unit {0}))
