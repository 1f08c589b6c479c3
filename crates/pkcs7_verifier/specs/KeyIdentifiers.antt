-- The extensions of a certificate, and the identifier of its key (RFC 5280, 4.1 and 4.2.1.2).
-- extensions [3] EXPLICIT Extensions OPTIONAL; id-ce-subjectKeyIdentifier, whose value is an OCTET STRING
use Rattle.asn1_core.specs.Asn1.{SEQUENCE}
use Rattle.std.specs.Prelude.{◌≡◌, ◌≢◌, ◌⊎◌, ℕ, Bool, false, List, [], ◌∷◌, Option, None, Some, Result, MatchResult}
use Rattle.std.proofs.Common.{eqb}
use Rattle.std.specs.List.{find}
use Rattle.std.specs.Str.{bytes_eq}
use Rattle.asn1_core.specs.Der.{Format, explicit, octet_string, arcs, Octets, OidOctets, ElementOctets}
use Rattle.asn1_core_element.specs.declared.error.Error.{Error}
use Rattle.asn1_core_element.specs.declared.error.Error.TheVariants.{TooLong, Memory}
use Rattle.x509_base.specs.Extensions.{extension, extensions}
use Rattle.pkcs7_verifier.specs.Heads.{certificate_head}

-- id-ce-subjectKeyIdentifier (RFC 5280, 4.2.1.2)
abbrev pub subject_key_identifier_oid : OidOctets
subject_key_identifier_oid = arcs (2 ∷ 5 ∷ 29 ∷ 14 ∷ [])

abbrev pub explicit_extensions : Format (List extension.Value)
explicit_extensions = explicit 3 (SEQUENCE extensions).format

-- the element has that tag
abbrev pub has_tag : ℕ → ElementOctets → Bool
has_tag tag [] = false
has_tag tag (t ∷ b) = eqb t tag

-- what follows the key in a certificate
abbrev pub rest_of : certificate_head.Value → List ElementOctets
rest_of v = v.0.1.1.1.1.1.1.1

-- the extensions: what the first element under [3] holds, or none where there is no such element
abbrev pub AreExtensionsOf : List ElementOctets → Option (List extension.Value) → Type 0
AreExtensionsOf rest None = find (has_tag 0xA3) rest ≡ None
AreExtensionsOf rest (Some es) = (b : ElementOctets) × (find (has_tag 0xA3) rest ≡ Some b) × explicit_extensions.Reads 64 b es

-- the first extension with that object identifier
abbrev pub extension_with : OidOctets → List extension.Value → Option extension.Value
extension_with oid es = find (λ e. bytes_eq e.0 oid) es

-- the identifier of the key: the value of the first such extension, or none where there is no such extension
abbrev pub IsKeyIdOf : List ElementOctets → Option Octets → Type 0
IsKeyIdOf rest None = AreExtensionsOf rest None ⊎ ((es : List extension.Value) × AreExtensionsOf rest (Some es) × (extension_with subject_key_identifier_oid es ≡ None))
IsKeyIdOf rest (Some key) = (es : List extension.Value) × AreExtensionsOf rest (Some es) × (e : extension.Value) × (extension_with subject_key_identifier_oid es ≡ Some e) × octet_string.Reads 64 e.1.1.0 key

-- there is an element under [3]: only this has to be read, and so only then memory is asked for
abbrev pub HasExtensions : List ElementOctets → Type 0
HasExtensions rest = find (has_tag 0xA3) rest ≢ None

-- why there is no answer: nothing is one, or memory was refused. Without extensions there is always one
pub record HasNone {V : Type 0} (IsIt : List ElementOctets → V → Type 0) (rest : List ElementOctets) (e : Error) : Type 0 where
  pub there : HasExtensions rest
  pub kind : e ≢ TooLong
  pub none : e ≢ Memory → (v : V) → IsIt rest v → ⊥

abbrev pub Answers : {T V : Type 0} → (T → V) → (List ElementOctets → V → Type 0) → List ElementOctets → Result T Error → Type 0
Answers value IsIt rest r = MatchResult r (λ x. IsIt rest (value x)) (λ e. HasNone IsIt rest e)
