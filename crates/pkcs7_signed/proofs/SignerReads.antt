-- Reading signers, what they hold and signed data, one level of them.
use Rattle.std.proofs.Common.{◌≡◌, ℕ, List, map, length, Vec, Global, sym, ap, ◌∙◌, subst, rules, arith, length-append}
use Rattle.asn1_core.specs.Der.{octets_of, Format, Position, HasRead, HasRefused, less, HasReadComponents, HasRefusedComponents}
use Rattle.asn1_core.specs.declared.objects.ObjectIdentifierAsn1.{ObjectIdentifierAsn1}
use Rattle.asn1_core_element.specs.declared.error.Error.{Error}
use Rattle.asn1_core_element.specs.declared.error.Error.TheVariants.{Memory}
use Rattle.asn1_core_format.proofs.LevelReads.{has_read_level, refused_level, has_read_mapped, refused_mapped}
use Rattle.pkcs7_content.specs.declared.versions.CmsVersion.{CmsVersion}
use Rattle.pkcs7_signed_crl.specs.declared.algorithms.DigestAlgorithmIdentifier.{DigestAlgorithmIdentifier}
use Rattle.pkcs7_signed_crl.specs.declared.algorithms.SignatureAlgorithmIdentifier.{SignatureAlgorithmIdentifier}
use Rattle.pkcs7_attributes.specs.declared.attributes.Attributes.{Attributes}
use Rattle.pkcs7_signed_crl.specs.declared.signers.SignatureValue.{SignatureValue}
use Rattle.pkcs7_signed_crl.specs.declared.signers.SignerIdentifier.{SignerIdentifier}
use Rattle.pkcs7_signed.specs.Components.{signer_components, pkcs7_certificate_components, attribute_components, UnsignedValues, kind_of, values_components}
use Rattle.pkcs7_signed.specs.Signers.{Value, signers, attributes, certificates, signer_out, signer_into, pkcs7_certificate_out, pkcs7_certificate_into, attribute_out, attribute_into, level_invariant, step, signer, attribute, pkcs7_certificate}
use Rattle.pkcs7_signed.specs.laws.SignerLaws.{signer_there, pkcs7_certificate_there, attribute_there, signer_step}
use Rattle.pkcs7_signed.specs.Heads.{signer_parts_value}
use Rattle.pkcs7_signed.specs.SignerValues.{signer_value, attribute_value, values_value, pkcs7_certificate_value, signed_value}
use Rattle.pkcs7_signed.specs.declared.signers.Pkcs7Certificate.{roll-Pkcs7Certificate}
use Rattle.pkcs7_signed.specs.declared.signers.SignedData.{SignedData}
use Rattle.pkcs7_signed.specs.declared.signers.SignerInfo.{roll-SignerInfo}
use Rattle.pkcs7_signed.specs.declared.signers.UnsignedAttribute.{UnsignedAttribute, roll-UnsignedAttribute}
use Rattle.pkcs7_signed.specs.declared.signers.UnsignedAttributeValue.{UnsignedAttributeValue}
use Rattle.pkcs7_signed.specs.declared.signers.UnsignedAttributes.{roll-UnsignedAttributes}
use Rattle.pkcs7_signed.specs.declared.signers.UnsignedAttributeValue.TheFolds.{the_lemmas}

module _ (k : ℕ) {old new : Position} where
  pub signer_has_read : (v : Value signers) → HasRead (signer_components attribute) k old new (signer_out v) → HasRead signer k old new v
  signer_has_read v t = has_read_level {I = Unit {0}} {V = λ _. Value signers} level_invariant step signer_step tt k (has_read_mapped signer_out signer_into (signer_components attribute) k v t)

  pub signer_refused : {e : Error} → HasRefused (signer_components attribute) k old new e → HasRefused signer k old new e
  signer_refused g = refused_level {I = Unit {0}} {V = λ _. Value signers} level_invariant step signer_step tt k (refused_mapped signer_out signer_into (signer_components attribute) k g)

  pub attribute_has_read : (v : Value attributes) → HasRead (attribute_components pkcs7_certificate (less signer)) k old new (attribute_out v) → HasRead attribute k old new v
  attribute_has_read v t = has_read_mapped attribute_out attribute_into (attribute_components pkcs7_certificate (less signer)) k v t

  pub attribute_refused : {e : Error} → HasRefused (attribute_components pkcs7_certificate (less signer)) k old new e → HasRefused attribute k old new e
  attribute_refused g = refused_mapped attribute_out attribute_into (attribute_components pkcs7_certificate (less signer)) k g

  pub pkcs7_certificate_has_read : (v : Value certificates) → HasRead (pkcs7_certificate_components (less signer)) k old new (pkcs7_certificate_out v) → HasRead pkcs7_certificate k old new v
  pkcs7_certificate_has_read v t = has_read_mapped pkcs7_certificate_out pkcs7_certificate_into (pkcs7_certificate_components (less signer)) k v t

  pub pkcs7_certificate_refused : {e : Error} → HasRefused (pkcs7_certificate_components (less signer)) k old new e → HasRefused pkcs7_certificate k old new e
  pkcs7_certificate_refused g = refused_mapped pkcs7_certificate_out pkcs7_certificate_into (pkcs7_certificate_components (less signer)) k g

-- what was read
pub made_signer : (v : CmsVersion) (s : SignerIdentifier) (d : DigestAlgorithmIdentifier) (a : Attributes) (g : SignatureAlgorithmIdentifier) (o : SignatureValue) (us : Vec UnsignedAttribute Global) → signer_out (signer_value (roll-SignerInfo record { version = v; sid = s; digest_algorithm = d; signed_attrs = record { 0 = a }; signature_algorithm = g; signature = o; unsigned_attrs = record { 0 = roll-UnsignedAttributes record { 0 = us } } })) ≡ signer_parts_value v s d a g o (map attribute_value us.items, tt)
made_signer v s d a g o us =
    let e : signer_value (roll-SignerInfo record { version = v; sid = s; digest_algorithm = d; signed_attrs = record { 0 = a }; signature_algorithm = g; signature = o; unsigned_attrs = record { 0 = roll-UnsignedAttributes record { 0 = us } } }) ≡ signer_into (signer_parts_value v s d a g o (map attribute_value us.items, tt)) = search (rules, the_lemmas) in
    ap signer_out e ∙ signer_there _

pub made_pkcs7_certificate : (o : ObjectIdentifierAsn1) (s : SignedData) → pkcs7_certificate_out (pkcs7_certificate_value (roll-Pkcs7Certificate record { oid = o; signed_data = record { 0 = s } })) ≡ (octets_of o.0, signed_value s)
made_pkcs7_certificate o s =
    let e : pkcs7_certificate_value (roll-Pkcs7Certificate record { oid = o; signed_data = record { 0 = s } }) ≡ pkcs7_certificate_into (octets_of o.0, signed_value s) = search (rules, the_lemmas) in
    ap pkcs7_certificate_out e ∙ pkcs7_certificate_there _

pub made_attribute : (o : ObjectIdentifierAsn1) (v : UnsignedAttributeValue) → attribute_out (attribute_value (roll-UnsignedAttribute record { ty = o; value = v })) ≡ (octets_of o.0, values_value v)
made_attribute o v =
    let e : attribute_value (roll-UnsignedAttribute record { ty = o; value = v }) ≡ attribute_into (octets_of o.0, values_value v) = search (rules, the_lemmas) in
    ap attribute_out e ∙ attribute_there _

-- the values of an attribute, by the octets of its object identifier
module _ {o p : List ℕ} (e : o ≡ p) {k : ℕ} {old new : Position} where
  pub at_octets : {v : UnsignedValues (Value certificates) (Value signers)} → HasReadComponents (values_components pkcs7_certificate (less signer) (kind_of o)) k old new v → HasReadComponents (values_components pkcs7_certificate (less signer) (kind_of p)) k old new v
  at_octets {v} t = subst (λ q. HasReadComponents (values_components pkcs7_certificate (less signer) (kind_of q)) k old new v) e t

  pub refused_at_octets : {x : Error} → HasRefusedComponents (values_components pkcs7_certificate (less signer) (kind_of o)) k old new x → HasRefusedComponents (values_components pkcs7_certificate (less signer) (kind_of p)) k old new x
  refused_at_octets {x} g = subst (λ q. HasRefusedComponents (values_components pkcs7_certificate (less signer) (kind_of q)) k old new x) e g

-- memory was refused after an encoding was read
pub no_memory : {V : Type 0} (F : Format V) (k : ℕ) {old new : Position} {v : V} {e : Error} → HasRead F k old new v → e ≡ Memory → HasRefused F k old new e
no_memory F k {old} {new} t m = record {
  kind = λ x. (let h = sym m ∙ x in cc);
  none = λ x taken rest v s r. x m;
  counts = omega (arith, t.at_least);
  at_most = omega (arith, t.at_most, ap length t.split, length-append t.taken new.left);
}

pub no_memory_components : {V : Type 0} (R : Format V) (k : ℕ) {old new : Position} {v : V} {e : Error} → HasReadComponents R k old new v → e ≡ Memory → HasRefusedComponents R k old new e
no_memory_components R k {old} {new} t m = record {
  kind = λ x. (let h = sym m ∙ x in cc);
  none = λ x v r. x m;
  counts = omega (arith, t.at_least);
  at_most = omega (arith, t.at_most);
}
