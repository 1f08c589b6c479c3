-- Signers, what they hold, and signed data. A signer inside an attribute is a level down, and so are the signers of
-- signed data, which take a level themselves.
use Rattle.std.specs.Prelude.{◌≡◌, ℕ, List, [], map}
use Rattle.std.proofs.Common.{inl, inr}
use Rattle.asn1_core.specs.Der.{no_tag, one_tag, Format, nothing, raw, OidOctets, ElementOctets, set_of, implicit_set, LevelInvariant, no_grammar, always, less, levels, mapped}
use Rattle.pkcs7_signed.specs.Forest.{Forest, none, Node, nodes, forest, fold_node}
use Rattle.pkcs7_signed.specs.laws.Forest.{same_node}
use Rattle.pkcs7_signed.specs.Parts.{SignerParts, signer_end, after_signer, signer_parts, SignedParts, signed_end, after_signed, signed_parts}
use Rattle.pkcs7_signed.specs.Components.{SignerComponents, signer_components, SignedComponents, signed_components, Pkcs7CertificateComponents, pkcs7_certificate_components, UnsignedValues, attribute_values, AttributeComponents, attribute_components}
use Rattle.pkcs7_signed.specs.declared.signers.Kind.{Kind}
use Rattle.pkcs7_signed.specs.declared.signers.Kind.TheVariants.{MsCounterSign, CounterSign, Foreign}

-- the values: a signer holds attributes, an attribute certificates, signers or neither, and a certificate signers
pub data Sort : Type 0 where
  signers : Sort
  attributes : Sort
  certificates : Sort
  nothing_inside : Sort

abbrev pub Alternative : Sort → Type 0
Alternative signers = Unit {0}
Alternative attributes = Kind
Alternative certificates = Unit {0}
Alternative nothing_inside = ⊥

abbrev pub InAttribute : Kind → Type 0
InAttribute MsCounterSign = OidOctets
InAttribute CounterSign = OidOctets
InAttribute Foreign = OidOctets × List ElementOctets

abbrev pub Plain : (i : Sort) → Alternative i → Type 0
Plain signers a = SignerParts (Unit {0})
Plain attributes a = InAttribute a
Plain certificates a = OidOctets × SignedParts (Unit {0})
Plain nothing_inside a = ⊥

abbrev pub attribute_holds : Kind → Sort
attribute_holds MsCounterSign = certificates
attribute_holds CounterSign = signers
attribute_holds Foreign = nothing_inside

abbrev pub holds : (i : Sort) → Alternative i → Sort
holds signers a = attributes
holds attributes a = attribute_holds a
holds certificates a = signers
holds nothing_inside a = nothing_inside

abbrev pub Trees : Sort → Type 0
Trees = Forest Alternative Plain holds

abbrev pub Value : Sort → Type 0
Value = Node Alternative Plain holds

abbrev pub list : {i : Sort} → Trees i → List (Value i)
list = nodes Alternative Plain holds

abbrev pub trees : {i : Sort} → List (Value i) → Trees i
trees = forest Alternative Plain holds

abbrev pub signer_out : Value signers → SignerComponents (Value attributes)
signer_out v = signer_end v.1 (list v.2, tt)

abbrev pub signer_into : SignerComponents (Value attributes) → Value signers
signer_into r = (tt, signer_end r tt, trees (after_signer r).0)

abbrev pub pkcs7_certificate_out : Value certificates → Pkcs7CertificateComponents (Value signers)
pkcs7_certificate_out v = (v.1.0, signed_end v.1.1 (list v.2))

abbrev pub pkcs7_certificate_into : Pkcs7CertificateComponents (Value signers) → Value certificates
pkcs7_certificate_into r = (tt, (r.0, signed_end r.1 tt), trees (after_signed r.1))

abbrev pub attribute_out : Value attributes → AttributeComponents (Value certificates) (Value signers)
attribute_out (MsCounterSign, o, f) = (o, inl (list f))
attribute_out (CounterSign, o, f) = (o, inr (inl (list f)))
attribute_out (Foreign, p, f) = (p.0, inr (inr p.1))

abbrev pub attribute_into : AttributeComponents (Value certificates) (Value signers) → Value attributes
attribute_into (o, inl vs) = (MsCounterSign, o, trees vs)
attribute_into (o, inr (inl vs)) = (CounterSign, o, trees vs)
attribute_into (o, inr (inr xs)) = (Foreign, (o, xs), none)

-- the formats, over that of a signer a level down
abbrev pub pkcs7_certificate_with : Format (Value signers) → Format (Value certificates)
pkcs7_certificate_with F = mapped pkcs7_certificate_out pkcs7_certificate_into (pkcs7_certificate_components F)

abbrev pub attribute_with : Format (Value signers) → Format (Value attributes)
attribute_with F = mapped attribute_out attribute_into (attribute_components (pkcs7_certificate_with F) F)

abbrev pub signer_with : Format (Value signers) → Format (Value signers)
signer_with F = mapped signer_out signer_into (signer_components (attribute_with F))

-- what is made of a node, from what was made of those inside: an encoding, a count
abbrev pub as_text : Format (List ℕ)
as_text = always (record { text = λ t. t; normal = λ t. t; IsTag = λ _. ⊥; first = no_tag; least = λ _. 0 }) no_grammar

abbrev pub as_count : Format ℕ
as_count = always (record { text = λ _. []; normal = λ n. n; IsTag = λ _. ⊥; first = no_tag; least = λ n. n }) no_grammar

abbrev pub attribute_of : {T : Type 0} (i : Kind) → InAttribute i → List T → AttributeComponents T T
attribute_of MsCounterSign o ts = (o, inl ts)
attribute_of CounterSign o ts = (o, inr (inl ts))
attribute_of Foreign p ts = (p.0, inr (inr p.1))

abbrev pub text_of : (i : Sort) (a : Alternative i) → Plain i a → List (List ℕ) → List ℕ
text_of signers a p ts = (signer_components as_text).text (signer_end p (ts, tt))
text_of attributes a p ts = (attribute_components as_text as_text).text (attribute_of a p ts)
text_of certificates a p ts = (pkcs7_certificate_components as_text).text (p.0, signed_end p.1 ts)
text_of nothing_inside a p ts = []

abbrev pub least_of : (i : Sort) (a : Alternative i) → Plain i a → List ℕ → ℕ
least_of signers a p ns = (signer_components as_count).least (signer_end p (ns, tt))
least_of attributes a p ns = (attribute_components as_count as_count).least (attribute_of a p ns)
least_of certificates a p ns = (pkcs7_certificate_components as_count).least (p.0, signed_end p.1 ns)
least_of nothing_inside a p ns = 0

abbrev pub normal_in_attribute : (i : Kind) → InAttribute i → InAttribute i
normal_in_attribute MsCounterSign o = o
normal_in_attribute CounterSign o = o
normal_in_attribute Foreign p = (p.0, map raw.normal p.1)

abbrev pub normal_of : (i : Sort) (a : Alternative i) → Plain i a → Plain i a
normal_of signers a p = (signer_parts nothing).normal p
normal_of attributes a p = normal_in_attribute a p
normal_of certificates a p = (p.0, (signed_parts nothing).normal p.1)
normal_of nothing_inside a p = p

abbrev pub level_invariant : (i : Unit {0}) → LevelInvariant (Value signers)
level_invariant i = record {
  text = fold_node Alternative Plain holds text_of signers;
  normal = same_node Alternative Plain holds normal_of signers;
  IsTag = λ t. t ≡ 0x30;
  first = one_tag 0x30;
  least = fold_node Alternative Plain holds least_of signers;
}

abbrev pub step : ((i : Unit {0}) → Format (Value signers)) → (i : Unit {0}) → Format (Value signers)
step F i = signer_with (F i)

abbrev pub signer : Format (Value signers)
signer = levels {I = Unit {0}} {V = λ _. Value signers} level_invariant step tt

abbrev pub attribute : Format (Value attributes)
attribute = attribute_with (less signer)

abbrev pub pkcs7_certificate : Format (Value certificates)
pkcs7_certificate = pkcs7_certificate_with (less signer)

abbrev pub SignedValue : Type 0
SignedValue = SignedComponents (Value signers)

abbrev pub signed_data : Format SignedValue
signed_data = signed_components (less signer)

-- SignerInfos ::= SET OF SignerInfo
abbrev pub signer_infos : Format (List (Value signers))
signer_infos = set_of signer

-- UnsignedAttributes ::= [1] IMPLICIT SET OF UnsignedAttribute
abbrev pub unsigned_attributes : Format (List (Value attributes))
unsigned_attributes = implicit_set 1 attribute

-- what an attribute holds, which only writes
abbrev pub values : Format (UnsignedValues (Value certificates) (Value signers))
values = attribute_values pkcs7_certificate (less signer)
