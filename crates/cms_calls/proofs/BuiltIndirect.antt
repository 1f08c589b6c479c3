-- What indirect data are written of, and why they aren't.
use Rattle.std.specs.Prelude.{◌≡◌, ◌≢◌, ℕ, List, Option, None, Some}
use Rattle.std.proofs.Common.{inl, inr, refl, subst, sym}
use Rattle.asn1_borrowed.specs.Written.{IsNotWritten}
use Rattle.asn1_core.specs.Asn1.{SEQUENCE}
use Rattle.asn1_core.specs.Der.{IsElement, IsOid, IsTagByte, Octets as OctetList, oid_from_test}
use Rattle.asn1_core_element.specs.declared.error.Error.{Error}
use Rattle.asn1_core_format.specs.Components.{AllIf}
use Rattle.asn1_leaves_strings.specs.Bits.{IsBits}
use Rattle.content_ranges.specs.Heads.{any_subject, image_head}
use Rattle.content_ranges.specs.IndirectRoutes.{ImageValue, IndirectValue, image_data, indirect_data}
use Rattle.cms_calls.specs.BuiltIndirect.{HasSubject, IsAlgorithmOf, IsBitsOf, IsImageOf, IsImageText, IsIndirectOf, IsNoIndirect, IsWrong, no_algorithm}
use Rattle.call_values.specs.Given.{IfGiven, IsElementOf}
use Rattle.call_values.specs.Read.{HasOne, IsUnread}
use Rattle.call_values.specs.declared.not_built.NotBuilt as Built
use Rattle.call_values.specs.declared.not_built.NotBuilt.TheVariants as NotBuilt
use Rattle.cms_calls.specs.declared.built_indirect.NoIndirect.TheVariants.{Part, NotWritten}
use Rattle.cms_calls.specs.declared.built_indirect.WrongIndirect.{WrongIndirect}
use Rattle.cms_calls.specs.declared.built_indirect.WrongIndirect.TheVariants.{AttributeType, AttributeValue, DigestAlgorithm, Digest, ImageFlags, ImageLink}
use Rattle.cms_calls.specs.declared.contents.Indirect.{Indirect}
use Rattle.call_values.specs.declared.ranges.Octets.{Octets}
use Rattle.pkcs7_content.specs.Oids.{pe_image_oid}
use Rattle.x509_base.specs.Algorithms.{algorithm_identifier}

pe_image_is_oid : IsOid pe_image_oid
pe_image_is_oid = oid_from_test pe_image_oid refl

module _ (b : List ℕ) (row : Indirect) where
  -- what is given can be written
  flags_formed : (o : Option OctetList) → IfGiven row.has_image_flags (IsBitsOf b row.image_flags) o → AllIf IsBits o
  flags_formed None is = tt
  flags_formed (Some x) is = is.1.1

  element_formed : (flag : ℕ) (r : Octets) (o : Option OctetList) → IfGiven flag (IsElementOf b r) o → AllIf (IsElement IsTagByte) o
  element_formed flag r None is = tt
  element_formed flag r (Some x) is = is.1.1

  image_formed : (i : ImageValue) → IsImageOf b row i → image_data.IsWellFormed 64 i
  image_formed (flags, (link, u)) is = (flags_formed flags is.flags, (element_formed row.has_image_link row.image_link link is.link, tt))

  pub no_image : row.is_image ≢ 0 → (i : ImageValue) (e : Error) → IsImageOf b row i → IsNotWritten image_data i e → IsNoIndirect b row (NotWritten e)
  no_image some i e is (inl n) = absurd (n.1 (image_formed i is))
  no_image some i e is (inr (inl n)) = inl (n.1, inl (some, i, is, n.2))
  no_image some i e is (inr (inr n)) = inr n

  image_element : (x : List ℕ) → IsImageText b row x → IsElement IsTagByte x
  image_element x (i, is, text) =
      let e = (SEQUENCE image_head).law.element 64 x i text.reads.reads in
      record { tag = e.tag; contents = e.contents; is_tag = e.is_tag; is = e.is; allowed = e.is_tag }

  subject_formed : (u : any_subject.Value) → HasSubject b row u → (SEQUENCE any_subject).format.IsWellFormed 64 u
  subject_formed (type, (o, u)) (inl is) = (subst IsOid (sym is.1) pe_image_is_oid, (subst (AllIf (IsElement IsTagByte)) (sym is.4) (image_element is.2 is.3), tt))
  subject_formed (type, (o, u)) (inr is) = (is.1.0.1, (element_formed row.has_attribute_value row.attribute_value o is.1.1, tt))

  formed : (v : IndirectValue) → IsIndirectOf b row v → indirect_data.IsWellFormed 64 v
  formed (u, ((w, (digest, t)), s)) is =
      let algorithm = (SEQUENCE algorithm_identifier).law.components.well_formed 64 is.algorithm.0 w is.algorithm.2 in
      (subject_formed u is.subject, ((algorithm, (tt, tt)), tt))

  pub not_built : (v : IndirectValue) (e : Error) → IsIndirectOf b row v → IsNotWritten indirect_data v e → IsNoIndirect b row (NotWritten e)
  not_built v e is (inl n) = absurd (n.1 (formed v is))
  not_built v e is (inr (inl n)) = inl (n.1, inr (v, is, n.2))
  not_built v e is (inr (inr n)) = inr n

  -- where a part can't be written nothing is given
  no_subject : (wrong : WrongIndirect) → IsWrong b row wrong → (u : any_subject.Value) → HasSubject b row u → (v : IndirectValue) → v.0 ≡ u → IsIndirectOf b row v → ⊥
  no_subject AttributeType n u (inl s) v e is = s.0 n.0
  no_subject AttributeType n u (inr s) v e is = n.1 u.0 s.1.0
  no_subject AttributeValue n u (inl s) v e is = s.0 n.0
  no_subject AttributeValue n u (inr s) v e is = n.1 u.1.0 s.1.1
  no_subject DigestAlgorithm n u s v e is = n v.1.0.0 is.algorithm
  no_subject Digest n u s v e is = n v.1.0.1.0 is.digest
  no_subject ImageFlags n u (inl s) v e is = n.1 s.3.0.0 s.3.1.flags
  no_subject ImageFlags n u (inr s) v e is = n.0 s.0
  no_subject ImageLink n u (inl s) v e is = n.1 s.3.0.1.0 s.3.1.link
  no_subject ImageLink n u (inr s) v e is = n.0 s.0

  pub no_part : (wrong : WrongIndirect) → IsWrong b row wrong → IsNoIndirect b row (Part wrong)
  no_part wrong n = (n, λ v is. no_subject wrong n v.0 is.subject v refl is)

  pub without_algorithm : (w : Built.NotBuilt) → IsUnread (HasOne (IsAlgorithmOf b row.digest_algorithm)) w → IsNoIndirect b row (no_algorithm w)
  without_algorithm (NotBuilt.Part n) none = no_part DigestAlgorithm (λ w is. none (w, is))
  without_algorithm (NotBuilt.Refused e) memory = inr memory
