-- What bags hold.
use Rattle.std.specs.Prelude.{◌≡◌, ℕ, List, Bool, true, false}
use Rattle.std.specs.declared.ops.Range.{Range}
use Rattle.std.proofs.Common.{refl, subst, ◌∙◌, inl, inr}
use Rattle.asn1_core.specs.Asn1.{SEQUENCE}
use Rattle.asn1_core.specs.Der.{ElementOctets, Octets}
use Rattle.input_ranges.specs.declared.ranges.Refusal.{Refusal}
use Rattle.pkcs12_bags.specs.BagParts.{encrypted_key_bag, OctetsOrAny, x509_bag}
use Rattle.pkcs12_bags.specs.declared.parts.oids.TheConstants.{X509_CERTIFICATE, X509_CRL}
use Rattle.bag_ranges.proofs.Failures.{without}
use Rattle.bag_ranges.proofs.InRanges.{part_is}
use Rattle.bag_ranges.specs.BagRoutes.{BAG, bag_value, encrypted_key, other_element, x509_octets}
use Rattle.bag_ranges.specs.Bags.{BagValue, IsIn, IsPartIn, IsValueAt}
use Rattle.bag_ranges.specs.Contained.{IsEither, IsHeld, IsOfKind, IsOther, IsX509, LeadsIn, named_kind, value_steps}
use Rattle.bag_ranges.specs.Failures.{HasNone}
use Rattle.bag_ranges.specs.declared.ranges.BagKind.{BagKind}
use Rattle.bag_ranges.specs.declared.ranges.BagKind.TheVariants.{Key, ShroudedKey, Certificate, Crl, Secret, SafeContents, Other, Unread, OtherCertificate, OtherCrl}

module _ (known : ℕ) (element : ElementOctets) where
  which : (p : Bool) → IsEither known element p → (inside : OctetsOrAny) × (SEQUENCE (x509_bag known)).format.Reads 64 element inside
  which true q = (inl q.0, q.1)
  which false q = (inr (q.0, q.1), q.2)

  pub not_either : (e : Refusal) → HasNone ((SEQUENCE (x509_bag known)).format.Reads 64 element) e → HasNone (IsEither known element) e
  not_either e n = without which n

module _ (element : ElementOctets) (e : Refusal) where
  certificate : (k : BagKind) → named_kind k ≡ Certificate → IsOfKind k element → (p : Bool) × IsEither X509_CERTIFICATE element p
  certificate Certificate s v = (true, v)
  certificate OtherCertificate s v = (false, v)
  certificate k s v = cc

  pub no_certificate : HasNone (IsEither X509_CERTIFICATE element) e → HasNone (IsHeld Certificate element) e
  no_certificate n = without (λ k h. certificate k h.agrees h.reads) n

  list : (k : BagKind) → named_kind k ≡ Crl → IsOfKind k element → (p : Bool) × IsEither X509_CRL element p
  list Crl s v = (true, v)
  list OtherCrl s v = (false, v)
  list k s v = cc

  pub no_list : HasNone (IsEither X509_CRL element) e → HasNone (IsHeld Crl element) e
  no_list n = without (λ k h. list k h.agrees h.reads) n

  key : (k : BagKind) → named_kind k ≡ ShroudedKey → IsOfKind k element → (key : encrypted_key_bag.Value) × (SEQUENCE encrypted_key_bag).format.Reads 64 element key
  key ShroudedKey s v = v
  key k s v = cc

  pub no_key : HasNone ((SEQUENCE encrypted_key_bag).format.Reads 64 element) e → HasNone (IsHeld ShroudedKey element) e
  no_key n = without (λ k h. key k h.agrees h.reads) n

-- what a bag's value is, of its own part
module _ (bag : BagValue) where
  own_element : (element : ElementOctets) → bag_value.IsPart bag element → element ≡ bag.1.0
  own_element element (v, e, f) = f ∙ e

  x509_read : (known : ℕ) (octets : Octets) → (x509_octets known).IsPart bag octets → IsX509 known bag.1.0
  x509_read known octets (element, own, (inside, reads, (held, e, rest))) =
      (held, subst (λ x. (SEQUENCE (x509_bag known)).format.Reads 64 x (inl held)) (own_element element own) (subst (λ v. (SEQUENCE (x509_bag known)).format.Reads 64 element v) e reads))

  other_read : (known : ℕ) (other : ElementOctets) → (other_element known).IsPart bag other → IsOther known bag.1.0
  other_read known other (element, own, (inside, reads, (held, (type, e), rest))) =
      (type, held, subst (λ x. (SEQUENCE (x509_bag known)).format.Reads 64 x (inr (type, held))) (own_element element own) (subst (λ v. (SEQUENCE (x509_bag known)).format.Reads 64 element v) e reads))

  module _ (b : List ℕ) (m n : ℕ) where
    pub read_as : (k : BagKind) (r : Range ℕ) → IsValueAt b m n bag k r → IsOfKind k bag.1.0
    read_as Certificate r v = x509_read X509_CERTIFICATE v.0 v.1.is_part
    read_as OtherCertificate r v = other_read X509_CERTIFICATE v.0 v.1.is_part
    read_as Crl r v = x509_read X509_CRL v.0 v.1.is_part
    read_as OtherCrl r v = other_read X509_CRL v.0 v.1.is_part
    read_as ShroudedKey r (key, v) =
        let p = v.is_part in
        (key, subst (λ x. (SEQUENCE encrypted_key_bag).format.Reads 64 x key) (own_element p.0 p.1) p.2)
    read_as Key r v = tt
    read_as Secret r v = tt
    read_as SafeContents r v = tt
    read_as Other r v = tt
    read_as Unread r v = tt

    module _ (is : IsIn BAG.format.Reads b m n bag) (r : Range ℕ) where
      x509_at : (known : ℕ) → IsX509 known bag.1.0 → LeadsIn (x509_octets known).steps b (record { start = m; end = n }) r → (octets : Octets) × IsPartIn (x509_octets known) b m n bag octets r
      x509_at known (held, reads) leads = (held, part_is (x509_octets known) b m n bag is held (bag.1.0, (bag.1.0, refl, refl), (inl held, reads, (held, refl, (held, refl, refl)))) r (leads is.inside.0 is.inside.1))

      other_at : (known : ℕ) → IsOther known bag.1.0 → LeadsIn (other_element known).steps b (record { start = m; end = n }) r → (other : ElementOctets) × IsPartIn (other_element known) b m n bag other r
      other_at known (type, held, reads) leads = (held, part_is (other_element known) b m n bag is held (bag.1.0, (bag.1.0, refl, refl), (inr (type, held), reads, (held, (type, refl), refl))) r (leads is.inside.0 is.inside.1))

      plain_at : LeadsIn bag_value.steps b (record { start = m; end = n }) r → IsPartIn bag_value b m n bag bag.1.0 r
      plain_at leads = part_is bag_value b m n bag is bag.1.0 (bag.1.0, refl, refl) r (leads is.inside.0 is.inside.1)

      key_at : IsOfKind ShroudedKey bag.1.0 → LeadsIn encrypted_key.steps b (record { start = m; end = n }) r → (key : encrypted_key_bag.Value) × IsPartIn encrypted_key b m n bag key r
      key_at (key, reads) leads = (key, part_is encrypted_key b m n bag is key (bag.1.0, (bag.1.0, refl, refl), reads) r (leads is.inside.0 is.inside.1))

      -- what a bag of a kind holds is where the steps lead
      pub value_is : (k : BagKind) → IsOfKind k bag.1.0 → LeadsIn (value_steps k) b (record { start = m; end = n }) r → IsValueAt b m n bag k r
      value_is Certificate held leads = x509_at X509_CERTIFICATE held leads
      value_is OtherCertificate held leads = other_at X509_CERTIFICATE held leads
      value_is Crl held leads = x509_at X509_CRL held leads
      value_is OtherCrl held leads = other_at X509_CRL held leads
      value_is ShroudedKey held leads = key_at held leads
      value_is Key held leads = plain_at leads
      value_is Secret held leads = plain_at leads
      value_is SafeContents held leads = plain_at leads
      value_is Other held leads = plain_at leads
      value_is Unread held leads = plain_at leads
