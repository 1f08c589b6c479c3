-- What a bag holds, by the kind that its object identifier says.
use Rattle.std.specs.Prelude.{◌≡◌, ◌≤◌, ℕ, List, length, Bool, true, false, slice_range}
use Rattle.std.specs.declared.ops.Range.{Range}
use Rattle.std.proofs.Common.{inl, inr}
use Rattle.asn1_core.specs.Asn1.{SEQUENCE}
use Rattle.asn1_core.specs.Der.{ElementOctets, Octets, OidOctets}
use Rattle.asn1_located.specs.declared.walks.Step.{Step}
use Rattle.bag_ranges.specs.BagRoutes.{bag_value, encrypted_key, other_element, x509_octets}
use Rattle.located_rows.specs.Rows.{LeadsTo}
use Rattle.pkcs12_bags.specs.BagParts.{encrypted_key_bag, x509_bag}
use Rattle.pkcs12_bags.specs.declared.parts.oids.TheConstants.{X509_CERTIFICATE, X509_CRL}
use Rattle.bag_ranges.specs.declared.ranges.BagKind.{BagKind}
use Rattle.bag_ranges.specs.declared.ranges.BagKind.TheVariants.{Key, ShroudedKey, Certificate, Crl, Secret, SafeContents, Other, Unread, OtherCertificate, OtherCrl}

-- the element reads as a CertBag or CRLBag of an X.509 one, whose object identifier has that number
abbrev pub IsX509 : ℕ → ElementOctets → Type 0
IsX509 known element = (octets : Octets) × (SEQUENCE (x509_bag known)).format.Reads 64 element (inl octets)

-- or as one of another type
abbrev pub IsOther : ℕ → ElementOctets → Type 0
IsOther known element = (type : OidOctets) × (other : ElementOctets) × (SEQUENCE (x509_bag known)).format.Reads 64 element (inr (type, other))

abbrev pub IsEither : ℕ → ElementOctets → Bool → Type 0
IsEither known element true = IsX509 known element
IsEither known element false = IsOther known element

-- what the element of a bag of a kind reads as; nothing where it isn't read
abbrev pub IsOfKind : BagKind → ElementOctets → Type 0
IsOfKind Certificate element = IsX509 X509_CERTIFICATE element
IsOfKind OtherCertificate element = IsOther X509_CERTIFICATE element
IsOfKind Crl element = IsX509 X509_CRL element
IsOfKind OtherCrl element = IsOther X509_CRL element
IsOfKind ShroudedKey element = (key : encrypted_key_bag.Value) × (SEQUENCE encrypted_key_bag).format.Reads 64 element key
IsOfKind kind element = Unit {0}

-- the kind that the object identifier of a bag of a kind says
abbrev pub named_kind : BagKind → BagKind
named_kind OtherCertificate = Certificate
named_kind OtherCrl = Crl
named_kind Certificate = Certificate
named_kind Crl = Crl
named_kind ShroudedKey = ShroudedKey
named_kind Key = Key
named_kind Secret = Secret
named_kind SafeContents = SafeContents
named_kind Other = Other
named_kind Unread = Unread

-- a kind that the object identifier of a bag allows, which says `named`, and its element too
pub record IsHeld (named : BagKind) (element : ElementOctets) (kind : BagKind) : Type 0 where
  pub agrees : named_kind kind ≡ named
  pub reads : IsOfKind kind element

-- the steps to what a bag of a kind holds
abbrev pub value_steps : BagKind → List Step
value_steps Certificate = (x509_octets X509_CERTIFICATE).steps
value_steps OtherCertificate = (other_element X509_CERTIFICATE).steps
value_steps Crl = (x509_octets X509_CRL).steps
value_steps OtherCrl = (other_element X509_CRL).steps
value_steps ShroudedKey = encrypted_key.steps
value_steps Key = bag_value.steps
value_steps Secret = bag_value.steps
value_steps SafeContents = bag_value.steps
value_steps Other = bag_value.steps
value_steps Unread = bag_value.steps

-- where the steps lead somewhere from the octets of the input in one range, it is the other range
abbrev pub LeadsIn : List Step → List ℕ → Range ℕ → Range ℕ → Type 0
LeadsIn steps b place r = place.start ≤ place.end → place.end ≤ length b → LeadsTo steps place.start (slice_range b place.start place.end) r.start r.end
