-- Borrowed values of attributes.
use Rattle.std.specs.Prelude.{◌≡◌}
use Rattle.std.proofs.Common.{inl, inr}
use Rattle.pkcs7_content.specs.AttributeValues.{AttributeValues, octets_in, usages_in, chain_policies_in, cert_policies_in, raws_in}
use Rattle.pkcs7_content.specs.Properties.{shape_of}
use Rattle.pkcs7_content.specs.declared.trust_lists.properties.Shape.TheVariants as Shapes
use Rattle.pkcs7_content.specs.declared.trust_lists.values.Borrowed.{Borrowed}
use Rattle.pkcs7_content.specs.declared.trust_lists.values.Borrowed.TheVariants.{Octets, Usages, ChainPolicies, CertPolicies, Raws}

abbrev pub borrowed_values : Borrowed → AttributeValues
borrowed_values (Octets n s) = inl (n, octets_in s.now)
borrowed_values (Usages n s) = inr (inl (n, usages_in s.now))
borrowed_values (ChainPolicies s) = inr (inr (inl (chain_policies_in s.now)))
borrowed_values (CertPolicies s) = inr (inr (inr (inl (cert_policies_in s.now))))
borrowed_values (Raws s) = inr (inr (inr (inr (raws_in s.now))))

-- the numbers are those of properties with such values
abbrev pub IsBorrowed : Borrowed → Type 0
IsBorrowed (Octets n s) = shape_of n ≡ Shapes.Octets
IsBorrowed (Usages n s) = shape_of n ≡ Shapes.Usages
IsBorrowed (ChainPolicies s) = Unit {0}
IsBorrowed (CertPolicies s) = Unit {0}
IsBorrowed (Raws s) = Unit {0}
