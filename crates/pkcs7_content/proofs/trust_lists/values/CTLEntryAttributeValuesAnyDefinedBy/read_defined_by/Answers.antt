use Rattle.std.proofs.Common.{rules}
use Rattle.asn1_choices.proofs.DefinedByReads.{alternative_refused, refused_at}
use Rattle.pkcs7_content.specs.AttributeValues.{attribute_values, octets_set, usages_set, chain_policies_set, cert_policies_set, raws_set, values_components}
use Rattle.pkcs7_content.specs.Properties.{property_of}
use Rattle.pkcs7_content.proofs.trust_lists.values.CTLEntryAttributeValuesAnyDefinedBy.read_defined_by.Goals as goal

pub returns-in_err-values-in-Octets : goal.returns-in_err-values-in-Octets
returns-in_err-values-in-Octets c =
    let h = rw c.property_number-number.ensures at c.in-Octets.ensures in
    let r = refused_at (λ s. values_components s (property_of c.args.oid.now)) h (alternative_refused attribute_values _ octets_set c.in_err-values-in-Octets.ensures) in
    search rules

pub returns-in_err-values-in-Usages : goal.returns-in_err-values-in-Usages
returns-in_err-values-in-Usages c =
    let h = rw c.property_number-number.ensures at c.in-Usages.ensures in
    let r = refused_at (λ s. values_components s (property_of c.args.oid.now)) h (alternative_refused attribute_values _ usages_set c.in_err-values-in-Usages.ensures) in
    search rules

pub returns-in_err-values-in-ChainPolicies : goal.returns-in_err-values-in-ChainPolicies
returns-in_err-values-in-ChainPolicies c =
    let h = rw c.property_number-number.ensures at c.in-ChainPolicies.ensures in
    let r = refused_at (λ s. values_components s (property_of c.args.oid.now)) h (alternative_refused attribute_values _ chain_policies_set c.in_err-values-in-ChainPolicies.ensures) in
    search rules

pub returns-in_err-values-in-CertPolicies : goal.returns-in_err-values-in-CertPolicies
returns-in_err-values-in-CertPolicies c =
    let h = rw c.property_number-number.ensures at c.in-CertPolicies.ensures in
    let r = refused_at (λ s. values_components s (property_of c.args.oid.now)) h (alternative_refused attribute_values _ cert_policies_set c.in_err-values-in-CertPolicies.ensures) in
    search rules

pub returns-in_err-values-in-Raws : goal.returns-in_err-values-in-Raws
returns-in_err-values-in-Raws c =
    let h = rw c.property_number-number.ensures at c.in-Raws.ensures in
    let r = refused_at (λ s. values_components s (property_of c.args.oid.now)) h (alternative_refused attribute_values _ raws_set c.in_err-values-in-Raws.ensures) in
    search rules
