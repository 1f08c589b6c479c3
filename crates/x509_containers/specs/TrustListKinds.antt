-- Trust lists and their parts, as kinds of input: their words, and what inputs are written as.
use Rattle.asn1_core.specs.Asn1.{SEQUENCE}
use Rattle.std.specs.Prelude.{List, [], ◌∷◌, codes}
use Rattle.pkcs7_content.specs.Policies.{cert_policy, root_program_chain_policy, policy_qualifier}
use Rattle.pkcs7_content.specs.TrustLists.{ctl, ctl_entry, ctl_entry_attribute}
use Rattle.x509_containers.specs.Entries.{Entry, entry}
use Rattle.x509_containers.specs.declared.kinds.trust_lists.TrustListKind.{TrustListKind}
use Rattle.x509_containers.specs.declared.kinds.trust_lists.TrustListKind.TheVariants as Kind

abbrev pub entry_of : TrustListKind → Entry
entry_of Kind.CertPolicy = entry (codes "certpolicy") (SEQUENCE cert_policy).format
entry_of Kind.Ctl = entry (codes "ctl") (SEQUENCE ctl).format
entry_of Kind.CTLEntry = entry (codes "ctlentry") (SEQUENCE ctl_entry).format
entry_of Kind.CTLEntryAttribute = entry (codes "ctlentryattribute") (SEQUENCE ctl_entry_attribute).format
entry_of Kind.PolicyQualifier = entry (codes "policyqualifier") (SEQUENCE policy_qualifier).format
entry_of Kind.RootProgramChainPolicy = entry (codes "rootprogramchainpolicy") (SEQUENCE root_program_chain_policy).format

abbrev pub kinds : List TrustListKind
kinds = Kind.CertPolicy ∷ Kind.Ctl ∷ Kind.CTLEntry ∷ Kind.CTLEntryAttribute ∷ Kind.PolicyQualifier ∷ Kind.RootProgramChainPolicy ∷ []
