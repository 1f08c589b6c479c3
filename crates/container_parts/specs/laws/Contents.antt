-- Laws of `Contents.antt`.
use Rattle.std.specs.Prelude.{ℕ, List, Option, None, Some}
use Rattle.std.proofs.Common.{subst}
use Rattle.asn1_core.specs.Asn1.{ANY, EXPLICIT}
use Rattle.asn1_core.specs.Der.{nothing, optional, ElementOctets, IsElement, IsTagByte}
use Rattle.signer_ranges.specs.Signers.{FileValue, content_info_of, signed_file}
use Rattle.x509_pkcs7.specs.RawHashed.{content_of, IsNoElement}
use Rattle.container_parts.specs.Contents.{IsOneElement}

of_optional : (k : ℕ) (b : List ℕ) (content : Option ElementOctets) → (optional (EXPLICIT 0 ANY).format nothing).Reads k b (content, tt) → IsOneElement content
of_optional k b None r = tt
of_optional k b (Some content) r = subst (IsElement IsTagByte) r.3.2.0 r.3.2.1

pub content_read : (k : ℕ) (b : List ℕ) (v : FileValue) → signed_file.Reads k b v → IsOneElement (content_of (content_info_of v))
content_read k b v r =
    let signed = r.2.4.3.2.2 in
    of_optional k _ _ signed.4.4.3.2.4

pub no_element : (content : Option ElementOctets) → IsOneElement content → IsNoElement content → ⊥
no_element None is not = not
no_element (Some content) is not = not is
