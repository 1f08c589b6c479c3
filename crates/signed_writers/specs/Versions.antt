-- The versions of signed data and of signers (RFC 5652, 5.1 and 5.3).
use Rattle.std.specs.Prelude.{◌&&◌, ◌||◌, not, ℕ, Bool, true, false, List, [], ◌∷◌, Option, None, Some, eqb, if◌then◌else◌}
use Rattle.std.specs.Str.{bytes_eq}
use Rattle.std.proofs.Common.{inl, inr}
use Rattle.asn1_core.specs.Der.{ElementOctets}
use Rattle.asn1_core_oid.specs.Known.{data_oid}
use Rattle.pkcs7_signed_crl.specs.SignerParts.{signer_identifier}
use Rattle.pkcs7_verifier.specs.KeyIdentifiers.{has_tag}
use Rattle.signer_ranges.specs.SignerRoutes.{SignerValue}
use Rattle.signed_writers.specs.declared.content.Content.{Content}
use Rattle.signed_writers.specs.declared.content.Content.TheVariants.{Octets, Element}
use Rattle.signed_writers.specs.declared.content.ContentInfo.{ContentInfo}

-- 1 with issuer and serial number, 3 with a key identifier
abbrev pub signer_version : signer_identifier.Value → ℕ
signer_version (inl i) = 1
signer_version (inr k) = 3

abbrev pub any_tagged : ℕ → List ElementOctets → Bool
any_tagged tag [] = false
any_tagged tag (e ∷ es) = has_tag tag e || any_tagged tag es

abbrev pub any_version_3 : List SignerValue → Bool
any_version_3 [] = false
any_version_3 (s ∷ ss) = eqb s.0 3 || any_version_3 ss

-- content as RFC 5652, 5.2 has it: an element that is no OCTET STRING is content of PKCS #7 (RFC 2315, 7)
abbrev pub is_of_cms : Option Content → Bool
is_of_cms None = true
is_of_cms (Some (Octets x)) = true
is_of_cms (Some (Element x)) = has_tag 0x04 x.now

-- such content of another type than id-data
abbrev pub is_not_data : ContentInfo → Bool
is_not_data x = not (bytes_eq x.content_type.now data_oid) && is_of_cms x.content

-- 5 with a certificate or revocation information of the choice `other`, else 4 with an attribute certificate of version 2,
-- else 3 with one of version 1, with a signer of version 3, or where the content is of another type than id-data, else 1.
-- With content of PKCS #7 that is 1 whatever its type (RFC 2315, 9.1)
abbrev pub signed_version : Bool → List ElementOctets → List ElementOctets → List SignerValue → ℕ
signed_version not_data certificates crls signers =
    if any_tagged 0xA3 certificates || any_tagged 0xA1 crls then 5
    else if any_tagged 0xA2 certificates then 4
    else if any_tagged 0xA1 certificates || (any_version_3 signers || not_data) then 3
    else 1
