-- The values of signers, what they hold and signed data, level by level.
use Rattle.pkcs7_signed.specs.Heads.{signer_parts_value, signed_parts_value}
use Rattle.pkcs7_signed.specs.Parts.{SignerParts, SignedParts}
use Rattle.pkcs7_signed.specs.declared.signers.SignedData.{SignedData, out-SignedData}
use Rattle.pkcs7_signed.specs.declared.signers.SignerInfo.{SignerInfo, out-SignerInfo}

-- the parts of a signer, and what follows them
abbrev pub parts_of_signer : {R : Type 0} → SignerInfo → R → SignerParts R
parts_of_signer x r =
    signer_parts_value (out-SignerInfo x).version (out-SignerInfo x).sid (out-SignerInfo x).digest_algorithm (out-SignerInfo x).signed_attrs.0
    (out-SignerInfo x).signature_algorithm (out-SignerInfo x).signature r

abbrev pub parts_of_signed : {R : Type 0} → SignedData → R → SignedParts R
parts_of_signed x r =
    signed_parts_value (out-SignedData x).version (out-SignedData x).digest_algorithms (out-SignedData x).content_info
    (out-SignedData x).certificates.0 (out-SignedData x).crls r
