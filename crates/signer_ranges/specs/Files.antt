-- Signed data with signers of every version, as pure data.
use Rattle.x509_pkcs7.specs.RawSigned.{raw_signed_value, signed_data_oid}
use Rattle.x509_pkcs7.specs.RawSigners.{raw_signer_info_value}
use Rattle.x509_pkcs7.specs.declared.raw_signed.RawPkcs7Certificate.{RawPkcs7Certificate}
use Rattle.x509_pkcs7.specs.declared.raw_signers.RawSignerInfo.{RawSignerInfo}
use Rattle.signer_ranges.specs.Signers.{FileValue}

abbrev pub file_value : RawPkcs7Certificate RawSignerInfo → FileValue
file_value x = (signed_data_oid, (raw_signed_value raw_signer_info_value x.signed_data.0, tt))
