-- What borrowed holders are, as values.
use Rattle.asn1_core.specs.Der.{option_value}
use Rattle.password_writers.specs.Given.{GivenInfoValue, GivenKeyValue}
use Rattle.password_writers.specs.Values.{algorithm_value}
use Rattle.password_writers.specs.Written.{given_info_of}
use Rattle.password_writers.specs.declared.holders.EncryptedContents.{EncryptedContents}
use Rattle.password_writers.specs.declared.holders.EncryptedKey.{EncryptedKey}

abbrev pub key_value : EncryptedKey → GivenKeyValue
key_value x = (algorithm_value x.algorithm, (x.encrypted.now, tt))

abbrev pub contents_value : EncryptedContents → GivenInfoValue
contents_value x = given_info_of (algorithm_value x.algorithm) (option_value (λ o. o.now) x.encrypted)
