use Rattle.pkcs7_signed.specs.laws.SignerLaws.{lawful_attribute}
use Rattle.pkcs7_signed.proofs.recursion.signer_info.read_unsigned_with.Goals as goal

pub read_set_or_none_with-requires-clause-lawful : goal.read_set_or_none_with-requires-clause-lawful
read_set_or_none_with-requires-clause-lawful g c = lawful_attribute
