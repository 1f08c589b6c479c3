use Rattle.cms_calls.proofs.BuiltSigned.{signer_read}
use Rattle.x509_pkcs7.specs.RawSigners.{raw_signer_info_value}
use Rattle.cms_calls.proofs.built_signed.signer_by.Goals as goal

pub returns-in-Ok : goal.returns-in-Ok
returns-in-Ok c = signer_read c.args.input.now c.args.row.now raw_signer_info_value c.in-Ok.parts c.in-Ok.ensures c.read_signer.result c.read_signer.ensures
