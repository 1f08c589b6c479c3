use Rattle.std.proofs.Common.{refl}
use Rattle.asn1_core.specs.Der.{octets_of}
use Rattle.signed_writers.proofs.Refused.{first_refused}
use Rattle.signed_writers.specs.Signed.{IsConsistent}
use Rattle.x509_pkcs7.specs.RawSigners.{raw_signer_info_value}
use Rattle.signed_writers.proofs.checks.check_signers.Goals as goal

pub returns-in-Err : goal.returns-in-Err
returns-in-Err c =
    first_refused (IsConsistent (octets_of c.args.content_type.now.0)) raw_signer_info_value c.args.signers.now c.loop-index.index c.index-signers-index.result c.loop-index-test.true c.index-signers-index.is c.loop-index.invariant
    _ refl refl c.in-Err.ensures
