use Rattle.std.specs.Prelude.{map, take}
use Rattle.std.specs.List.{AllByRecursion}
use Rattle.asn1_core.specs.Der.{octets_of}
use Rattle.signed_writers.specs.Signed.{IsConsistent}
use Rattle.x509_pkcs7.specs.RawSigners.{raw_signer_info_value}
use Rattle.signed_writers.proofs.checks.check_signers.Given as goal

abbrev pub invariant-loop-index : goal.invariant-loop-index
invariant-loop-index l = AllByRecursion (IsConsistent (octets_of l.content_type.0)) (map raw_signer_info_value (take l.index l.signers))
