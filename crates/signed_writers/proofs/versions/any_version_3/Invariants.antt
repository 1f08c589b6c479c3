use Rattle.std.specs.Prelude.{◌≡◌, drop, map}
use Rattle.signed_writers.specs.Versions.{any_version_3}
use Rattle.x509_pkcs7.specs.RawSigners.{raw_signer_info_value}
use Rattle.signed_writers.proofs.versions.any_version_3.Given as goal

abbrev pub invariant-loop-signer : goal.invariant-loop-signer
invariant-loop-signer l = any_version_3 (map raw_signer_info_value (drop l.signer-index l.signers)) ≡ any_version_3 (map raw_signer_info_value l.signers)
