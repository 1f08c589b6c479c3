use Rattle.std.specs.Prelude.{◌≡◌, map, take}
use Rattle.signed_writers.specs.PartValues.{algorithms_in}
use Rattle.signer_ranges.specs.Signers.{digest_algorithm_of}
use Rattle.x509_pkcs7.specs.RawSigners.{raw_signer_info_value}
use Rattle.signed_writers.proofs.write.algorithms_of.Given as goal

abbrev pub invariant-loop-signer : goal.invariant-loop-signer
invariant-loop-signer l = algorithms_in l.all.items ≡ map digest_algorithm_of (map raw_signer_info_value (take l.signer-index l.signers))
