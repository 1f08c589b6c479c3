use Rattle.std.proofs.Common.{◌≡◌, map, take}
use Rattle.pkcs7_signed_crl.specs.SignerParts.{signer_identifier_value}
use Rattle.signer_ranges.proofs.signers.names_of.Given as goal

abbrev pub invariant-loop-signer : goal.invariant-loop-signer
invariant-loop-signer l = map (λ n. signer_identifier_value n.now) l.names.items ≡ map (λ s. signer_identifier_value s.sid) (take l.signer-index l.signers)
