use Rattle.std.proofs.Common.{◌≡◌, map, take}
use Rattle.asn1_core.specs.Der.{option_value}
use Rattle.x509_pkcs7.proofs.verifier.all_signers.elements_of.Given as goal

abbrev pub invariant-loop-certificate : goal.invariant-loop-certificate
invariant-loop-certificate l = map (λ f. option_value (λ e. e.now.0.items) f) l.elements.items ≡ map (λ f. option_value (λ e. e.element.now.0.items) f) (take l.certificate-index l.found)
