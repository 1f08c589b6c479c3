use Rattle.std.proofs.Common.{◌≡◌, false, refl, subst}
use Rattle.std.specs.Option.{is_some}
use Rattle.x509_pkcs7.proofs.ByOctets.{inserted, at}
use Rattle.x509_pkcs7.specs.AllSigners.{known_value}
use Rattle.x509_pkcs7.proofs.verifier.all_signers.keep_first.Goals as goal

pub returns : goal.returns
returns c = inserted (λ k. known_value k.now) c.args.found.now c.args.octets.items c.insert.new.self c.args.octets refl c.args.certificate c.in_ok-insert.ensures.updates (subst (λ b. false ≡ is_some (at c.args.found.now b)) c.as_slice.ensures.value c.if-contains_key.ensures)
