use Rattle.x509_pkcs7.proofs.AllFirsts.{appended_one}
use Rattle.x509_pkcs7.specs.AllSigners.{known_value}
use Rattle.x509_pkcs7.proofs.verifier.all_signers.push_known.Goals as goal

pub returns-in_ok-push-in-Some : goal.returns-in_ok-push-in-Some
returns-in_ok-push-in-Some c = appended_one known_value (c.args.index, c.args.element.now.0.items) c.in_ok-known.field-0 c.in_ok-known.ensures c.in-Some.known c.args.found.now.items c.push.new.self.items c.in-Some.is c.in_ok-push-in-Some.ensures.items
