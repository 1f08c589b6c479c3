use Rattle.std.proofs.Common.{refl}
use Rattle.pkcs7_verifier.specs.laws.Hashed.{front_is_there}
use Rattle.x509_pkcs7.proofs.verifier.raw_hashed.contents_of.Goals as goal

pub returns-in-None : goal.returns-in-None
returns-in-None c = (refl, λ o. front_is_there c.args.element.now o c.in-None.ensures.none)
