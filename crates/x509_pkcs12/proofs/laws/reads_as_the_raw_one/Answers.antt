use Rattle.x509_pkcs12.specs.laws.Agree.{pfx_agrees}
use Rattle.x509_pkcs12.proofs.laws.reads_as_the_raw_one.Goals as goal

pub returns : goal.returns
returns g c = λ k. pfx_agrees g.R.DerSerialize.format g.met.R.DerDeserialize.lawful k
