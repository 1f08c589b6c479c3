use Rattle.pkcs12_ber.proofs.Readings.{der_file}
use Rattle.pkcs12_ber.proofs.laws.der_files_read_as_pfx.Goals as goal

pub returns : goal.returns
returns g c b w v l is safes = der_file g.R.DerSerialize.format g.met.R.DerDeserialize.lawful b w v l is safes
