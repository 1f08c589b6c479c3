use Rattle.pkcs12_ber.proofs.Readings.{one_reading}
use Rattle.pkcs12_ber.proofs.laws.a_file_has_one_reading.Goals as goal

pub returns : goal.returns
returns g c b w x v y p q = one_reading g.R.DerSerialize.format g.met.R.DerDeserialize.lawful b w x v y p q
