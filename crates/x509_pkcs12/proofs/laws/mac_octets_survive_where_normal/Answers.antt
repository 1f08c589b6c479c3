use Rattle.asn1_core.specs.Der.{raw, lawful_raw}
use Rattle.x509_pkcs12.specs.laws.Agree.{mac_octets_rewritten}
use Rattle.x509_pkcs12.specs.laws.Pfxs.{lawful_pfx}
use Rattle.x509_pkcs12.proofs.laws.mac_octets_survive_where_normal.Goals as goal

pub returns : goal.returns
returns g c = λ k b octets w v. mac_octets_rewritten g.R.DerSerialize.format g.met.R.DerDeserialize.lawful k ((lawful_pfx raw lawful_raw).components.one_value k) b octets w v
