use Rattle.x509_pkcs12.specs.laws.MacOctets.{mac_octets_stand_in}
use Rattle.x509_pkcs12.proofs.laws.mac_octets_stand_in_the_input.Goals as goal

pub returns : goal.returns
returns c = mac_octets_stand_in
