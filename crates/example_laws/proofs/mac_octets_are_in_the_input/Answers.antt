use Rattle.asn1_core.specs.Der.{element}
use Rattle.example_laws.proofs.mac_octets_are_in_the_input.Goals as goal

pub returns : goal.returns
returns c = λ k b octets w r e. (let s = c.mac_octets_stand_in_the_input.ensures k b octets w r e in (element 0x02 s.version_octets, s.mac, s.is))
