use Rattle.asn1_core.specs.Der.{element}
use Rattle.example_laws.proofs.mac_octets_are_in_the_encoding.Goals as goal

pub returns : goal.returns
returns c = λ octets w e. (let s = c.mac_octets_stand_in_the_text.ensures w octets e in (element 0x02 s.version_octets, s.mac, s.is))
