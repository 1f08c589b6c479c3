use Rattle.asn1_core.proofs.Raws.{raw_has_read}
use Rattle.asn1_core.proofs.raw.Asn1RawDerDerDeserialize.read.Goals as goal

pub returns : goal.returns
returns c = raw_has_read c.args._nest c.in_ok-element.ensures c.in_ok-from_slice.ensures.items
