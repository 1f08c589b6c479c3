use Rattle.std.proofs.Common.{refl}
use Rattle.asn1_core_element.proofs.Elements.{opened}
use Rattle.asn1_core_element.proofs.element.open_element.Goals as goal

pub returns : goal.returns
returns c = opened c.args.tag c.in_ok-len.ensures c.open.ensures refl
