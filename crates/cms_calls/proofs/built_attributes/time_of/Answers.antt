use Rattle.cms_calls.proofs.BuiltAttributes.{no_time}
use Rattle.cms_calls.proofs.built_attributes.time_of.Goals as goal

pub returns-in-None : goal.returns-in-None
returns-in-None c = no_time c.args.input.now c.args.part c.in_ok-octets.octets.now c.in_ok-octets.ensures c.in-None.ensures
