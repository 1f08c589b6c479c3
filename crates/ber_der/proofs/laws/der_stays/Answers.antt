use Rattle.std.proofs.Common.{true, false}
use Rattle.ber_der.specs.laws.DerLaws.{der_is_fixed}
use Rattle.ber_der.proofs.laws.der_stays.Goals as goal

pub returns : goal.returns
returns c k b l p = (der_is_fixed true k b l p, der_is_fixed false k b l p)
