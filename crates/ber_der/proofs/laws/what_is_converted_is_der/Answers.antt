use Rattle.std.proofs.Common.{true}
use Rattle.ber_der.specs.laws.DerLaws.{converted_is_der}
use Rattle.ber_der.specs.declared.contexts.Role.TheVariants.{Whole}
use Rattle.ber_der.proofs.laws.what_is_converted_is_der.Goals as goal

pub returns : goal.returns
returns c k b d p = converted_is_der true k Whole b d (λ e. cc) p
