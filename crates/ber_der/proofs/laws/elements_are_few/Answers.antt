use Rattle.std.proofs.Common.{true}
use Rattle.ber_der.specs.laws.Counts.{few_elements}
use Rattle.ber_der.specs.declared.contexts.Role.TheVariants.{Whole}
use Rattle.ber_der.proofs.laws.elements_are_few.Goals as goal

pub returns : goal.returns
returns c k b d p = few_elements true k Whole b d p
