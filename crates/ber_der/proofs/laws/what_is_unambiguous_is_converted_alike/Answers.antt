use Rattle.ber_der.specs.laws.BerLaws.{unambiguous_is_ber}
use Rattle.ber_der.specs.declared.contexts.Role.TheVariants.{Whole}
use Rattle.ber_der.proofs.laws.what_is_unambiguous_is_converted_alike.Goals as goal

pub returns : goal.returns
returns c k b d p = unambiguous_is_ber k Whole b d p
