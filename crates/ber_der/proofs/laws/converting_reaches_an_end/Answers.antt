use Rattle.std.proofs.Common.{true}
use Rattle.ber_der.specs.laws.DerLaws.{converted_is_der, der_is_fixed}
use Rattle.ber_der.specs.declared.contexts.Role.TheVariants.{Whole}
use Rattle.ber_der.proofs.laws.converting_reaches_an_end.Goals as goal

pub returns : goal.returns
returns c k b d l p = der_is_fixed true k d l (converted_is_der true k Whole b d (λ e. cc) p)
