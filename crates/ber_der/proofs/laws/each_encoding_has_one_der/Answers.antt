use Rattle.std.proofs.Common.{true, [], sym, ◌∙◌, append-nil}
use Rattle.ber_der.specs.laws.BerLaws.{ber_cut}
use Rattle.ber_der.specs.declared.contexts.Role.TheVariants.{Whole}
use Rattle.ber_der.proofs.laws.each_encoding_has_one_der.Goals as goal

pub returns : goal.returns
returns c k a b d e x p q s = let r = ber_cut true k Whole a b d e x [] p q (s ∙ sym (append-nil b)) in (r.0, r.1)
