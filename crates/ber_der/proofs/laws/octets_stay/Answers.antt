use Rattle.std.proofs.Common.{true}
use Rattle.ber_der.specs.laws.DerLaws.{string_whole}
use Rattle.ber_der.proofs.laws.octets_stay.Goals as goal

pub returns : goal.returns
returns c k b o p = string_whole true k b o p
