use Rattle.std.proofs.Common.{subst, sym}
use Rattle.asn1_located.specs.Places.{Finds, Leads}
use Rattle.asn1_located.proofs.walks.lead.Goals as goal

pub returns-in-Past : goal.returns-in-Past
returns-in-Past c = subst (λ s. Finds (λ n y. Leads s c.args.start c.args.octets.now n y) c.args.start c.args.octets.now c.past.result) (sym c.in-Past.is) c.past.ensures
