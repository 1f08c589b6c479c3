use Rattle.std.proofs.Common.{subst}
use Rattle.located_rows.specs.Rows.{LeadsTo}
use Rattle.signer_ranges.specs.SignerRoutes.{digest_in}
use Rattle.signer_ranges.proofs.parts.digest_place.Goals as goal

pub returns-in-Some : goal.returns-in-Some
returns-in-Some c = λ _ _. subst (λ octets. LeadsTo (digest_in c.args.index).steps c.args.attributes.now.start octets c.range_from.result.start c.range_from.result.end) c.in-Some.ensures.lookup.0.2 c.range_from.ensures
