use Rattle.std.proofs.Common.{sym, ap, ◌∙◌}
use Rattle.pkcs12_bags.specs.laws.SelectionLaws.{certificate_of_kind, certificate_field, no_certificate}
use Rattle.pkcs12_bags.proofs.safe_bags.bags.SafeBag.certificate.Goals as goal

pub returns-in-Certificate : goal.returns-in-Certificate
returns-in-Certificate c = sym (certificate_field c.args.self.now ∙ ap certificate_of_kind c.in-Certificate.is)

pub returns-in_default : goal.returns-in_default
returns-in_default c = sym (certificate_field c.args.self.now ∙ no_certificate _ c.in_default.not-Certificate)
