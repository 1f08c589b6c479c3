use Rattle.std.specs.Prelude.{map}
use Rattle.std.proofs.Common.{rules}
use Rattle.signed_writers.proofs.SetTexts.{no_set, set_result}
use Rattle.signed_writers.proofs.attributes.write_attributes.Goals as goal

pub returns-in_err-texts_of : goal.returns-in_err-texts_of
returns-in_err-texts_of c = let r = no_set c.args.given.now _ c.in_err-texts_of.ensures in search rules

pub returns : goal.returns
returns c = set_result c.args.given.now (λ v. v.items) (map (λ x. x.0.items) c.in_ok-texts_of.field-0.items) c.in_ok-texts_of.ensures c.to_vec.result c.to_vec.ensures.text
