use Rattle.std.specs.Prelude.{map}
use Rattle.enveloped_writers.proofs.Envelopes.{enveloped_result}
use Rattle.enveloped_writers.proofs.enveloped.write_read.Goals as goal

pub returns : goal.returns
returns c =
    let es = map (λ e. e.0.now) c.args.recipients.now in
    enveloped_result c.args.given.now es c.in_ok-parts_of.field-0 c.in_ok-parts_of.ensures c.requires.can (λ v. v.items) c.write.result c.write.ensures
