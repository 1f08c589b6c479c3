use Rattle.std.proofs.Common.{rules}
use Rattle.asn1_choices.proofs.OidReads.{choice_has_read, after_refused, oid_refused}
use Rattle.asn1_choices.proofs.choices.ChosenReadComponents.read_components.Goals as goal

pub returns-in_err-oid : goal.returns-in_err-oid
returns-in_err-oid g c = let r = oid_refused g.C.WriteChoice.choice (g.met.C.ReadChoice.lawful c.requires.tags) {k = c.args.nest} c.in_err-oid.ensures in search rules

pub returns-in_err-choice : goal.returns-in_err-choice
returns-in_err-choice g c =
    let r = after_refused g.C.WriteChoice.choice (g.met.C.ReadChoice.lawful c.requires.tags) c.in_ok-oid.ensures c.in_err-choice.ensures in
    search rules

pub returns : goal.returns
returns g c = choice_has_read g.C.WriteChoice.choice (g.met.C.ReadChoice.lawful c.requires.tags) c.in_ok-oid.ensures c.in_ok-choice.ensures
