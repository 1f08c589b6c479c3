use Rattle.std.proofs.Common.{rules}
use Rattle.std.proofs.lemmas.Bool.{and_parts}
use Rattle.asn1_choices.proofs.OidReads.{alternative_refused, no_alternative, no_alternative_refused}
use Rattle.asn1_choices.proofs.tables.AmongReadChoice.read_after.Goals as goal

pub returns-in_err-components-in-Some : goal.returns-in_err-components-in-Some
returns-in_err-components-in-Some g c =
    let r = alternative_refused g.K.OidTable.table g.R.WriteComponents.format g.C.WriteChoice.choice g.met.K.OidTable.is_table (g.met.C.ReadChoice.lawful (and_parts g.R.ReadComponents.distinct g.C.ReadChoice.distinct c.requires.tags).1) c.in-Some.ensures c.in_err-components-in-Some.ensures in
    search rules

pub returns-in_err-read_after-in-None : goal.returns-in_err-read_after-in-None
returns-in_err-read_after-in-None g c =
    let r = no_alternative_refused g.K.OidTable.table g.R.WriteComponents.format g.C.WriteChoice.choice g.met.K.OidTable.is_table (g.met.C.ReadChoice.lawful (and_parts g.R.ReadComponents.distinct g.C.ReadChoice.distinct c.requires.tags).1) c.in-None.ensures c.in_err-read_after-in-None.ensures in
    search rules

pub returns-in_ok-read_after-in-None : goal.returns-in_ok-read_after-in-None
returns-in_ok-read_after-in-None g c =
    no_alternative g.K.OidTable.table g.R.WriteComponents.format g.C.WriteChoice.choice g.met.K.OidTable.is_table (g.met.C.ReadChoice.lawful (and_parts g.R.ReadComponents.distinct g.C.ReadChoice.distinct c.requires.tags).1) c.in-None.ensures c.in_ok-read_after-in-None.ensures
