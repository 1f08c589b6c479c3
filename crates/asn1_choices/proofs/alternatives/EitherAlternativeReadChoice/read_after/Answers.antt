use Rattle.std.proofs.Common.{rules}
use Rattle.std.proofs.lemmas.Bool.{and_parts}
use Rattle.std.proofs.lemmas.Bool.{iff_false}
use Rattle.asn1_choices.proofs.OidReads.{here_refused, there, there_refused}
use Rattle.asn1_choices.proofs.alternatives.EitherAlternativeReadChoice.read_after.Goals as goal

pub returns-in_err-components : goal.returns-in_err-components
returns-in_err-components g c =
    let r = here_refused g.N.Named.OID g.R.WriteComponents.format g.C.WriteChoice.choice (g.met.C.ReadChoice.lawful (and_parts g.R.ReadComponents.distinct g.C.ReadChoice.distinct c.requires.tags).1) (c.is_named.ensures.0 c.if-is_named.true) c.in_err-components.ensures in
    search rules

pub returns-in_err-other : goal.returns-in_err-other
returns-in_err-other g c =
    let r = there_refused g.N.Named.OID g.R.WriteComponents.format g.C.WriteChoice.choice (g.met.C.ReadChoice.lawful (and_parts g.R.ReadComponents.distinct g.C.ReadChoice.distinct c.requires.tags).1) (iff_false c.is_named.ensures c.if-is_named.false) c.in_err-other.ensures in
    search rules

pub returns : goal.returns
returns g c =
    there g.N.Named.OID g.R.WriteComponents.format g.C.WriteChoice.choice (g.met.C.ReadChoice.lawful (and_parts g.R.ReadComponents.distinct g.C.ReadChoice.distinct c.requires.tags).1) (iff_false c.is_named.ensures c.if-is_named.false) c.in_ok-other.ensures
