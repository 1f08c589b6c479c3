use Rattle.std.proofs.Common.{rules}
use Rattle.std.proofs.lemmas.Bool.{iff_false}
use Rattle.asn1_core_format.specs.laws.Format.{distinct_both}
use Rattle.asn1_core_format.proofs.ComponentReads.{first_refused, rest_refused, part_refused, absent_refused}
use Rattle.asn1_core_format.proofs.components.MaybeReadComponents.read_components.Goals as goal

pub returns-in_err-first : goal.returns-in_err-first
returns-in_err-first g c =
    let p = first_refused g.A.DerSerialize.format g.R.WriteComponents.format g.met.A.DerDeserialize.lawful c.args.nest c.in_err-first.ensures in
    let r = part_refused g.A.DerSerialize.format g.R.WriteComponents.format g.met.A.DerDeserialize.lawful (g.met.R.ReadComponents.lawful (distinct_both g.A.DerSerialize.format g.R.WriteComponents.format g.R.ReadComponents.distinct c.requires.tags).0) (distinct_both g.A.DerSerialize.format g.R.WriteComponents.format g.R.ReadComponents.distinct c.requires.tags).1 c.args.nest (c.next_is.ensures.0 c.if-next_is.true) p in
    search rules

pub returns-in_err-rest : goal.returns-in_err-rest
returns-in_err-rest g c =
    let p = rest_refused g.A.DerSerialize.format g.R.WriteComponents.format g.met.A.DerDeserialize.lawful c.args.nest c.in_ok-first.ensures c.in_err-rest.ensures in
    let r = part_refused g.A.DerSerialize.format g.R.WriteComponents.format g.met.A.DerDeserialize.lawful (g.met.R.ReadComponents.lawful (distinct_both g.A.DerSerialize.format g.R.WriteComponents.format g.R.ReadComponents.distinct c.requires.tags).0) (distinct_both g.A.DerSerialize.format g.R.WriteComponents.format g.R.ReadComponents.distinct c.requires.tags).1 c.args.nest (c.next_is.ensures.0 c.if-next_is.true) p in
    search rules

pub returns-in_err-rest-2 : goal.returns-in_err-rest-2
returns-in_err-rest-2 g c =
    let r = absent_refused g.A.DerSerialize.format g.R.WriteComponents.format g.met.A.DerDeserialize.lawful (g.met.R.ReadComponents.lawful (distinct_both g.A.DerSerialize.format g.R.WriteComponents.format g.R.ReadComponents.distinct c.requires.tags).0) (distinct_both g.A.DerSerialize.format g.R.WriteComponents.format g.R.ReadComponents.distinct c.requires.tags).1 c.args.nest (iff_false c.next_is.ensures c.if-next_is.false) c.in_err-rest-2.ensures in
    search rules
