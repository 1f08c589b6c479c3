use Rattle.std.proofs.Common.{rules}
use Rattle.std.proofs.lemmas.Bool.{iff_false}
use Rattle.asn1_core_format.specs.laws.Format.{distinct_both}
use Rattle.asn1_core_format.proofs.ComponentReads.{first_refused, rest_refused, there_refused, omitted_refused, no_default, has_read_default}
use Rattle.asn1_core_format.specs.Omitted.{is_default_with}
use Rattle.asn1_core_format.proofs.components.OmittedReadComponents.read_components.Goals as goal

pub returns-in_err-first : goal.returns-in_err-first
returns-in_err-first g c =
    let p = first_refused g.A.DerSerialize.format g.R.WriteComponents.format g.met.A.DerDeserialize.lawful c.args.nest c.in_err-first.ensures in
    let r = there_refused (is_default_with g.A.HasDefault.INSIDE g.A.DerSerialize.format g.A.HasDefault.DEFAULT) g.A.HasDefault.DEFAULT g.A.DerSerialize.format g.R.WriteComponents.format g.met.A.DerDeserialize.lawful (g.met.R.ReadComponents.lawful (distinct_both g.A.DerSerialize.format g.R.WriteComponents.format g.R.ReadComponents.distinct c.requires.tags).0) g.met.A.HasDefault.left_out (distinct_both g.A.DerSerialize.format g.R.WriteComponents.format g.R.ReadComponents.distinct c.requires.tags).1 c.args.nest (c.next_is.ensures.0 c.if-next_is.true) p in
    search rules

pub returns-in_err-rest : goal.returns-in_err-rest
returns-in_err-rest g c =
    let p = rest_refused g.A.DerSerialize.format g.R.WriteComponents.format g.met.A.DerDeserialize.lawful c.args.nest c.in_ok-first.ensures c.in_err-rest.ensures in
    let r = there_refused (is_default_with g.A.HasDefault.INSIDE g.A.DerSerialize.format g.A.HasDefault.DEFAULT) g.A.HasDefault.DEFAULT g.A.DerSerialize.format g.R.WriteComponents.format g.met.A.DerDeserialize.lawful (g.met.R.ReadComponents.lawful (distinct_both g.A.DerSerialize.format g.R.WriteComponents.format g.R.ReadComponents.distinct c.requires.tags).0) g.met.A.HasDefault.left_out (distinct_both g.A.DerSerialize.format g.R.WriteComponents.format g.R.ReadComponents.distinct c.requires.tags).1 c.args.nest (c.next_is.ensures.0 c.if-next_is.true) p in
    search rules

pub returns-in_err-absent : goal.returns-in_err-absent
returns-in_err-absent g c =
    let r = no_default (is_default_with g.A.HasDefault.INSIDE g.A.DerSerialize.format g.A.HasDefault.DEFAULT) g.A.HasDefault.DEFAULT g.A.DerSerialize.format g.R.WriteComponents.format g.met.A.DerDeserialize.lawful (g.met.R.ReadComponents.lawful (distinct_both g.A.DerSerialize.format g.R.WriteComponents.format g.R.ReadComponents.distinct c.requires.tags).0) g.met.A.HasDefault.left_out (distinct_both g.A.DerSerialize.format g.R.WriteComponents.format g.R.ReadComponents.distinct c.requires.tags).1 c.args.nest c.args.r.now (iff_false c.next_is.ensures c.if-next_is.false) c.in_err-absent.ensures in
    search rules

pub returns-in_err-others : goal.returns-in_err-others
returns-in_err-others g c =
    let r = omitted_refused (is_default_with g.A.HasDefault.INSIDE g.A.DerSerialize.format g.A.HasDefault.DEFAULT) g.A.HasDefault.DEFAULT g.A.DerSerialize.format g.R.WriteComponents.format g.met.A.DerDeserialize.lawful (g.met.R.ReadComponents.lawful (distinct_both g.A.DerSerialize.format g.R.WriteComponents.format g.R.ReadComponents.distinct c.requires.tags).0) g.met.A.HasDefault.left_out (distinct_both g.A.DerSerialize.format g.R.WriteComponents.format g.R.ReadComponents.distinct c.requires.tags).1 c.args.nest (iff_false c.next_is.ensures c.if-next_is.false) c.in_err-others.ensures in
    search rules

pub returns : goal.returns
returns g c = has_read_default (is_default_with g.A.HasDefault.INSIDE g.A.DerSerialize.format g.A.HasDefault.DEFAULT) g.A.HasDefault.DEFAULT g.A.DerSerialize.format g.R.WriteComponents.format g.met.A.DerDeserialize.lawful (g.met.R.ReadComponents.lawful (distinct_both g.A.DerSerialize.format g.R.WriteComponents.format g.R.ReadComponents.distinct c.requires.tags).0) g.met.A.HasDefault.left_out (distinct_both g.A.DerSerialize.format g.R.WriteComponents.format g.R.ReadComponents.distinct c.requires.tags).1 c.args.nest (c.in_ok-absent.ensures c.args.nest) c.in_ok-others.ensures
