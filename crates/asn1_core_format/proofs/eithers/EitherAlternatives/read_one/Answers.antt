use Rattle.std.proofs.Common.{rules}
use Rattle.std.proofs.lemmas.Bool.{iff_false}
use Rattle.asn1_core_format.specs.laws.Format.{distinct_both}
use Rattle.asn1_core_format.proofs.EitherReads.{first_refused, second_refused}
use Rattle.asn1_core_format.proofs.eithers.EitherAlternatives.read_one.Goals as goal

pub returns-in_err-first : goal.returns-in_err-first
returns-in_err-first g c =
    let r = first_refused g.A.DerSerialize.format g.B.DerSerialize.format g.met.A.DerDeserialize.lawful (g.met.B.Alternatives.laws (distinct_both g.A.DerSerialize.format g.B.DerSerialize.format g.B.Alternatives.distinct c.requires.tags).0) (distinct_both g.A.DerSerialize.format g.B.DerSerialize.format g.B.Alternatives.distinct c.requires.tags).1 c.args.nest (c.next_is.ensures.0 c.if-next_is.true) c.in_err-first.ensures in
    search rules

pub returns-in_err-second : goal.returns-in_err-second
returns-in_err-second g c =
    let r = second_refused g.A.DerSerialize.format g.B.DerSerialize.format g.met.A.DerDeserialize.lawful (g.met.B.Alternatives.laws (distinct_both g.A.DerSerialize.format g.B.DerSerialize.format g.B.Alternatives.distinct c.requires.tags).0) (distinct_both g.A.DerSerialize.format g.B.DerSerialize.format g.B.Alternatives.distinct c.requires.tags).1 c.args.nest (iff_false c.next_is.ensures c.if-next_is.false) c.in_err-second.ensures in
    search rules
