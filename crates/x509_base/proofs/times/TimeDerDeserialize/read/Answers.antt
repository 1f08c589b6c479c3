use Rattle.std.proofs.Common.{rules, arith}
use Rattle.std.proofs.lemmas.Bool.{iff_false}
use Rattle.asn1_core_format.proofs.EitherReads.{first_refused, second_refused}
use Rattle.asn1_leaves.specs.Times.{utc_time, generalized_time}
use Rattle.asn1_leaves.specs.laws.Times.{lawful_utc_time, lawful_generalized_time}
use Rattle.x509_base.proofs.times.TimeDerDeserialize.read.Goals as goal

pub returns-in_err-time-clause-gives : goal.returns-in_err-time-clause-gives
returns-in_err-time-clause-gives c =
    let r = first_refused utc_time generalized_time lawful_utc_time lawful_generalized_time (λ t h e. omega arith) c.args.nest (c.next_is.ensures.0 c.if-next_is.true) c.in_err-time.ensures.gives in
    search rules

pub returns-in_err-time-2-clause-gives : goal.returns-in_err-time-2-clause-gives
returns-in_err-time-2-clause-gives c =
    let r = second_refused utc_time generalized_time lawful_utc_time lawful_generalized_time (λ t h e. omega arith) c.args.nest (iff_false c.next_is.ensures c.if-next_is.false) c.in_err-time-2.ensures.gives in
    search rules
