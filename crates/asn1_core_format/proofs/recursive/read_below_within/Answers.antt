use Rattle.std.proofs.Common.{rules, arith}
use Rattle.asn1_core_format.specs.Levels.{less}
use Rattle.asn1_core_format.specs.laws.LevelLaws.{lawful_less}
use Rattle.asn1_core_format.proofs.LevelReads.{alone_has_read}
use Rattle.asn1_core_format.proofs.ComponentReads.{within_refused, within_has_read, alone_refused, alone_left}
use Rattle.asn1_core_format.proofs.recursive.read_below_within.Goals as goal

pub returns-in_err-value : goal.returns-in_err-value
returns-in_err-value g c =
    let r = within_refused (less g.T.DerSerialize.format) c.args.nest c.args.tag c.in_ok-outer.ensures (alone_refused (less g.T.DerSerialize.format) c.args.nest c.in_err-value.ensures) in
    search rules

pub returns-then-left-gt0 : goal.returns-then-left-gt0
returns-then-left-gt0 g c =
    within_refused (less g.T.DerSerialize.format) c.args.nest c.args.tag c.in_ok-outer.ensures
    (alone_left (less g.T.DerSerialize.format) c.args.nest (lawful_less g.T.DerSerialize.format c.requires.lawful) c.in_ok-value.ensures (omega (arith, c.left.ensures, c.if-left-gt0.true)))

pub returns : goal.returns
returns g c =
    within_has_read (less g.T.DerSerialize.format) c.args.nest c.args.tag c.in_ok-outer.ensures
    (alone_has_read (less g.T.DerSerialize.format) c.args.nest c.in_ok-value.ensures (omega (arith, c.left.ensures))) c.close.ensures
