use Rattle.std.proofs.Common.{arith, map}
use Rattle.std.proofs.lemmas.Bool.{iff_false}
use Rattle.std.proofs.lemmas.Result.{err_from_is_err_and}
use Rattle.asn1_core_format.specs.EmptySets.{set_or_none}
use Rattle.asn1_core_format.proofs.LevelReads.{has_refused_components}
use Rattle.asn1_core_format.proofs.SetReads.{set_refused, set_left, none_left}
use Rattle.asn1_core_format.proofs.sets.read_set_or_none_with.Goals as goal

pub returns-in_err-items : goal.returns-in_err-items
returns-in_err-items g c =
    let r = set_refused g.T.DerSerialize.format c.requires.lawful c.args.nest (c.next_is_tag.ensures.0 c.if-next_is_tag.true) c.in_err-items.ensures in
    has_refused_components (λ x. (map g.T.DerSerialize.value x.0.items, tt)) (set_or_none 0xA1 g.T.DerSerialize.format) c.args.nest (err_from_is_err_and c.from_residual.result c.from_residual.ensures.1) r

pub returns-then-left-gt0 : goal.returns-then-left-gt0
returns-then-left-gt0 g c =
    set_left g.T.DerSerialize.format c.requires.lawful c.args.nest (c.next_is_tag.ensures.0 c.if-next_is_tag.true) c.in_ok-items.ensures (omega (arith, c.left.ensures, c.if-left-gt0.true))

pub returns-then-left-gt0-2 : goal.returns-then-left-gt0-2
returns-then-left-gt0-2 g c =
    none_left g.T.DerSerialize.format c.requires.lawful c.args.nest (iff_false c.next_is_tag.ensures c.if-next_is_tag.false) c.args.r.now (omega (arith, c.left-2.ensures, c.if-left-gt0-2.true))
