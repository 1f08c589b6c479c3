use Rattle.std.proofs.Common.{map, arith}
use Rattle.std.proofs.lemmas.Result.{err_from_is_err_and}
use Rattle.asn1_core_format.specs.Levels.{less_if}
use Rattle.asn1_core_format.specs.Sequences.{set_of}
use Rattle.asn1_core_format.specs.laws.Sequences.{lawful_set}
use Rattle.asn1_core_format.proofs.LevelReads.{has_refused_components, alone_has_read}
use Rattle.asn1_core_format.proofs.ComponentReads.{alone_refused, alone_left}
use Rattle.asn1_core_format.proofs.sets.read_set_with.Goals as goal

pub returns-in_err-items : goal.returns-in_err-items
returns-in_err-items g c =
    has_refused_components (λ v. map g.T.DerSerialize.value v.items) (set_of (less_if g.L.ItemLevel.below g.T.DerSerialize.format)) c.args.nest (err_from_is_err_and c.from_residual.result c.from_residual.ensures.1)
    (alone_refused (set_of (less_if g.L.ItemLevel.below g.T.DerSerialize.format)) c.args.nest c.in_err-items.ensures)

pub returns-then-left-gt0 : goal.returns-then-left-gt0
returns-then-left-gt0 g c =
    alone_left (set_of (less_if g.L.ItemLevel.below g.T.DerSerialize.format)) c.args.nest (lawful_set (less_if g.L.ItemLevel.below g.T.DerSerialize.format) c.requires.lawful) c.in_ok-items.ensures (omega (arith, c.left.ensures, c.if-left-gt0.true))

pub returns : goal.returns
returns g c = alone_has_read (set_of (less_if g.L.ItemLevel.below g.T.DerSerialize.format)) c.args.nest c.in_ok-items.ensures (omega (arith, c.left.ensures))
