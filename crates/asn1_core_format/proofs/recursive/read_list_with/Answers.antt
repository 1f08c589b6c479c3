use Rattle.std.proofs.Common.{map}
use Rattle.std.proofs.lemmas.Result.{err_from_is_err_and}
use Rattle.asn1_core_format.specs.Levels.{less_if}
use Rattle.asn1_core_format.specs.Lists.{each}
use Rattle.asn1_core_format.specs.Components.{within}
use Rattle.asn1_core_format.proofs.LevelReads.{has_refused}
use Rattle.asn1_core_format.proofs.ComponentReads.{within_refused, within_has_read}
use Rattle.asn1_core_format.proofs.recursive.read_list_with.Goals as goal

pub returns-in_err-items : goal.returns-in_err-items
returns-in_err-items g c =
    let r = within_refused (each (less_if g.L.ItemLevel.below g.T.DerSerialize.format)) c.args.nest c.args.tag c.in_ok-outer.ensures c.in_err-items.ensures in
    has_refused (λ v. map g.T.DerSerialize.value v.items) (within c.args.tag (each (less_if g.L.ItemLevel.below g.T.DerSerialize.format))) c.args.nest (err_from_is_err_and c.from_residual-in_err-items.result c.from_residual-in_err-items.ensures.1) r

pub returns : goal.returns
returns g c = within_has_read (each (less_if g.L.ItemLevel.below g.T.DerSerialize.format)) c.args.nest c.args.tag c.in_ok-outer.ensures c.in_ok-items.ensures c.close.ensures
