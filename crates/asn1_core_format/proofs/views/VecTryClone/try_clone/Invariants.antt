use Rattle.std.proofs.Common.{◌≡◌, take, map}
use Rattle.asn1_core_format.proofs.views.VecTryClone.try_clone.Given as goal

abbrev pub invariant-loop-item : goal.invariant-loop-item
invariant-loop-item g l = map g.T.Viewed.view l.items.items ≡ map g.T.Viewed.view (take l.item-index l.item-items)
