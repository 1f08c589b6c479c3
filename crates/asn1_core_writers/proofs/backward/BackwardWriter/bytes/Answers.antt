use Rattle.std.proofs.Common.{arith, ◌∙◌, sym, length, ◌-◌}
use Rattle.std.proofs.lemmas.List.{with_items_is}
use borrow.Rule.Slice.PartMut.{put_mid}
use Rattle.asn1_core_writers.proofs.Filled.{filled, placed_length}
use Rattle.asn1_core_writers.proofs.backward.BackwardWriter.bytes.Goals as goal

pub returns : goal.returns
returns c =
    let a = c.self.inside.at in
    let n = length c.args.bytes.now in
    let h = c.if-size-self.false in
    let e = placed_length c.self.inside.out.items c.copy_from_slice.new.self c.args.bytes.now a c.self.invariant (omega (arith, h)) c.copy_from_slice.ensures.after in
    rw (c.deref_mut.ensures.value, with_items_is c.self.inside.out (put_mid (a - n) (a - (a - n)) c.self.inside.out.items c.copy_from_slice.new.self) (e ∙ sym c.self.inside.out.ok.0))
    (filled c.self.inside.out.items c.copy_from_slice.new.self c.args.bytes.now a c.self.inside.out.cap c.args.self.now c.self.view_is c.self.invariant (omega (arith, h)) c.copy_from_slice.ensures.after)
