use Rattle.std.proofs.Common.{lit<, inr}
use Rattle.std.proofs.lemmas.Iterator.Splits.{YieldsList-from_str_split}
use Rattle.std.proofs.lemmas.Iterator.Consumers.{YieldsList-turn, YieldsList-end}
use Rattle.std.proofs.lemmas.List.{length_push}
use Rattle.std.proofs.lemmas.Result.{err_from_is_err_and}
use Rattle.asn1_core_oid.specs.laws.OidTextLaws.{pieces}
use Rattle.asn1_core_oid.proofs.Arcs.{piece_more, fit_more, arcs_all, not_spelled}
use Rattle.asn1_core_oid.proofs.text.read_arcs.Goals as goal

pub returns-in_err-ok_or : goal.returns-in_err-ok_or
returns-in_err-ok_or c =
    let text = c.args.text.now in
    let t = YieldsList-turn (YieldsList-from_str_split 46 text (lit< tt) (cc) (cc) (cc)) c.loop-numeral.yielded _ c.loop-numeral.yielded_by _ _ c.in-Some.numeral c.in-Some.is c.next.ensures.steps in
    let none = rw c.in_err-ok_or.ensures.ok_part at c.read_arc.ensures in
    let e = rw c.in_err-ok_or.ensures.ok_part at c.in_err-ok_or.ensures.value in
    let p = err_from_is_err_and c.from_residual.result c.from_residual.ensures.1 in
    rw (p.1, p.2) (inr (cc, not_spelled text c.in-Some.numeral.now _ t none))

pub loop-numeral-preserved : goal.loop-numeral-preserved
loop-numeral-preserved c =
    let text = c.args.text.now in
    let t = YieldsList-turn (YieldsList-from_str_split 46 text (lit< tt) (cc) (cc) (cc)) c.loop-numeral.yielded _ c.loop-numeral.yielded_by _ _ c.in-Some.numeral c.in-Some.is c.next.ensures.steps in
    let some = rw c.in_ok-ok_or.ensures.ok_part at c.read_arc.ensures in
    record {
      read = rw (length_push c.loop-numeral.yielded c.in-Some.numeral) (piece_more (pieces text) c.loop-numeral.arcs.items _ c.in-Some.numeral.now _ _ t c.loop-numeral.invariant.read some.1 c.in_ok-push.ensures.items);
      fit = fit_more c.loop-numeral.arcs.items _ _ c.loop-numeral.invariant.fit some.0 c.in_ok-push.ensures.items;
    }

pub returns : goal.returns
returns c =
    let text = c.args.text.now in
    let t = YieldsList-end (YieldsList-from_str_split 46 text (lit< tt) (cc) (cc) (cc)) c.loop-numeral.yielded _ c.loop-numeral.yielded_by _ _ c.in-None.is c.next.ensures.steps in
    arcs_all text c.loop-numeral.arcs.items _ c.loop-numeral.invariant.read t.1 c.loop-numeral.invariant.fit
