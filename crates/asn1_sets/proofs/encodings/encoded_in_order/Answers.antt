use Rattle.std.specs.Prelude.{◌≡◌, length, map, take}
use Rattle.std.specs.List.{AllByRecursion}
use Rattle.std.proofs.Common.{arith, rules, subst, sym}
use Rattle.std.proofs.lemmas.List.{take_all}
use Rattle.asn1_sets.proofs.InOrder.{are_encodings, written_back}
use Rattle.asn1_sets.proofs.NotEncoded.{contains_item, not_all}
use Rattle.asn1_sets.specs.Encodings.{AreEncodings}
use Rattle.asn1_sets.specs.Order.{IsInOrder}
use Rattle.asn1_sets.proofs.encodings.encoded_in_order.Goals as goal

pub returns-in_err-encoded : goal.returns-in_err-encoded
returns-in_err-encoded g c =
    let F = g.T.DerSerialize.format in
    let value = g.T.DerSerialize.value in
    let r = not_all F (map value c.args.values.now) _ _ (contains_item value c.args.values.now c.loop-value.value-index c.value-item.result c.loop-value-test.true c.value-item.is) c.in_err-encoded.ensures in
    search rules

pub returns : goal.returns
returns g c =
    let F = g.T.DerSerialize.format in
    let value = g.T.DerSerialize.value in
    let values = c.args.values.now in
    let end : take c.loop-value.value-index values ≡ values = take_all c.loop-value.value-index values (omega (arith, c.loop-value-test.false)) in
    let n : c.loop-value.texts.len ≡ length c.loop-value.texts.items = search rules in
    let all = subst (λ l. map (λ x. x.0.items) c.loop-value.texts.items ≡ map F.text (map value l)) end c.loop-value.invariant.0 in
    let formed = subst (λ l. AllByRecursion (F.IsWellFormed 64) (map value l)) end c.loop-value.invariant.1 in
    let o = subst (λ l. IsInOrder (map (λ x. x.0.items) l) (map (λ x. x.0.items) c.put_in_order.new.elements)) c.as_mut_slice.ensures.value c.put_in_order.ensures in
    let back = written_back (λ x. x.0.items) _ c.loop-value.texts.items c.put_in_order.new.elements _ n o in
    subst (λ l. AreEncodings F (map value values) (map (λ x. x.0.items) l)) (sym back) (are_encodings F (map value values) _ formed (subst (λ t. IsInOrder t (map (λ x. x.0.items) c.put_in_order.new.elements)) all o))
