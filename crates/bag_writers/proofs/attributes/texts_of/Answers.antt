use Rattle.std.specs.Prelude.{◌≡◌, ◌++◌, length, map}
use Rattle.std.specs.List.{AllByRecursion}
use Rattle.std.proofs.Common.{ap, rules, subst, sym}
use Rattle.asn1_sets.proofs.InOrder.{written_back}
use Rattle.asn1_sets.proofs.NotEncoded.{by_right, not_first, not_second}
use Rattle.asn1_sets.specs.Order.{IsInOrder}
use Rattle.attribute_writers.specs.Attributes.{ATTRIBUTE, attribute_text, is_formed}
use Rattle.bag_writers.proofs.Ordered.{has_texts, texts_are}
use Rattle.bag_writers.specs.GivenAttributes.{IsName, key_ids, names, further}
use Rattle.bag_writers.specs.Written.{HasNoAttributes, HasTexts, given_attributes, key_id_of, name_of}
use Rattle.bag_writers.proofs.attributes.texts_of.Goals as goal

pub returns-in_err-push_key_id : goal.returns-in_err-push_key_id
returns-in_err-push_key_id c =
    let bag = c.args.bag.now in
    let more = further bag.attributes.now in
    let Formed = AllByRecursion is_formed more in
    let first = not_first ATTRIBUTE.format (Unit {0}) Formed (key_ids (key_id_of bag)) more _ c.in_err-push_key_id.ensures in
    let r : HasNoAttributes bag _ = by_right ATTRIBUTE.format _ _ _ _ (λ q. (q.0, (tt, q.1))) (not_second ATTRIBUTE.format (IsName (name_of bag)) (Unit {0} × Formed) (names (name_of bag)) (key_ids (key_id_of bag) ++ more) _ first) in
    search rules

pub returns-in_err-push_further : goal.returns-in_err-push_further
returns-in_err-push_further c =
    let bag = c.args.bag.now in
    let more = further bag.attributes.now in
    let Formed = AllByRecursion is_formed more in
    let e = c.in_err-push_further.field-0.0 in
    let second = not_second ATTRIBUTE.format (Unit {0}) Formed (key_ids (key_id_of bag)) more e c.in_err-push_further.ensures in
    let r : HasNoAttributes bag e = by_right ATTRIBUTE.format _ _ _ _ (λ q. (q.0, (tt, q.1))) (not_second ATTRIBUTE.format (IsName (name_of bag)) (Unit {0} × Formed) (names (name_of bag)) (key_ids (key_id_of bag) ++ more) e second) in
    search rules

pub returns : goal.returns
returns c =
    let bag = c.args.bag.now in
    let name = c.in_ok-push_name.ensures in
    let id = c.in_ok-push_key_id.ensures in
    let more = c.in_ok-push_further.ensures in
    let all : map (λ x. x.0.items) c.push_further.new.texts.items ≡ map attribute_text (given_attributes bag) =
    texts_are _ _ _ _ (names (name_of bag)) (key_ids (key_id_of bag)) (further bag.attributes.now) (ap (map (λ x. x.0.items)) c.new-texts.ensures.items) name.1 id.1 more.1 in
    let n : c.push_further.new.texts.len ≡ length c.push_further.new.texts.items = search rules in
    let o = subst (λ l. IsInOrder (map (λ x. x.0.items) l) (map (λ x. x.0.items) c.put_in_order.new.elements)) c.as_mut_slice.ensures.value c.put_in_order.ensures in
    let back = written_back (λ x. x.0.items) _ c.push_further.new.texts.items c.put_in_order.new.elements _ n o in
    subst (λ l. HasTexts bag (map (λ x. x.0.items) l)) (sym back) (has_texts bag _ (name.0, more.0) (subst (λ t. IsInOrder t (map (λ x. x.0.items) c.put_in_order.new.elements)) all o))
