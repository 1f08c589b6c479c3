use Rattle.std.specs.Prelude.{◌≡◌, ◌++◌, length, map}
use Rattle.std.specs.List.{AllByRecursion}
use Rattle.std.proofs.Common.{ap, rules, subst, sym}
use Rattle.asn1_core.specs.Der.{object_identifier, octet_string}
use Rattle.asn1_sets.proofs.InOrder.{written_back}
use Rattle.asn1_sets.proofs.NotEncoded.{by_right, not_first, not_second}
use Rattle.asn1_sets.specs.Order.{IsInOrder}
use Rattle.attribute_writers.specs.Attributes.{ATTRIBUTE, alone, attribute_text, is_formed}
use Rattle.pkcs7_attributes.specs.NamedAttributes.{content_type_oid, message_digest_oid, signing_time_oid}
use Rattle.signed_writers.proofs.OrderedAttributes.{has_texts, texts_are}
use Rattle.signed_writers.specs.GivenAttributes.{IsTypeOrNone, content_type_of, digest_of, further_of, given_attributes, time_of}
use Rattle.signed_writers.specs.WrittenAttributes.{AreTexts, HasNoAttributes}
use Rattle.x509_base.specs.Times.{time}
use Rattle.signed_writers.proofs.attributes.texts_of.Goals as goal

pub returns-in_err-push_content_type : goal.returns-in_err-push_content_type
returns-in_err-push_content_type c =
    let given = c.args.given.now in
    let a = alone content_type_oid object_identifier (content_type_of given) in
    let b = alone message_digest_oid octet_string (digest_of given) in
    let d = alone signing_time_oid time.format (time_of given.signing_time) in
    let more = further_of given in
    let Formed = AllByRecursion is_formed more in
    let r : HasNoAttributes given _ = not_first ATTRIBUTE.format (IsTypeOrNone (content_type_of given)) Formed a (b ++ (d ++ more)) _ c.in_err-push_content_type.ensures in
    search rules

pub returns-in_err-push_digest : goal.returns-in_err-push_digest
returns-in_err-push_digest c =
    let given = c.args.given.now in
    let a = alone content_type_oid object_identifier (content_type_of given) in
    let b = alone message_digest_oid octet_string (digest_of given) in
    let d = alone signing_time_oid time.format (time_of given.signing_time) in
    let more = further_of given in
    let Formed = AllByRecursion is_formed more in
    let first = not_first ATTRIBUTE.format (Unit {0}) Formed b (d ++ more) _ c.in_err-push_digest.ensures in
    let r : HasNoAttributes given _ = by_right ATTRIBUTE.format _ _ _ _ (λ q. (q.0, (tt, q.1))) (not_second ATTRIBUTE.format (IsTypeOrNone (content_type_of given)) (Unit {0} × Formed) a (b ++ (d ++ more)) _ first) in
    search rules

pub returns-in_err-push_time : goal.returns-in_err-push_time
returns-in_err-push_time c =
    let given = c.args.given.now in
    let a = alone content_type_oid object_identifier (content_type_of given) in
    let b = alone message_digest_oid octet_string (digest_of given) in
    let d = alone signing_time_oid time.format (time_of given.signing_time) in
    let more = further_of given in
    let Formed = AllByRecursion is_formed more in
    let first = not_first ATTRIBUTE.format (Unit {0}) Formed d more _ c.in_err-push_time.ensures in
    let second = not_second ATTRIBUTE.format (Unit {0}) (Unit {0} × Formed) b (d ++ more) _ first in
    let r : HasNoAttributes given _ = by_right ATTRIBUTE.format _ _ _ _ (λ q. (q.0, (tt, (tt, q.1)))) (not_second ATTRIBUTE.format (IsTypeOrNone (content_type_of given)) (Unit {0} × (Unit {0} × Formed)) a (b ++ (d ++ more)) _ second) in
    search rules

pub returns-in_err-push_further : goal.returns-in_err-push_further
returns-in_err-push_further c =
    let given = c.args.given.now in
    let a = alone content_type_oid object_identifier (content_type_of given) in
    let b = alone message_digest_oid octet_string (digest_of given) in
    let d = alone signing_time_oid time.format (time_of given.signing_time) in
    let more = further_of given in
    let Formed = AllByRecursion is_formed more in
    let first = not_second ATTRIBUTE.format (Unit {0}) Formed d more _ c.in_err-push_further.ensures in
    let second = not_second ATTRIBUTE.format (Unit {0}) (Unit {0} × Formed) b (d ++ more) _ first in
    let r : HasNoAttributes given _ = by_right ATTRIBUTE.format _ _ _ _ (λ q. (q.0, (tt, (tt, q.1)))) (not_second ATTRIBUTE.format (IsTypeOrNone (content_type_of given)) (Unit {0} × (Unit {0} × Formed)) a (b ++ (d ++ more)) _ second) in
    search rules

pub returns : goal.returns
returns c =
    let given = c.args.given.now in
    let a = alone content_type_oid object_identifier (content_type_of given) in
    let b = alone message_digest_oid octet_string (digest_of given) in
    let d = alone signing_time_oid time.format (time_of given.signing_time) in
    let first = c.in_ok-push_content_type.ensures in
    let second = c.in_ok-push_digest.ensures in
    let third = c.in_ok-push_time.ensures in
    let last = c.in_ok-push_further.ensures in
    let all : map (λ x. x.0.items) c.push_further.new.texts.items ≡ map attribute_text (given_attributes given) =
    texts_are _ _ _ _ _ a b d (further_of given) (ap (map (λ x. x.0.items)) c.new-texts.ensures.items) first.1 second.1 third.1 last.1 in
    let n : c.push_further.new.texts.len ≡ length c.push_further.new.texts.items = search rules in
    let o = subst (λ l. IsInOrder (map (λ x. x.0.items) l) (map (λ x. x.0.items) c.put_in_order.new.elements)) c.as_mut_slice.ensures.value c.put_in_order.ensures in
    let back = written_back (λ x. x.0.items) _ c.push_further.new.texts.items c.put_in_order.new.elements _ n o in
    subst (λ l. AreTexts given (map (λ x. x.0.items) l)) (sym back) (has_texts given _ (first.0, last.0) (subst (λ t. IsInOrder t (map (λ x. x.0.items) c.put_in_order.new.elements)) all o))
