use Rattle.std.proofs.Common.{◌∙◌, sym, rules, arith}
use Rattle.std.proofs.lemmas.List.{take_rest}
use Rattle.std.proofs.lemmas.Bool.Decides.{nat_tests}
use Rattle.ber_der.proofs.DerTests.{no_front, no_tag, primitive, not_primitive, constructed, too_deep, not_constructed, not_held, inside_after, nothing_inside, shorter}
use Rattle.ber_der.proofs.canonical.+after_element.Goals as goal
use Rattle.ber_der.proofs.canonical.+after_element.Goals.{after_element-then-tag-eq36-via-then-tag-eq36, after_element-then-tag-eq36-via-else-tag-eq36+then-not-may_be_constructed}

pub after_element-returns-in_default : goal.after_element-returns-in_default
after_element-returns-in_default t c = no_front c.args.nest c.args.bytes.now c.in_default.ensures.none

pub after_element-returns-then-tag-eq0 : goal.after_element-returns-then-tag-eq0
after_element-returns-then-tag-eq0 t c = no_tag c.args.nest c.args.bytes.now _ c.split_at.result.0.now c.split_at.result.1.now c.in-Some.tag c.in-Some.len c.in-Some.size c.in-Some.ensures.found (take_rest c.args.bytes.now c.in-Some.size) c.split_at.ensures.front c.split_at.ensures.back c.if-tag-eq0.true

pub after_element-returns-then-not-may_be_primitive : goal.after_element-returns-then-not-may_be_primitive
after_element-returns-then-not-may_be_primitive t c = not_primitive c.args.nest c.args.bytes.now _ c.split_at.result.0.now c.split_at.result.1.now c.in-Some.tag c.in-Some.len c.in-Some.size c.in-Some.ensures.found (take_rest c.args.bytes.now c.in-Some.size) c.split_at.ensures.front c.split_at.ensures.back c.if-tag-eq0-2.true (λ e. let f = c.may_be_primitive.ensures ∙ e in search rules)

pub after_element-returns-then-tag-eq0-2 : goal.after_element-returns-then-tag-eq0-2
after_element-returns-then-tag-eq0-2 t c = primitive c.args.nest c.args.bytes.now _ c.split_at.result.0.now c.split_at.result.1.now c.in-Some.tag c.in-Some.len c.in-Some.size c.in-Some.ensures.found (take_rest c.args.bytes.now c.in-Some.size) c.split_at.ensures.front c.split_at.ensures.back c.if-tag-eq0.false c.if-tag-eq0-2.true (sym c.may_be_primitive.ensures ∙ c.if-not-may_be_primitive.false)

pub after_element-returns-then-nest-eq0 : goal.after_element-returns-then-nest-eq0
after_element-returns-then-nest-eq0 t c = too_deep c.args.nest c.args.bytes.now _ c.split_at.result.0.now c.split_at.result.1.now c.in-Some.tag c.in-Some.len c.in-Some.size c.in-Some.ensures.found (take_rest c.args.bytes.now c.in-Some.size) c.split_at.ensures.front c.split_at.ensures.back c.if-tag-eq0-2.false c.if-nest-eq0.true

pub after_element-returns-then-tag-eq36 : goal.after_element-returns-then-tag-eq36
after_element-returns-then-tag-eq36 t c = not_constructed c.args.nest c.args.bytes.now _ c.split_at.result.0.now c.split_at.result.1.now c.in-Some.tag c.in-Some.len c.in-Some.size c.in-Some.ensures.found (take_rest c.args.bytes.now c.in-Some.size) c.split_at.ensures.front c.split_at.ensures.back c.if-tag-eq0-2.false (λ h. elim c.then-tag-eq36.branch [
  | after_element-then-tag-eq36-via-then-tag-eq36 w ↦ h.1 w.if-tag-eq36.true
  | after_element-then-tag-eq36-via-else-tag-eq36+then-not-may_be_constructed w ↦ (let f = w.may_be_constructed.ensures ∙ h.0 in search rules)
])

pub after_element-returns-then-not-are_elements : goal.after_element-returns-then-not-are_elements
after_element-returns-then-not-are_elements t c = not_held c.args.nest c.args.bytes.now _ c.split_at.result.0.now c.split_at.result.1.now c.in-Some.tag c.in-Some.len c.in-Some.size c.in-Some.ensures.found (take_rest c.args.bytes.now c.in-Some.size) c.split_at.ensures.front c.split_at.ensures.back c.if-tag-eq0-2.false (λ h. let f = c.are_elements.ensures.1 h in search rules)

pub after_element-returns : goal.after_element-returns
after_element-returns t c = constructed c.args.nest c.args.bytes.now _ c.split_at.result.0.now c.split_at.result.1.now c.in-Some.tag c.in-Some.len c.in-Some.size c.in-Some.ensures.found (take_rest c.args.bytes.now c.in-Some.size) c.split_at.ensures.front c.split_at.ensures.back c.if-tag-eq0.false c.if-tag-eq0-2.false c.if-nest-eq0.false c.if-tag-eq36.false (sym c.may_be_constructed.ensures ∙ c.if-not-may_be_constructed.false) (c.are_elements.ensures.0 c.if-not-are_elements.false)

pub are_elements-returns-in_default : goal.are_elements-returns-in_default
are_elements-returns-in_default t c =
    let n = nothing_inside c.args.nest c.loop-rest.rest.now (grind (arith, nat_tests)) c.in_default.ensures in
    (λ f. cc, λ h. absurd (n (c.loop-rest.invariant.0 h)))

pub are_elements-loop-rest-smaller : goal.are_elements-loop-rest-smaller
are_elements-loop-rest-smaller t c = shorter c.args.nest c.loop-rest.rest.now c.in-Some.after.now c.in-Some.ensures

pub are_elements-loop-rest-preserved : goal.are_elements-loop-rest-preserved
are_elements-loop-rest-preserved t c =
    let s = inside_after c.args.nest c.loop-rest.rest.now c.in-Some.after.now c.in-Some.ensures in
    (λ h. s.0 (c.loop-rest.invariant.0 h), λ h. c.loop-rest.invariant.1 (s.1 h))
