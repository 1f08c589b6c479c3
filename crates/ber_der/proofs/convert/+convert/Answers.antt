use Rattle.std.proofs.Common.{◌≡◌, ◌-◌, ◌++◌, [], length, drop, take, ◌∙◌, ◌≢◌, refl, sym, subst, inl, inr, rules, arith}
use Rattle.std.proofs.lemmas.List.{nil_from_length}
use Rattle.ber_der.specs.Ber.{IsBerWith, der_of, Converted, BeginsNone, HoldsNone, EndsNone}
use Rattle.asn1_core_element.specs.declared.error.Error.TheVariants.{Memory}
use Rattle.ber_der.proofs.Steps.{none_body, body_added, body_converted, refused_all, refused_to_end, no_end, none_empty, none_tag, none_length, none_primitive_indefinite, none_primitive_role, none_not_primitive, none_deep, none_constructed_role, none_holder, SoFar, none_yet, one_more, all_converted, converted_to_end, shortens, two_zeros, primitive_converted}
use Rattle.ber_der.proofs.convert.+convert.Goals as goal
use Rattle.ber_der.proofs.convert.+convert.Goals.{convert-then-not-may_be_primitive-via-then-not-may_be_primitive, convert-then-not-may_be_primitive-via-else-not-may_be_primitive+then-not-allows, convert-then-not-may_be_constructed-via-then-not-may_be_constructed, convert-then-not-may_be_constructed-via-else-not-may_be_constructed+then-not-allows-2, convert_to_end-else-tag-eq0-via-then-tag-eq0+else-more-eq0, convert_to_end-else-tag-eq0-via-else-tag-eq0, convert-then-tag-eq0-via-then-tag-eq0, convert-then-tag-eq0-via-else-tag-eq0+then-tag-eq31}

pub convert_contents-parts-init : goal.convert_contents-parts-init
convert_contents-parts-init t c = none_yet c.args.rule.joins (IsBerWith c.args.rule.joins c.args.nest) c.args.start c.args.contents.now c.args.out.now.items

pub convert_contents-parts-smaller : goal.convert_contents-parts-smaller
convert_contents-parts-smaller t c = shortens c.args.rule.joins c.args.nest c.role.result c.parts.rest.now c.in_ok-rest.rest.now c.parts.out.items c.convert.new.out.items c.in_ok-rest.ensures

pub convert_contents-parts-preserved : goal.convert_contents-parts-preserved
convert_contents-parts-preserved t c =
    let h = subst (λ role. Converted (IsBerWith c.args.rule.joins c.args.nest role) c.parts.rest.now c.in_ok-rest.rest.now c.parts.out.items c.convert.new.out.items) c.role.ensures c.in_ok-rest.ensures in
    subst (λ p. SoFar (IsBerWith c.args.rule.joins c.args.nest) c.args.start p c.args.contents.now c.in_ok-rest.rest.now c.args.out.now.items c.convert.new.out.items) (sym c.after-context.ensures) (one_more c.args.rule.joins c.args.nest c.args.start c.parts.context c.args.contents.now c.parts.rest.now c.args.out.now.items c.parts.out.items c.parts.invariant c.in_ok-rest.rest.now c.convert.new.out.items _ refl h)

pub convert_contents-returns : goal.convert_contents-returns
convert_contents-returns t c = all_converted c.args.rule.joins c.args.nest c.args.start c.parts.context c.args.contents.now c.parts.rest.now c.args.out.now.items c.parts.out.items c.parts.invariant (nil_from_length _ (omega (arith, c.in_default.len_below)))

pub convert-returns-in-Ok : goal.convert-returns-in-Ok
convert-returns-in-Ok t c =
    primitive_converted c.args.rule.joins c.args.bytes.now c.in-Some.after.now c.split_at.result.0.now c.split_at.result.1.now c.in-Some.len c.in-Some-len.len c.in-len1-up.len_at_least c.in-Some.ensures c.in-Some-len.is c.split_at.ensures.front c.split_at.ensures.back
    c.args.nest c.args.role c.args.out.now.items c.push_kept.new.out.items c.if-tag-eq0.false c.if-tag-eq31.false c.if-tag-eq0-2.true (sym c.may_be_primitive.ensures ∙ c.if-not-may_be_primitive.false) (c.allows.ensures.0 c.if-not-allows.false) c.in-Ok.ensures

pub convert_to_end-parts-init : goal.convert_to_end-parts-init
convert_to_end-parts-init t c = none_yet c.args.rule.joins (IsBerWith c.args.rule.joins c.args.nest) c.args.start c.args.bytes.now c.args.out.now.items

pub convert_to_end-returns-then-more-eq0 : goal.convert_to_end-returns-then-more-eq0
convert_to_end-returns-then-more-eq0 t c = converted_to_end c.args.rule.joins c.args.nest c.args.start c.parts.context c.args.bytes.now c.parts.rest.now c.args.out.now.items c.parts.out.items c.parts.invariant _ (two_zeros c.parts.rest.now c.in-len2-up.len_at_least c.if-tag-eq0.true c.if-more-eq0.true)

pub convert_to_end-parts-smaller : goal.convert_to_end-parts-smaller
convert_to_end-parts-smaller t c = shortens c.args.rule.joins c.args.nest c.role.result c.parts.rest.now c.in_ok-rest.rest.now c.parts.out.items c.convert.new.out.items c.in_ok-rest.ensures

pub convert_to_end-parts-preserved : goal.convert_to_end-parts-preserved
convert_to_end-parts-preserved t c =
    let h = subst (λ role. Converted (IsBerWith c.args.rule.joins c.args.nest role) c.parts.rest.now c.in_ok-rest.rest.now c.parts.out.items c.convert.new.out.items) c.role.ensures c.in_ok-rest.ensures in
    subst (λ p. SoFar (IsBerWith c.args.rule.joins c.args.nest) c.args.start p c.args.bytes.now c.in_ok-rest.rest.now c.args.out.now.items c.convert.new.out.items) (sym c.after-context.ensures) (one_more c.args.rule.joins c.args.nest c.args.start c.parts.context c.args.bytes.now c.parts.rest.now c.args.out.now.items c.parts.out.items c.parts.invariant c.in_ok-rest.rest.now c.convert.new.out.items _ refl h)

pub convert_contents-returns-in_err-rest : goal.convert_contents-returns-in_err-rest
convert_contents-returns-in_err-rest t c =
    let r : c.in_err-rest.field-0.0.0 ≢ Memory → HoldsNone (IsBerWith c.args.rule.joins c.args.nest) c.args.start c.args.contents.now = λ m. refused_all c.args.rule.joins c.args.nest c.args.start c.parts.context c.args.contents.now c.parts.rest.now c.args.out.now.items c.parts.out.items c.parts.invariant (subst (λ role. BeginsNone (IsBerWith c.args.rule.joins c.args.nest role) c.parts.rest.now) c.role.ensures (c.in_err-rest.ensures m)) c.in-len1-up.len_at_least in
    search rules

pub convert_to_end-returns-in_err-rest : goal.convert_to_end-returns-in_err-rest
convert_to_end-returns-in_err-rest t c =
    let r : c.in_err-rest.field-0.0.0 ≢ Memory → EndsNone (IsBerWith c.args.rule.joins c.args.nest) c.args.start c.args.bytes.now = λ m. refused_to_end c.args.rule.joins c.args.nest c.args.start c.parts.context c.args.bytes.now c.parts.rest.now c.args.out.now.items c.parts.out.items c.parts.invariant (subst (λ role. BeginsNone (IsBerWith c.args.rule.joins c.args.nest role) c.parts.rest.now) c.role.ensures (c.in_err-rest.ensures m)) (λ z. elim c.else-tag-eq0.branch [
      | convert_to_end-else-tag-eq0-via-then-tag-eq0+else-more-eq0 w ↦ w.if-more-eq0.false z.1
      | convert_to_end-else-tag-eq0-via-else-tag-eq0 w ↦ w.if-tag-eq0.false z.0
    ]) in
    search rules

pub convert_to_end-returns : goal.convert_to_end-returns
convert_to_end-returns t c m = no_end c.args.rule.joins c.args.nest c.args.start c.parts.context c.args.bytes.now c.parts.rest.now c.args.out.now.items c.parts.out.items c.parts.invariant c.in_default.len_below

pub convert-returns-in_default : goal.convert-returns-in_default
convert-returns-in_default t c m = none_empty c.args.rule.joins c.args.nest c.args.role c.args.bytes.now c.in_default.len_below

pub convert-returns-then-tag-eq0 : goal.convert-returns-then-tag-eq0
convert-returns-then-tag-eq0 t c m =
    none_tag c.args.rule.joins c.args.nest c.args.role c.args.bytes.now (elim c.then-tag-eq0.branch [
      | convert-then-tag-eq0-via-then-tag-eq0 w ↦ inl w.if-tag-eq0.true
      | convert-then-tag-eq0-via-else-tag-eq0+then-tag-eq31 w ↦ inr w.if-tag-eq31.true
    ])

pub convert-returns-in_default-length : goal.convert-returns-in_default-length
convert-returns-in_default-length t c m = none_length c.args.rule.joins c.args.nest c.args.role c.args.bytes.now c.in_default-length.ensures

pub convert-returns-in_default-len : goal.convert-returns-in_default-len
convert-returns-in_default-len t c m = none_primitive_indefinite c.args.rule.joins c.args.nest c.args.role c.args.bytes.now c.in-Some.len c.in-Some.after.now c.if-tag-eq0-2.true c.in-Some.ensures c.in_default-len.is

pub convert-returns-then-not-may_be_primitive : goal.convert-returns-then-not-may_be_primitive
convert-returns-then-not-may_be_primitive t c m = elim c.then-not-may_be_primitive.branch [
  | convert-then-not-may_be_primitive-via-then-not-may_be_primitive w ↦ none_not_primitive c.args.rule.joins c.args.nest c.args.role c.args.bytes.now c.in-Some.after.now c.in-Some.len c.in-Some-len.len c.if-tag-eq0-2.true c.in-Some.ensures c.in-Some-len.is (λ e. let f = c.may_be_primitive.ensures ∙ e in search rules)
  | convert-then-not-may_be_primitive-via-else-not-may_be_primitive+then-not-allows w ↦ none_primitive_role c.args.rule.joins c.args.nest c.args.role c.args.bytes.now c.if-tag-eq0-2.true (λ a. let h = w.allows.ensures.1 a in search rules)
]

pub convert-returns-then-nest-eq0 : goal.convert-returns-then-nest-eq0
convert-returns-then-nest-eq0 t c m = none_deep c.args.rule.joins c.args.nest c.args.role c.args.bytes.now c.if-nest-eq0.true c.if-tag-eq0-2.false

pub convert_body-returns-in_default : goal.convert_body-returns-in_default
convert_body-returns-in_default t c = rw (c.in_default.is) c.convert_to_end.ensures

pub convert-returns-then-not-may_be_constructed : goal.convert-returns-then-not-may_be_constructed
convert-returns-then-not-may_be_constructed t c m = elim c.then-not-may_be_constructed.branch [
  | convert-then-not-may_be_constructed-via-then-not-may_be_constructed w ↦ none_holder c.args.rule.joins c.args.nest c.args.role c.args.bytes.now c.if-tag-eq0-2.false (λ e. let f = c.may_be_constructed.ensures ∙ e in search rules)
  | convert-then-not-may_be_constructed-via-else-not-may_be_constructed+then-not-allows-2 w ↦ none_constructed_role c.args.rule.joins c.args.nest c.args.role c.args.bytes.now c.if-tag-eq0-2.false (λ a. let h = w.allows-else-not-may_be_constructed.ensures.1 a in search rules)
]

pub convert-returns-in_err-rest : goal.convert-returns-in_err-rest
convert-returns-in_err-rest t c =
    let r : c.in_err-rest.field-0.0.0 ≢ Memory → BeginsNone (IsBerWith c.args.rule.joins c.args.nest c.args.role) c.args.bytes.now = λ m. none_body c.args.rule.joins c.args.nest c.args.role c.args.bytes.now c.in-Some.after.now c.in-Some.len c.inside-start.result c.if-tag-eq0-2.false c.in-Some.ensures c.inside-start.ensures (c.in_err-rest.ensures m) in
    search rules

pub convert-returns-in-Ok-keep_last : goal.convert-returns-in-Ok-keep_last
convert-returns-in-Ok-keep_last t c =
    let size : c.len-before.result ≡ length c.args.out.now.items = search rules in
    let p = body_added (IsBerWith c.args.rule.joins (c.args.nest - 1)) c.inside-start.result c.in-Some.after.now c.in_ok-rest.rest.now c.in-Some.len c.args.out.now.items c.convert_body.new.out.items c.in_ok-rest.ensures in
    body_converted c.args.rule.joins c.args.bytes.now c.in-Some.after.now c.in_ok-rest.rest.now c.in-Some.len c.args.nest c.args.role c.args.out.now.items c.keep_last.new.out.items c.in-len1-up.len_at_least c.in-Some.ensures c.if-tag-eq0.false c.if-tag-eq31.false
    c.inside-start.result c.der_tag.result [] (drop (length c.args.out.now.items) c.convert_body.new.out.items) c.if-nest-eq0.false c.if-tag-eq0-2.false (sym c.may_be_constructed.ensures ∙ c.if-not-may_be_constructed.false) (c.allows-else-not-may_be_constructed.ensures.0 c.if-not-allows-2.false) c.inside-start.ensures c.der_tag.ensures refl p.1
    (subst (λ x. c.keep_last.new.out.items ≡ x ++ der_of c.args.role c.der_tag.result (drop (length c.args.out.now.items) c.convert_body.new.out.items)) p.0 (subst (λ n. c.keep_last.new.out.items ≡ take n c.convert_body.new.out.items ++ der_of c.args.role c.der_tag.result (drop n c.convert_body.new.out.items)) size c.in-Ok-keep_last.ensures))
