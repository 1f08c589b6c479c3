use Rattle.std.proofs.Common.{map, sym, ap, ◌∙◌, subst, rules, arith}
use Rattle.std.proofs.lemmas.List.{map_push, nil_from_length}
use Rattle.asn1_core_format.specs.Levels.{less_if}
use Rattle.asn1_core_format.specs.Lists.{HasReadItems}
use Rattle.asn1_core_format.proofs.Items.{has_read_more, has_read_shortens, has_refused_items, no_memory_items, has_read_all}
use Rattle.asn1_core_format.proofs.recursive.read_items.Goals as goal

pub returns-in_err-item : goal.returns-in_err-item
returns-in_err-item g c =
    let r = has_refused_items (less_if g.L.ItemLevel.below g.T.DerSerialize.format) c.requires.lawful c.args.nest (omega (arith, c.left.ensures)) c.items.invariant c.in_err-item.ensures in
    search rules

pub items-smaller : goal.items-smaller
items-smaller g c = has_read_shortens (less_if g.L.ItemLevel.below g.T.DerSerialize.format) c.requires.lawful c.args.nest c.in_ok-item.ensures

pub items-preserved : goal.items-preserved
items-preserved g c =
    let t = has_read_more (less_if g.L.ItemLevel.below g.T.DerSerialize.format) c.requires.lawful c.args.nest c.items.invariant c.in_ok-item.ensures in
    let e = ap (map g.T.DerSerialize.value) c.in_ok-push_item.ensures ∙ map_push g.T.DerSerialize.value c.items.items.items c.in_ok-item.item in
    subst (λ vs. HasReadItems (less_if g.L.ItemLevel.below g.T.DerSerialize.format) c.args.nest c.args.r.now c.read_item.new.r vs) (sym e) t

pub returns-in_err-push_item : goal.returns-in_err-push_item
returns-in_err-push_item g c =
    let t = has_read_more (less_if g.L.ItemLevel.below g.T.DerSerialize.format) c.requires.lawful c.args.nest c.items.invariant c.in_ok-item.ensures in
    let r = no_memory_items (less_if g.L.ItemLevel.below g.T.DerSerialize.format) c.requires.lawful c.args.nest t in
    search rules

pub returns : goal.returns
returns g c = has_read_all (less_if g.L.ItemLevel.below g.T.DerSerialize.format) c.requires.lawful c.args.nest c.items.invariant (nil_from_length _ (omega (arith, c.left.ensures)))
