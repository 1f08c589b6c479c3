use Rattle.std.proofs.Common.{ℕ, List, sym, refl, inr, subst}
use Rattle.std.proofs.lemmas.Result.{err_from_is_err_and}
use Rattle.asn1_core_oid.specs.OidText.{SpellsArcs}
use Rattle.asn1_core_oid.proofs.Arcs.{refused_text, few_arcs, refused_pair, written_text, oid_from_text, refusal_weaker}
use Rattle.asn1_core_oid.proofs.oid.ObjectIdentifier.from_text.Goals as goal

pub returns-in_err-arcs : goal.returns-in_err-arcs
returns-in_err-arcs c =
    let p = err_from_is_err_and c.from_residual.result c.from_residual.ensures.1 in
    rw (p.1, p.2) (refusal_weaker refused_text c.in_err-arcs.ensures)

pub returns-in_default : goal.returns-in_default
returns-in_default c =
    let P : List ℕ → Type 0 = λ l. SpellsArcs c.args.text.now l in
    let s = subst P (sym c.as_slice.ensures.value) c.in_ok-arcs.ensures in
    inr (refl, few_arcs c.as_slice.result.now s c.in_default.len_below)

pub returns-in_err-group : goal.returns-in_err-group
returns-in_err-group c =
    let P : List ℕ → Type 0 = λ l. SpellsArcs c.args.text.now l in
    let s = subst P (sym c.as_slice.ensures.value) c.in_ok-arcs.ensures in
    let p = err_from_is_err_and c.from_residual-in_err-group.result c.from_residual-in_err-group.ensures.1 in
    let n = rw c.in_err-group.ensures.ok_part at c.first_group.ensures in
    let e = rw c.in_err-group.ensures.ok_part at c.in_err-group.ensures.value in
    rw (p.1, p.2) (inr (cc, refused_pair c.as_slice.result.now s n))

pub invariant_of-result : goal.invariant_of-result
invariant_of-result c =
    let P : List ℕ → Type 0 = λ l. SpellsArcs c.args.text.now l in
    let s = subst P (sym c.as_slice.ensures.value) c.in_ok-arcs.ensures in
    let p = rw c.in_ok-group.ensures.ok_part at c.first_group.ensures in
    record { valid = oid_from_text (written_text c.as_slice.result.now _ _ _ _ s c.in-len2-up.len_at_least p.0 p.1 c.new-octets.ensures.items c.in_ok-write_group.ensures c.in_ok-write_groups.ensures) }

pub returns : goal.returns
returns c =
    let P : List ℕ → Type 0 = λ l. SpellsArcs c.args.text.now l in
    let s = subst P (sym c.as_slice.ensures.value) c.in_ok-arcs.ensures in
    let p = rw c.in_ok-group.ensures.ok_part at c.first_group.ensures in
    written_text c.as_slice.result.now _ _ _ _ s c.in-len2-up.len_at_least p.0 p.1 c.new-octets.ensures.items c.in_ok-write_group.ensures c.in_ok-write_groups.ensures
