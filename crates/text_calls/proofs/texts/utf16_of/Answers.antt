use Rattle.std.proofs.Common.{◌≡◌, ◌/◌, ◌%◌, ap, ◌∙◌, ◌∷◌, [], arith}
use Rattle.text_calls.proofs.Utf16Made.{one_more_unit, octets_written, all_units}
use Rattle.text_calls.proofs.texts.utf16_of.Goals as goal

pub loop-unit-preserved : goal.loop-unit-preserved
loop-unit-preserved c =
    let before = c.loop-unit.invariant in
    let unit = c.in-Some.unit in
    let high : unit / 256 % 256 ≡ unit / 256 = omega arith in
    let two = c.to_be_bytes.ensures ∙ ap (λ h. h ∷ (unit % 256) ∷ []) high in
    (octets_written _ _ _ _ unit before.0 two c.in_ok-extend_from_slice.ensures.items, one_more_unit _ _ unit _ _ _ _ c.in-Some.ensures.steps before.1)

pub returns : goal.returns
returns c =
    let kept = c.loop-unit.invariant in
    let steps = c.in-None.ensures.steps in
    all_units _ _ _ _ _ c.utf8.text steps.0 steps.1 kept.0 kept.1
