use Rattle.std.specs.Prelude.{Some}
use Rattle.std.proofs.Common.{ap, sym, ◌∙◌}
use Rattle.asn1_core.specs.Der.{option_value}
use Rattle.content_ranges.proofs.Parts.{unread}
use Rattle.content_ranges.specs.Heads.{indirect_head_value}
use Rattle.content_ranges.proofs.indirect.image_of.Goals as goal

pub returns-in_ok-without_answer-in-Err : goal.returns-in_ok-without_answer-in-Err
returns-in_ok-without_answer-in-Err c =
    unread (indirect_head_value c.args.content.now) c.as_slice.result.now c.in-Err.error
    (ap (option_value (λ e. e.0.items)) c.in-Some.is ∙ ap Some (sym c.as_slice.ensures.value)) c.in-Err.ensures c.in_ok-without_answer-in-Err.ensures
