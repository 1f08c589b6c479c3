use Rattle.std.proofs.Common.{◌≡◌, ◌/◌, ◌%◌, ◌++◌, ap₂, ◌∙◌, arith}
use Rattle.asn1_leaves_times.specs.TimeContents.{two_digits, IsGeneralized, generalized_contents}
use Rattle.asn1_leaves_times.specs.laws.TimeContentsLaws.{generalized_contents_same}
use Rattle.asn1_leaves_times.specs.Times.{moment_of_generalized}
use Rattle.asn1_leaves_times.proofs.Numbers.{same_rest, answer_spelled}
use Rattle.asn1_leaves_times.proofs.generalized_time.GeneralizedTime.from_contents.Goals as goal

pub returns-in_err-century : goal.returns-in_err-century
returns-in_err-century c =
    rw c.from_residual.ensures (λ m is spelled. c.in_err-century.ensures (m.year / 100) _ (omega (arith, is.last_year)) spelled)

pub returns-in_err-of_century : goal.returns-in_err-of_century
returns-in_err-of_century c =
    rw c.from_residual-in_err-of_century.ensures
    (λ m is spelled. let year = same_rest c.in_ok-century.ensures.1 spelled in
    c.in_err-of_century.ensures (m.year % 100) _ (omega arith) year)

pub returns : goal.returns
returns c =
    let m = c.in_ok-read_after_year.field-0 in
    let century : c.in_ok-century.century ≡ m.year / 100 = omega (arith, c.in_ok-read_after_year.ensures.0, c.in_ok-of_century.ensures.0) in
    let year : c.in_ok-of_century.of_century ≡ m.year % 100 = omega (arith, c.in_ok-read_after_year.ensures.0, c.in_ok-of_century.ensures.0) in
    let after_century = c.in_ok-of_century.ensures.1 ∙ ap₂ (λ k l. two_digits k ++ l) year c.in_ok-read_after_year.ensures.1 in
    let spelled : c.args.contents.now ≡ generalized_contents m =
    c.in_ok-century.ensures.1 ∙ ap₂ (λ k l. two_digits k ++ l) century after_century
    in
    answer_spelled moment_of_generalized IsGeneralized generalized_contents c.args.contents.now m c.from_moment.result spelled
    (λ v is e. generalized_contents_same m v e) c.from_moment.ensures
