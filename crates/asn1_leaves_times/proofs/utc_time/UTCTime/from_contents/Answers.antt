use Rattle.std.proofs.Common.{◌≡◌, ◌%◌, ◌≤◌, ◌++◌, ap₂, ◌∙◌, arith}
use Rattle.asn1_leaves_times.specs.TimeContents.{two_digits, IsUtc, utc_contents}
use Rattle.asn1_leaves_times.specs.laws.TimeContentsLaws.{utc_contents_same_years}
use Rattle.asn1_leaves_times.specs.Times.{moment_of}
use Rattle.asn1_leaves_times.proofs.Numbers.{answer_spelled}
use Rattle.asn1_leaves_times.proofs.utc_time.UTCTime.from_contents.Goals as goal
use Rattle.asn1_leaves_times.proofs.utc_time.UTCTime.from_contents.Goals.{then-of_century-lt50, else-of_century-lt50}

pub returns : goal.returns
returns c =
    let m = c.in_ok-read_after_year.field-0 in
    let n = c.in_ok-of_century.of_century in
    let year : (1950 ≤ m.year) × (m.year ≤ 2049) × (n ≡ m.year % 100) =
    elim c.if-of_century-lt50.branch [
      | then-of_century-lt50 w ↦ grind (arith, c.in_ok-read_after_year.ensures.0, c.in_ok-of_century.ensures.0)
      | else-of_century-lt50 w ↦ grind (arith, c.in_ok-read_after_year.ensures.0, c.in_ok-of_century.ensures.0)
    ]
    in
    let spelled : c.args.contents.now ≡ utc_contents m =
    c.in_ok-of_century.ensures.1 ∙ ap₂ (λ k l. two_digits k ++ l) year.2 c.in_ok-read_after_year.ensures.1
    in
    answer_spelled moment_of IsUtc utc_contents c.args.contents.now m c.from_moment.result spelled
    (λ v is e. utc_contents_same_years m v year.0 year.1 is.first_year is.last_year e) c.from_moment.ensures
