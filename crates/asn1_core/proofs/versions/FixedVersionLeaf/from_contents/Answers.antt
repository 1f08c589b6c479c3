use Rattle.std.proofs.Common.{sym, ◌∙◌, arith, ◌<◌, ◌^◌}
use Rattle.asn1_core.specs.laws.Versions.{one_version}
use Rattle.asn1_core.proofs.versions.FixedVersionLeaf.from_contents.Goals as goal

pub returns-then-number-clause-spelled : goal.returns-then-number-clause-spelled
returns-then-number-clause-spelled g c = record {
  kind = λ e. cc;
  none = λ m v h e.
      let small : v < 2 ^ 8 = omega (arith, h, g.N.fits) in
      let same = one_version c.in_ok-number.number v c.in_ok-number.ensures.spelled.valid small (sym c.in_ok-number.ensures.spelled.is ∙ e) in
      c.if-number.true (same ∙ h);
}
