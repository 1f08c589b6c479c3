use Rattle.std.proofs.Common.{◌≡◌, [], arith}
use Rattle.std.proofs.lemmas.List.{nil_from_length}
use Rattle.std.proofs.lemmas.Bool.Decides.{nat_tests}
use Rattle.ber_der.proofs.DerTests.{whole_der, whole_no_der}
use Rattle.ber_der.proofs.canonical.is_der.Goals as goal

pub returns-in-Some : goal.returns-in-Some
returns-in-Some c =
    let s = whole_der 64 c.args.bytes.now c.in-Some.rest.now c.in-Some.ensures in
    (λ e. s.1 (nil_from_length _ (grind (arith, nat_tests))), λ p. let e : c.in-Some.rest.now ≡ [] = s.0 p in grind (arith, nat_tests))

pub returns-in-None : goal.returns-in-None
returns-in-None c = (λ f. cc, λ p. absurd (whole_no_der 64 c.args.bytes.now c.in-None.ensures p))
