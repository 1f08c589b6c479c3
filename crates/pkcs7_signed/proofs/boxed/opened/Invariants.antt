use Rattle.std.proofs.Common.{◌≡◌, map}
use Rattle.pkcs7_signed.proofs.boxed.opened.Given as goal

abbrev pub invariant-loop-item : goal.invariant-loop-item
invariant-loop-item g l = map g.T.DerSerialize.value l.items.items ≡ map (λ b. g.T.DerSerialize.value b.0.value) l.yielded
