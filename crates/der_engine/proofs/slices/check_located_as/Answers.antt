use Rattle.der_engine.proofs.Comparing.{located_same, located_other}
use Rattle.der_engine.proofs.slices.check_located_as.Goals as goal

pub returns-in-Ok : goal.returns-in-Ok
returns-in-Ok g c =
    let taken = rw c.new-w.ensures at c.in-Ok.ensures in
    rw c.total.ensures (located_same g.T.DerSerialize.format c.args.limit g.met.T.DerDeserialize.lawful c.in_ok-value.ensures taken (c.is_same.ensures.0 c.if-is_same.true))

pub returns-in-Ok-2 : goal.returns-in-Ok-2
returns-in-Ok-2 g c =
    let taken = rw c.new-w.ensures at c.in-Ok-2.ensures in
    rw (c.place.ensures, c.total-in-Ok-2.ensures) (located_other g.T.DerSerialize.format c.args.limit g.met.T.DerDeserialize.lawful c.in_ok-value.ensures taken (λ s. (let t = c.is_same.ensures.1 s in let f = c.if-is_same.false in cc)))
