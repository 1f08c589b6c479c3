use Rattle.std.proofs.Common.{◌≤◌, ◌+◌, length}
use Rattle.asn1_located.specs.Places.{FollowsMany}
use Rattle.asn1_located.proofs.walks.nth.Given as goal

abbrev pub invariant-loop : goal.invariant-loop
invariant-loop l = FollowsMany l.counter l.start l.octets l.place.start l.place.octets.now × (l.place.start + length l.place.octets.now ≤ l.start + length l.octets)
