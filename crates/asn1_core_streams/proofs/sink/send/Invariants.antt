use Rattle.std.proofs.Common.{◌≡◌, List, ◌++◌, length, ℕ}
use Rattle.std.specs.Io.KnownBytes.{Appends}
use Rattle.asn1_core_streams.proofs.sink.send.Given as goal

abbrev pub invariant-loop-rest : goal.invariant-loop-rest
invariant-loop-rest g l = record {
  sent : List ℕ;
  split : l.initial.rest ≡ sent ++ l.rest;
  appended : Appends (g.S.Sink.received l.initial.sink) (g.S.Sink.received l.sink) sent;
  count : g.S.Sink.failed l.sink ≡ g.S.Sink.failed l.initial.sink;
}

abbrev pub decreases-loop-rest : goal.decreases-loop-rest
decreases-loop-rest g l = length l.rest
