use Rattle.asn1_core_writers.specs.laws.Buffers.{buffers_through}
use Rattle.asn1_core_writers.proofs.buffered.Buffered.pass.Goals as goal

pub returns-then-bytes-gt-ROOM-clause-taken : goal.returns-then-bytes-gt-ROOM-clause-taken
returns-then-bytes-gt-ROOM-clause-taken g c = buffers_through _ _ _ _ _ _ _ _ _ _ c.in_ok-flush.ensures.sent.0 c.in_ok-flush.ensures.sent.1 c.in_ok-flush.ensures.none c.bytes.ensures
