use Rattle.std.proofs.Common.{rules}
use Rattle.asn1_core_element.specs.laws.ElementLaws.{length_retag}
use Rattle.asn1_core_writers.specs.laws.Buffers.{emits_buffered}
use Rattle.asn1_core_format.proofs.tagged.DerTagged.emit_as.Goals as goal

pub returns : goal.returns
returns g c =
    emits_buffered g.S.Sink.received g.S.Sink.failed _ _ _ _ _ _ _ _ _ _ _ _ _ (search (rules, length_retag)) c.new-w.ensures.same_sink c.new-w.ensures.sink c.new-w.ensures.waiting c.in_ok-put_as.ensures c.flush.ensures.same_sink c.flush.ensures.sent (search rules)
