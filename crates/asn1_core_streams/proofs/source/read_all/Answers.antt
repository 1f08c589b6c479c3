use Rattle.std.proofs.Common.{rules}
use Rattle.std.proofs.KnownBytes.{Consumes-trans}
use Rattle.asn1_core_streams.specs.Streams.{ConsumesSome}
use Rattle.asn1_core_streams.proofs.source.read_all.Goals as goal

pub returns-in_err-extend_from_slice-in-Ok-clause-part : goal.returns-in_err-extend_from_slice-in-Ok-clause-part
returns-in_err-extend_from_slice-in-Ok-clause-part g c =
    let some : ConsumesSome (g.S.Source.coming c.args.source.now) (g.S.Source.coming c.read.new.self) =
    record { bytes = _; consumed = Consumes-trans _ _ _ _ _ c.loop-bytes.invariant.consumed c.in-Ok.ensures.bytes.0 } in
    search rules
