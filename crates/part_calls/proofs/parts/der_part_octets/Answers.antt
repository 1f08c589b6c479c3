use Rattle.part_calls.proofs.CopiedParts.{part_copied}
use Rattle.part_calls.proofs.parts.der_part_octets.Goals as goal

pub returns : goal.returns
returns c = part_copied c.args.number c.args.index c.args.input.now c.in-Some.part c.in-Some.ensures c.args.out.now c.put_part.new.out c.put_part.new.written c.put_part.new.place c.put_part.result c.container_part.result c.container_part.ensures c.put_part.ensures
