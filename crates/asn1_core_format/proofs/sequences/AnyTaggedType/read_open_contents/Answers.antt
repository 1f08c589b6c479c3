use Rattle.asn1_core_format.proofs.Tags.{components_contents}
use Rattle.asn1_core_format.proofs.sequences.AnyTaggedType.read_open_contents.Goals as goal

pub returns : goal.returns
returns g c = components_contents g.T.Sequence.value g.T.Sequence.asn1.format c.args.nest 0x30 _ _ _ c.read_fields.ensures
