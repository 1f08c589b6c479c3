use Rattle.asn1_core.specs.Asn1.{SEQUENCE}
use Rattle.content_ranges.specs.Heads.{indirect_head}
use Rattle.content_ranges.specs.IndirectRoutes.{indirect_data}
use Rattle.asn1_borrowed.proofs.Encodings.{encoding_result}
use Rattle.indirect_writers.proofs.Encodings.{indirect_normal}
use Rattle.indirect_writers.specs.Written.{indirect_value}
use Rattle.indirect_writers.proofs.write.write_indirect_data.Goals as goal

pub returns : goal.returns
returns c = encoding_result indirect_data (SEQUENCE indirect_head).law (indirect_value c.args.indirect.now) (indirect_normal (indirect_value c.args.indirect.now)) (λ v. v.items) c.write.result c.write.ensures
