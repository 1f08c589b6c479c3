use Rattle.asn1_core.specs.Asn1.{SEQUENCE}
use Rattle.content_ranges.specs.Heads.{image_head}
use Rattle.content_ranges.specs.IndirectRoutes.{image_data}
use Rattle.asn1_borrowed.proofs.Encodings.{encoding_result}
use Rattle.indirect_writers.proofs.Encodings.{image_normal}
use Rattle.indirect_writers.specs.Written.{image_value}
use Rattle.indirect_writers.proofs.write.write_image_data.Goals as goal

pub returns : goal.returns
returns c = encoding_result image_data (SEQUENCE image_head).law (image_value c.args.image.now) (image_normal (image_value c.args.image.now)) (λ v. v.items) c.write.result c.write.ensures
