use Rattle.asn1_core.specs.Der.{option_value}
use Rattle.pkcs12_algs.specs.Digests.{mac_data_value}
use Rattle.store_writers.proofs.Normal.{store_result}
use Rattle.store_writers.proofs.write.write_store.Goals as goal

pub returns : goal.returns
returns c = store_result c.args.safe.now (option_value (λ m. mac_data_value m.now) c.args.mac) (λ v. v.items) c.write.result c.write.ensures
