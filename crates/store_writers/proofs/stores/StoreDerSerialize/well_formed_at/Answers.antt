use Rattle.std.specs.Prelude.{◌↔◌, IsTrue}
use Rattle.std.proofs.Common.{subst}
use Rattle.asn1_core.specs.Der.{option_value}
use Rattle.pkcs12_algs.specs.Digests.{mac_data_value}
use Rattle.store_writers.proofs.Normal.{STORE, formed_alike}
use Rattle.store_writers.proofs.stores.StoreDerSerialize.well_formed_at.Goals as goal

pub returns : goal.returns
returns c =
    let r = c.components_well_formed_at.result in
    formed_alike c.args.limit c.args.self.now.safe.now (option_value (λ m. mac_data_value m.now) c.args.self.now.mac) r (subst (λ v. IsTrue r ↔ STORE.IsWellFormed c.args.limit v) c.parts.ensures c.components_well_formed_at.ensures)
