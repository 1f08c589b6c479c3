use Rattle.std.specs.Prelude.{◌≡◌}
use Rattle.std.proofs.Common.{ap, ◌∙◌}
use Rattle.asn1_core.specs.Der.{option_value}
use Rattle.store_calls.proofs.BuiltStores.{same_mac}
use Rattle.password_writers.specs.Values.{other_value}
use Rattle.pkcs12_algs.specs.Algorithms.{from_raw}
use Rattle.pkcs12_algs.specs.Digests.{digest_oids, pkcs12_digest_algorithm_value}
use Rattle.store_calls.proofs.built_stores.mac_of.Goals as goal

pub returns : goal.returns
returns c =
    let algorithm : pkcs12_digest_algorithm_value c.from_raw.result ≡ from_raw digest_oids (other_value c.args.parts.now.algorithm) = c.from_raw.ensures ∙ ap (from_raw digest_oids) c.in_ok-algorithm.ensures in
    same_mac (option_value (λ n. n) c.args.parts.now.iterations) algorithm c.in_ok-from_slice.ensures.items c.in_ok-from_slice-2.ensures.items
