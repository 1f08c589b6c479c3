-- The parts of a MAC, as they are given.
use Rattle.asn1_core.specs.Der.{option_value}
use Rattle.store_calls.specs.declared.built_stores.MacParts.{MacParts}
use Rattle.password_writers.specs.Values.{other_value}
use Rattle.pkcs12_algs.specs.Algorithms.{from_raw}
use Rattle.pkcs12_algs.specs.Digests.{digest_oids, mac_data}

abbrev pub mac_value : MacParts → mac_data.Value
mac_value x = ((from_raw digest_oids (other_value x.algorithm), (x.digest.now, tt)), (x.salt.now, (option_value (λ n. n) x.iterations, tt)))
