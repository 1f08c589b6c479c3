use Rattle.std.proofs.Common.{subst}
use Rattle.asn1_borrowed.specs.Written.{IsNotWritten}
use Rattle.asn1_core.specs.Der.{option_value, raw}
use Rattle.store_calls.proofs.BuiltStores.{borrowed_mac, not_built}
use Rattle.pkcs12_algs.specs.Digests.{mac_data_value}
use Rattle.store_writers.specs.Written.{store_value}
use Rattle.x509_pkcs12.specs.Pfxs.{pfx}
use Rattle.store_calls.proofs.built_stores.store_text.Goals as goal

pub returns : goal.returns
returns c =
    let safe = c.in_ok-safe.safe.now in
    let mac = option_value mac_data_value c.in_ok-mac.mac in
    let why = subst (λ m. IsNotWritten (pfx raw) (store_value safe m) c.in-Err.error) (borrowed_mac c.as_ref.result c.in_ok-mac.mac c.as_ref.ensures.value) c.in-Err.ensures in
    not_built c.args.input.now c.args.row.now safe mac c.in-Err.error (record { safe_is = c.in_ok-safe.ensures; mac_is = c.in_ok-mac.ensures }) why
