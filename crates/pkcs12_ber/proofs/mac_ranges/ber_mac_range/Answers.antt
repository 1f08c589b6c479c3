use Rattle.std.proofs.Common.{sym}
use Rattle.x509_pkcs12.proofs.MacPlaces.{range_found}
use Rattle.pkcs12_ber.proofs.MacPlaces.{covers_in}
use Rattle.pkcs12_ber.proofs.mac_ranges.ber_mac_range.Goals as goal

pub returns-in-Some : goal.returns-in-Some
returns-in-Some c =
    let covers = covers_in _ _ _ c.in_ok-file.ensures.reads (sym c.in-Some.ensures) in
    range_found covers c.contents_range.result c.in_ok-file.ensures (sym c.in-Some.ensures) c.contents_range.ensures
