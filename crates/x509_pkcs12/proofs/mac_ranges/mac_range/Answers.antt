use Rattle.std.proofs.Common.{sym}
use Rattle.x509_pkcs12.specs.laws.MacOctets.{mac_octets_stand_in}
use Rattle.x509_pkcs12.proofs.MacPlaces.{range_found}
use Rattle.x509_pkcs12.proofs.mac_ranges.mac_range.Goals as goal

pub returns-in-Some : goal.returns-in-Some
returns-in-Some c =
    let covers = mac_octets_stand_in 64 _ _ _ c.in_ok-file.ensures.reads (sym c.in-Some.ensures) in
    range_found covers c.contents_range.result c.in_ok-file.ensures (sym c.in-Some.ensures) c.contents_range.ensures
