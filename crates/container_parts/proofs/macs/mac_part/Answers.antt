use Rattle.std.proofs.Common.{refl, sym, subst}
use Rattle.asn1_core.specs.Der.{raw}
use Rattle.x509_pkcs12.specs.Pfxs.{pfx}
use Rattle.container_parts.specs.Inputs.{GivesPart}
use Rattle.container_parts.specs.laws.Inputs.{gives}
use Rattle.container_parts.specs.MacParts.{in_mac, IsMacPart}
use Rattle.container_parts.proofs.macs.mac_part.Goals as goal

pub returns : goal.returns
returns c =
    subst (GivesPart (in_mac c.args.part) c.args.input.now) (sym c.of_file.ensures)
    (gives (pfx raw) (IsMacPart c.args.part) c.args.input.now _ c.in_ok-file.ensures c.part_of_mac.result
    (record { octets = _; are = refl; copies = c.part_of_mac.ensures }))
