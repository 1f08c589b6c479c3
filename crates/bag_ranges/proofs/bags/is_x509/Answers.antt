use Rattle.std.proofs.Common.{rules, subst}
use Rattle.asn1_core.specs.Asn1.{SEQUENCE}
use Rattle.asn1_core.specs.Der.{octets_of}
use Rattle.bag_ranges.proofs.Contained.{not_either}
use Rattle.bag_ranges.specs.Contained.{IsEither}
use Rattle.bag_ranges.specs.Failures.{HasNone}
use Rattle.pkcs12_bags.specs.BagParts.{x509_bag, x509_bag_value}
use Rattle.bag_ranges.proofs.bags.is_x509.Goals as goal

pub returns-in_err-held : goal.returns-in_err-held
returns-in_err-held g c =
    let r : HasNone (IsEither g.row.KNOWN c.args.element.now) c.in_err-held.field-0.0 = not_either g.row.KNOWN c.args.element.now c.in_err-held.field-0.0 c.in_err-held.ensures in
    search rules

pub returns : goal.returns
returns g c = (octets_of c.in-Unknown.type_id, c.in-Unknown.value.0.items, subst (λ h. (SEQUENCE (x509_bag g.row.KNOWN)).format.Reads 64 c.args.element.now (x509_bag_value h)) c.in-Unknown.is c.in_ok-held.ensures.reads)
