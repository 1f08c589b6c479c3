use Rattle.std.proofs.Common.{rules}
use Rattle.bag_ranges.proofs.Contained.{no_list}
use Rattle.bag_ranges.specs.Contained.{IsHeld}
use Rattle.bag_ranges.specs.Failures.{HasNone}
use Rattle.bag_ranges.specs.declared.ranges.BagKind.TheVariants.{Crl}
use Rattle.bag_ranges.proofs.bags.kind_of_list.Goals as goal

pub returns-in_err-is_x509 : goal.returns-in_err-is_x509
returns-in_err-is_x509 c =
    let r : HasNone (IsHeld Crl c.args.element.now) c.in_err-is_x509.field-0.0 = no_list c.args.element.now c.in_err-is_x509.field-0.0 c.in_err-is_x509.ensures in
    search rules
