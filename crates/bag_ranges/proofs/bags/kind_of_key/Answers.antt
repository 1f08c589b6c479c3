use Rattle.std.proofs.Common.{rules}
use Rattle.bag_ranges.proofs.Contained.{no_key}
use Rattle.bag_ranges.specs.Contained.{IsHeld}
use Rattle.bag_ranges.specs.Failures.{HasNone}
use Rattle.bag_ranges.specs.declared.ranges.BagKind.TheVariants.{ShroudedKey}
use Rattle.bag_ranges.proofs.bags.kind_of_key.Goals as goal

pub returns-in_err-_key : goal.returns-in_err-_key
returns-in_err-_key c =
    let r : HasNone (IsHeld ShroudedKey c.args.element.now) c.in_err-_key.field-0.0 = no_key c.args.element.now c.in_err-_key.field-0.0 c.in_err-_key.ensures in
    search rules
