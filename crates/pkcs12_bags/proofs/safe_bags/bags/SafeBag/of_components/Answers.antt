use Rattle.std.proofs.Common.{rules}
use Rattle.pkcs12_bags.specs.laws.BagLevels.{value_components}
use Rattle.pkcs12_bags.proofs.safe_bags.bags.SafeBag.of_components.Goals as goal

pub returns-in-First : goal.returns-in-First
returns-in-First c = let v = value_components c.made.result in search rules
