use Rattle.std.proofs.Common.{◌+◌, ◌*◌}
use Rattle.pkcs12_bags.proofs.safe_bags.bags.+read.Given as goal

abbrev pub decreases-SafeBagDerDeserialize::read-read_nested_or : goal.decreases-SafeBagDerDeserialize::read-read_nested_or
decreases-SafeBagDerDeserialize::read-read_nested_or l = 4 * l.below + 3

abbrev pub decreases-SafeBagDerDeserialize::read : goal.decreases-SafeBagDerDeserialize::read
decreases-SafeBagDerDeserialize::read l = 4 * l.nest

abbrev pub decreases-SafeContentsDerDeserialize::read-read_list_with : goal.decreases-SafeContentsDerDeserialize::read-read_list_with
decreases-SafeContentsDerDeserialize::read-read_list_with l = 4 * l.nest + 1

abbrev pub decreases-SafeContentsDerDeserialize::read : goal.decreases-SafeContentsDerDeserialize::read
decreases-SafeContentsDerDeserialize::read l = 4 * l.nest + 2
