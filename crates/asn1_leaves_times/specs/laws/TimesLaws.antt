-- Times are equal where their moments are.
use Rattle.std.specs.Prelude.{◌≡◌, ◌↔◌, IsTrue}
use Rattle.std.proofs.Common.{rules}
use Rattle.asn1_leaves_times.specs.Times.{moment_of, moment_of_generalized}
use Rattle.asn1_leaves_times.specs.declared.generalized_time.GeneralizedTime.{GeneralizedTime}
use Rattle.asn1_leaves_times.specs.declared.utc_time.UTCTime.{UTCTime}
use Rattle.asn1_leaves_times.specs.contracts.utc_time.UTCTimePartialEq.TheImpl as U
use Rattle.asn1_leaves_times.specs.contracts.generalized_time.GeneralizedTimePartialEq.TheImpl as G

pub equal_utc : (a b : UTCTime) → IsTrue (U.ghosts.eq a b) ↔ (moment_of a ≡ moment_of b)
equal_utc a b = search rules

pub equal_generalized : (a b : GeneralizedTime) → IsTrue (G.ghosts.eq a b) ↔ (moment_of_generalized a ≡ moment_of_generalized b)
equal_generalized a b = search rules
