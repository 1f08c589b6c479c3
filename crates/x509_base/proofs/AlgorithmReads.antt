-- Reading the last alternative of a choice of algorithms.
use Rattle.std.specs.Prelude.{ℕ, List}
use Rattle.asn1_core.specs.Der.{Position, otherwise, HasRefusedComponents, nothing, optional, raw, IsOid}
use Rattle.asn1_core_element.specs.declared.error.Error.{Error}
use Rattle.asn1_choices.specs.Chosen.{after_oid}
use Rattle.x509_base.specs.OtherAlgorithms.{other_algorithm}

-- absent parameters are read as absent
module _ (key : List ℕ) {k : ℕ} {old new : Position} where
  pub other_refused : {e : Error} → HasRefusedComponents (after_oid key (otherwise IsOid (optional raw nothing))) k old new e → HasRefusedComponents (after_oid key other_algorithm.choice) k old new e
  other_refused g = record {
    kind = g.kind;
    none = λ m v s. g.none m s.0 s.1;
    counts = g.counts;
    at_most = g.at_most;
  }
