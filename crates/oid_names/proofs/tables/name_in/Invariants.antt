use Rattle.std.proofs.Common.{ℕ, List, map, drop}
use Rattle.oid_names.specs.Tables.{row_value, IsNamed}
use Rattle.oid_names.proofs.tables.name_in.Given as goal

abbrev pub invariant-loop-row : goal.invariant-loop-row
invariant-loop-row l =
    record {
      from : (name : List ℕ) → IsNamed (map row_value (drop l.row-index l.rows)) l.octets name → IsNamed (map row_value l.rows) l.octets name;
      to : (name : List ℕ) → IsNamed (map row_value l.rows) l.octets name → IsNamed (map row_value (drop l.row-index l.rows)) l.octets name;
    }
