-- Reading the contents of an algorithm identifier whose object identifier picks an alternative.
use Rattle.std.proofs.Common.{◌≡◌, ℕ, List, refl, sym, subst, arith}
use Rattle.asn1_core.specs.Der.{Position, HasReadComponents, HasRefusedComponents}
use Rattle.asn1_core_element.specs.declared.error.Error.{Error}
use Rattle.x509_base.specs.Algorithms.{algorithm_identifier}
use Rattle.x509_base.specs.laws.AlgorithmChoiceLaws.{alternative_loosening}
use Rattle.x509_base.specs.OtherAlgorithms.{raw_algorithm_identifier}
use Rattle.pkcs12_algs.specs.Algorithms.{ListedOrRaw, listed_or_raw, from_raw}
use Rattle.pkcs12_algs.specs.Tables.{listing}
use Rattle.pkcs12_algs.specs.laws.TableLaws.{listing_is_table}

-- absent parameters are read as absent
module _ (oids : List (List ℕ)) {k : ℕ} {old new : Position} where
  pub alternative_has_read : {v : algorithm_identifier.Value} {x : ListedOrRaw oids} → x ≡ from_raw oids v → HasReadComponents raw_algorithm_identifier.format k old new v → HasReadComponents (listed_or_raw oids).format k old new x
  alternative_has_read {v} e t = subst (HasReadComponents (listed_or_raw oids).format k old new) (sym e) (record {
    reads = (v, subst (algorithm_identifier.format.Reads k old.left) t.reads.2 t.reads.1, refl);
    done = t.done;
    beyond = t.beyond;
    end = t.end;
    refused = t.refused;
    at_least = omega (arith, t.at_least, (alternative_loosening (listing oids) (listing_is_table oids)).fewer v);
    at_most = t.at_most;
  })

  pub alternative_refused : {e : Error} → HasRefusedComponents raw_algorithm_identifier.format k old new e → HasRefusedComponents (listed_or_raw oids).format k old new e
  alternative_refused g = record { kind = g.kind; none = λ m x r. g.none m r.0 (r.0, r.1, refl); counts = g.counts; at_most = g.at_most }
