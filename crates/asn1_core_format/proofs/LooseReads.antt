-- Reading a type with more than one spelling.
use Rattle.std.proofs.Common.{ℕ, refl, arith}
use Rattle.asn1_core_element.specs.Position.{Position}
use Rattle.asn1_core_element.specs.declared.error.Error.{Error}
use Rattle.asn1_core_format.specs.Format.{Format, HasRead, HasRefused}
use Rattle.asn1_core_format.specs.Loosened.{Loosening, IsLoosening, loosened}

module _ {A V : Type 0} (P : Format A) (L : Loosening A V) (k : ℕ) where
  pub loosened_has_read : IsLoosening P L → {old new : Position} {a : A} → HasRead P k old new a → HasRead (loosened P L) k old new (L.read a)
  loosened_has_read l {old} {new} {a} t = record {
    taken = t.taken;
    split = t.split;
    reads = (a, t.reads, refl);
    beyond = t.beyond;
    end = t.end;
    refused = t.refused;
    at_least = omega (arith, t.at_least, l.fewer a);
    at_most = t.at_most;
  }

  pub loosened_refused : {old new : Position} {e : Error} → HasRefused P k old new e → HasRefused (loosened P L) k old new e
  loosened_refused g = record { kind = g.kind; none = λ m taken rest v s r. g.none m taken rest r.0 s r.1; counts = g.counts; at_most = g.at_most }
