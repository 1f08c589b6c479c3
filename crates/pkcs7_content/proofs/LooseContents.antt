-- Reading the open contents of a type with more than one spelling.
use Rattle.std.proofs.Common.{◌≡◌, ℕ, refl, sym, ◌∙◌, arith}
use Rattle.asn1_core.specs.Der.{Position, Format, HasReadComponents, HasRefusedComponents, Loosening, IsLoosening, loosened}
use Rattle.asn1_core_format.specs.Tagged.{inside}
use Rattle.asn1_core_element.specs.declared.error.Error.{Error}
use Rattle.asn1_core_element.specs.declared.error.Error.TheVariants.{Memory}

-- memory that was refused once all was read
pub lacked : {A V : Type 0} (P : Format A) (F : Format V) {k : ℕ} {old new : Position} {a : A} {e : Error} → HasReadComponents P k old new a → e ≡ Memory → HasRefusedComponents F k old new e
lacked P F {k} {old} {new} t m = record {
  kind = λ x. (let h = sym m ∙ x in cc);
  none = λ n v s. n m;
  counts = omega (arith, t.at_least);
  at_most = omega (arith, t.at_most);
}

module _ {A V : Type 0} (P : Format A) (L : Loosening A V) (k tag : ℕ) where
  pub loosened_have_read : IsLoosening P L → {old new : Position} {a : A} → HasReadComponents (inside tag P) k old new a → HasReadComponents (inside tag (loosened P L)) k old new (L.read a)
  loosened_have_read l {old} {new} {a} t = record {
    reads = (a, t.reads, refl);
    done = t.done;
    beyond = t.beyond;
    end = t.end;
    refused = t.refused;
    at_least = omega (arith, t.at_least, l.fewer a);
    at_most = t.at_most;
  }

  pub loosened_refused : {old new : Position} {e : Error} → HasRefusedComponents (inside tag P) k old new e → HasRefusedComponents (inside tag (loosened P L)) k old new e
  loosened_refused g = record { kind = g.kind; none = λ m v s. g.none m s.0 s.1; counts = g.counts; at_most = g.at_most }
