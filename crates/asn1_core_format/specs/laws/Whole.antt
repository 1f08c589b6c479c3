-- Laws of `Whole.antt`.
use Rattle.std.specs.Prelude.{ℕ, List}
use Rattle.asn1_core_format.specs.Format.{Format, IsLawful}
use Rattle.asn1_core_format.specs.Whole.{IsRewriting, IsValueOf}

pub rewriting : {V : Type 0} (F : Format V) (k : ℕ) (v : V) → IsLawful F → IsRewriting F k v (F.text v)
rewriting F k v f = record {
  back = λ b r. f.components.fixed k b v r;
  normal = λ h. f.components.text_normal k v h;
  reads = λ h. f.components.text_reads k v h;
}

pub value_of : {V : Type 0} (F : Format V) (k : ℕ) (b : List ℕ) (v : V) → IsLawful F → F.Reads k b v → IsValueOf F k b v
value_of F k b v f r = record {
  reads = r;
  only = λ w s. f.components.one_value k b w v s r;
  well_formed = f.components.well_formed k b v r;
  element = f.element k b v r;
}
