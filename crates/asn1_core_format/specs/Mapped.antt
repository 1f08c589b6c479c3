-- The same format over other values, which correspond one to one.
use Rattle.asn1_core_format.specs.Format.{Format}

abbrev pub mapped : {V W : Type 0} → (V → W) → (W → V) → Format W → Format V
mapped out into F = record {
  text = λ v. F.text (out v);
  IsWellFormed = λ k v. F.IsWellFormed k (out v);
  Reads = λ k b v. F.Reads k b (out v);
  IsNormal = F.IsNormal;
  normal = λ v. into (F.normal (out v));
  IsTag = F.IsTag;
  first = F.first;
  least = λ v. F.least (out v);
}
