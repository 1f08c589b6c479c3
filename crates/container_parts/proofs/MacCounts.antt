-- How often the MAC of a file hashes, by the MAC data that the file has.
use Rattle.std.specs.Prelude.{◌≡◌, ℕ, Option, None, Some, unwrap_or}
use Rattle.std.proofs.Common.{refl, sym, ap, ◌∙◌}
use Rattle.asn1_core.specs.Der.{option_value}
use Rattle.pkcs12_algs.specs.Digests.{mac_data_value}
use Rattle.pkcs12_algs.specs.declared.macs.MacData.{MacData}
use Rattle.container_parts.specs.MacParts.{iterations_of}

same_count : (o : Option ℕ) → unwrap_or o 1 ≡ unwrap_or (option_value (λ n. n) o) 1
same_count None = refl
same_count (Some n) = refl

module _ (held : Option MacData) where
  pub count_is : (m : MacData) (count : ℕ) → held ≡ Some m → count ≡ unwrap_or m.iterations 1 → Some count ≡ option_value iterations_of (option_value mac_data_value held)
  count_is m count is e = ap Some (e ∙ same_count m.iterations) ∙ ap (λ d. option_value iterations_of (option_value mac_data_value d)) (sym is)

  pub no_count : held ≡ None → None ≡ option_value iterations_of (option_value mac_data_value held)
  no_count is = ap (λ d. option_value iterations_of (option_value mac_data_value d)) (sym is)
