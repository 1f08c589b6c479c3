-- Parts of the MAC of a file whose MAC may cover BER.
use Rattle.std.specs.Prelude.{◌≡◌, ℕ, List, Option, Some, Result, Ok, Err}
use Rattle.std.proofs.Common.{Vec, Global, refl}
use Rattle.asn1_core.specs.Der.{option_value, Octets, IsValueOf, HasNoValue}
use Rattle.asn1_core_element.specs.declared.error.Error.{Error}
use Rattle.container_parts.specs.Copies.{Copies}
use Rattle.container_parts.specs.Inputs.{GivesNoPart}
use Rattle.container_parts.specs.laws.Inputs.{gives_copy}
use Rattle.container_parts.specs.MacParts.{mac_of, mac_part_in, of_mac}
use Rattle.container_parts.specs.declared.macs.MacPart.{MacPart}
use Rattle.x509_pkcs12.specs.Pfxs.{PfxValue}
use Rattle.call_values.proofs.Statuses.{error_written}
use Rattle.part_calls.specs.Macs.{ber_file, CopiesMacPart, GivesMacPart, IsMacPartAt, OfMacPart, without_mac_part}
use Rattle.call_values.specs.Statuses.{status_of}

module _ (part : MacPart) (b : List ℕ) where
  pub refused : (e : Error) → HasNoValue ber_file 64 b e → GivesNoPart (mac_part_in ber_file part) b e
  refused e why = record { none = λ m l v r. why.none m v r; long = λ l. absurd (why.kind l) }

  pub given : (v : PfxValue Octets) → IsValueOf ber_file 64 b v → (r : Result (Option (Vec ℕ Global)) Error) → Copies (option_value (of_mac part) (mac_of v)) r → GivesMacPart (mac_part_in ber_file part) b r
  given v is (Ok found) c = record { value = v; is_value = is; is = c }
  given v is (Err e) c = (gives_copy (mac_part_in ber_file part) b (option_value (of_mac part) (mac_of v)) (record { value = v; is_value = is; is = refl }) (Err e) c).0

  -- an error, of the part that is asked for
  pub not_copied : (number : ℕ) → IsMacPartAt number part → (old : List ℕ) (e : Error) (status : ℕ) → status ≡ status_of e → GivesNoPart (mac_part_in ber_file part) b e → CopiesMacPart number b old old 0 status
  not_copied number at old e status is why =
      error_written (λ t. OfMacPart number (λ M. M.Has b (Some t))) (without_mac_part number b) old e status is
      (record { none = λ m l. (part, at, why.none m l); long = λ l. (part, at, why.long l); memory = tt })
