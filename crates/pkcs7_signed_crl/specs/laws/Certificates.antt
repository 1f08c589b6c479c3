-- Laws of `Certificates.antt`.
use Rattle.std.specs.Prelude.{◌≤◌, ℕ}
use Rattle.std.proofs.Common.{inl, inr, arith}
use Rattle.std.proofs.lemmas.Bool.Decides.{eqb_tells}
use Rattle.asn1_core.specs.Der.{empty_left_out, is_default, IsDefault}
use Rattle.pkcs7_signed_crl.specs.Certificates.{certificate_choices, certificate_set, no_certificates}

-- an element has the tag of a certificate, or another
pub any_tag : (t : ℕ) → certificate_choices.format.IsTag t
any_tag t = elim (eqb_tells t 0x30) [ inl e ↦ inl e.1 | inr n ↦ inr n.1 ]

pub no_certificates_left_out : IsDefault (is_default certificate_set.format no_certificates) no_certificates certificate_set.format
no_certificates_left_out = empty_left_out 0xA0 (omega arith) certificate_choices.format certificate_choices.law

pub some_certificate : (v : certificate_choices.Value) → 1 ≤ certificate_choices.format.least v
some_certificate (inl c) = omega arith
some_certificate (inr c) = omega arith
