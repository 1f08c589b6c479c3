-- From the ranges of a certificate to what a call answers.
use Rattle.std.proofs.Common.{◌≡◌, ℕ, List, arith, refl}
use Rattle.certificate_ranges.specs.Certificates.{certificate}
use Rattle.certificate_ranges.specs.Ranges.{AreCertificateRanges, IsRefusal}
use Rattle.certificate_ranges.specs.declared.ranges.CertificateRanges.{CertificateRanges}
use Rattle.input_ranges.specs.declared.ranges.Refusal.{Refusal}
use Rattle.call_values.proofs.Statuses.{IsRefusedFor, refusal_bounds, refusal_place, refusal_says, refused_ranges}
use Rattle.part_calls.specs.Certificates.{FindsCertificate, certificate_row, no_certificate, without_certificate}
use Rattle.call_values.specs.Statuses.{place_of, status_of_refusal}
use Rattle.part_calls.specs.declared.certificates.Certificate.{Certificate}

module _ (b : List ℕ) where
  pub certificate_found : (r : CertificateRanges) (new : Certificate) → AreCertificateRanges b r → new ≡ certificate_row r → FindsCertificate b new 0 0
  certificate_found r new are is = record {
    found = λ _. (r, are, is);
    why = record {
      unknown = λ h. absurd (omega (arith, h));
      refused = λ low high. absurd (omega (arith, low));
      long = λ h. absurd (omega (arith, h));
      memory = λ h. absurd (omega (arith, h));
      no_range = λ h. absurd (omega (arith, h));
      absent = λ h. absurd (omega (arith, h));
    };
    none = λ n. absurd (n refl);
    at = record { inside = omega arith; none = λ _. refl };
    range = (λ h. omega (arith, h), (λ h. omega (arith, h), omega arith));
  }

  pub certificate_refused : (e : Refusal) (place status : ℕ) → place ≡ place_of e → status ≡ status_of_refusal e → IsRefusal b e → FindsCertificate b no_certificate place status
  certificate_refused e place status p s why =
      let range = refusal_bounds e status s in
      let refused : IsRefusedFor (without_certificate b) b e = refused_ranges certificate (without_certificate b) b ⊥ tt (λ none. none) (λ lacks. lacks) e why in
      record {
        found = λ h. absurd (omega (arith, h, range.0));
        why = refusal_says (without_certificate b) b e status s refused;
        none = λ _. refl;
        at = refusal_place (without_certificate b) b e place status p s refused;
        range = (λ h. omega (arith, h, range.0), (range.1, omega (arith, range.2)));
      }
