-- What a file's DER has around the octets that a MAC covers.
use Rattle.std.proofs.Common.{◌≡◌, ℕ, List, ◌++◌, None, Some, ap, ◌∙◌, inl, inr}
use Rattle.asn1_core.specs.Der.{Octets, sequence, element, integer_octets}
use Rattle.pkcs12_bags.specs.Oids.{data_oid}
use Rattle.x509_pkcs12.specs.MacOctets.{mac_octets, auth_safe_of, Covers}
use Rattle.x509_pkcs12.specs.laws.MacOctets.{same_some}
use Rattle.x509_pkcs12.specs.Pfxs.{PfxValue}
use Rattle.pkcs12_ber.specs.Pfxs.{ber_pfx}

-- as x509_pkcs12 says it of a raw PFX
pub covers_in : (b o : List ℕ) (w : PfxValue Octets) → (sequence ber_pfx.format).Reads 64 b w → mac_octets w ≡ Some o → Covers b o
covers_in b o (n, (inl d, x)) s e =
    let t = s.2.4 in
    let a = t.3.2 in
    let same : d ≡ o = same_some d o e in
    let whole : t.0 ≡ auth_safe_of o =
    t.3.1 ∙ ap (element 0x30) (a.1 ∙ ap (λ y. element 0x06 data_oid ++ y) (a.2.1 ∙ ap (element 0xA0) (a.2.2.0 ∙ ap (element 0x04) same))) in
    record {
      version_octets = integer_octets n;
      mac = t.1;
      is = s.1 ∙ ap (element 0x30) (s.2.2 ∙ ap (λ y. y ++ s.2.1) s.2.3.0 ∙ ap (λ y. element 0x02 (integer_octets n) ++ y) (t.2 ∙ ap (λ y. y ++ t.1) whole));
    }
covers_in b o (n, (inr p, x)) s e = absurd (let f : None ≡ Some o = e in cc)
