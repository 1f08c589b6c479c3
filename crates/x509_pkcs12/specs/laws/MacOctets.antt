-- Laws of `MacOctets.antt`.
use Rattle.asn1_core.specs.Asn1.{SEQUENCE}
use Rattle.std.specs.Prelude.{◌≡◌, ℕ, List, ◌++◌, Option, None, Some}
use Rattle.asn1_core.specs.Der.{Format, optional, nothing, raw, element, integer_octets}
use Rattle.std.proofs.Common.{refl, ap, subst, inl, inr, ◌∙◌}
use Rattle.pkcs12_algs.specs.Digests.{mac_data}
use Rattle.pkcs12_bags.specs.Oids.{data_oid}
use Rattle.x509_pkcs12.specs.Pfxs.{PfxValue, pfx}
use Rattle.x509_pkcs12.specs.MacOctets.{Covers, auth_safe_of, mac_octets}

pub data_covers : {V : Type 0} (F : Format V) (n : ℕ) (d : V) (x : _) → Covers ((pfx F).text (n, (inl d, x))) (F.text d)
data_covers F n d x = record {
  version_octets = _;
  mac = (optional (SEQUENCE mac_data).format nothing).text x;
  is = refl;
}

pub same_some : (o p : List ℕ) → ◌≡◌ {A = Option (List ℕ)} (Some o) (Some p) → o ≡ p
same_some o p e = cc

-- whatever else a raw PFX holds, its MAC octets are in its encoding
pub mac_octets_stand : (w : PfxValue (List ℕ)) (octets : List ℕ) → mac_octets w ≡ Some octets → Covers ((pfx raw).text w) octets
mac_octets_stand (n, (inl d, x)) octets e = subst (Covers ((pfx raw).text (n, (inl d, x)))) (same_some d octets e) (data_covers raw n d x)
mac_octets_stand (n, (inr p, x)) octets e = absurd (let f : None ≡ Some octets = e in cc)

-- an input whose authSafe is data, however its MAC data are encoded
pub input_is : (k n : ℕ) (b octets : List ℕ) (x : Option mac_data.Value × Unit {0}) (s : (pfx raw).Reads k b (n, (inl octets, x))) → b ≡ element 0x30 (element 0x02 (integer_octets n) ++ (auth_safe_of octets ++ s.2.4.1))
input_is k n b octets x s =
    let t = s.2.4 in
    let a = t.3.2 in
    let i : a.2.2.0 ≡ octets = a.2.2.2.0 in
    let h : t.0 ≡ auth_safe_of octets =
    t.3.1 ∙ ap (element 0x30) (a.1 ∙ ap (λ y. element 0x06 data_oid ++ y) (a.2.1 ∙ ap (element 0xA0) (a.2.2.1 ∙ ap (element 0x04) i))) in
    s.1 ∙ ap (element 0x30) (s.2.2 ∙ ap (λ y. y ++ s.2.1) s.2.3.0 ∙ ap (λ y. element 0x02 (integer_octets n) ++ y) (t.2 ∙ ap (λ y. y ++ t.1) h))

-- whatever else an input holds, the MAC octets of the raw PFX that it is read as are in it
pub mac_octets_stand_in : (k : ℕ) (b octets : List ℕ) (w : PfxValue (List ℕ)) → (pfx raw).Reads k b w → mac_octets w ≡ Some octets → Covers b octets
mac_octets_stand_in k b octets (n, (inl d, x)) s e = record {
  version_octets = integer_octets n;
  mac = s.2.4.1;
  is = input_is k n b d x s ∙ ap (λ o. element 0x30 (element 0x02 (integer_octets n) ++ (auth_safe_of o ++ s.2.4.1))) (same_some d octets e);
}
mac_octets_stand_in k b octets (n, (inr p, x)) s e = absurd (let f : None ≡ Some octets = e in cc)
