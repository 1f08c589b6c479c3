-- What a file reads as: one reading, and for DER that of a PFX.
use Rattle.std.proofs.Common.{◌≡◌, ◌↔◌, ℕ, ◌^◌, ◌<◌, true, List, Some, length, refl, sym, ap, subst, ◌∙◌, inl, inr, arith}
use Rattle.asn1_core.specs.Der.{Format, IsLawful, Octets, raw, lawful_raw, sequence, lawful_sequence, element, IsElement, IsTagByte}
use Rattle.ber_der.specs.Ber.{IsBer}
use Rattle.ber_der.specs.laws.BerLaws.{one_der}
use Rattle.ber_der.specs.Der.{IsDer}
use Rattle.ber_der.specs.laws.DerLaws.{der_is_fixed}
use Rattle.ber_der.specs.Typed.{IsBerValueOf}
use Rattle.ber_der.specs.declared.contexts.Role.TheVariants.{Whole}
use Rattle.x509_pkcs12.specs.Agree.{DataReadsAs, ReadsAs}
use Rattle.x509_pkcs12.specs.laws.Agree.{pfx_agrees}
use Rattle.x509_pkcs12.specs.AuthSafes.{AuthSafeValue, auth_safe_choice}
use Rattle.x509_pkcs12.specs.MacOctets.{mac_octets}
use Rattle.x509_pkcs12.specs.Pfxs.{PfxValue, pfx}
use Rattle.x509_pkcs12.specs.laws.Pfxs.{lawful_pfx}
use Rattle.pkcs12_ber.specs.ContentInfos.{content_info}
use Rattle.pkcs12_ber.specs.Files.{ReadsInDer, IsBerFile, HasNoReading, HasNoContents}
use Rattle.pkcs12_ber.specs.InDer.{IsSafeInDer}
use Rattle.pkcs12_ber.specs.Pfxs.{ber_pfx}
use Rattle.pkcs12_ber.proofs.Safes.{one_safe}

lawful_file : IsLawful (sequence ber_pfx.format)
lawful_file = lawful_sequence ber_pfx.law

-- the octets that the MAC covers are an element
safe_element : (o d : List ℕ) → IsSafeInDer o d → d ≡ o → IsElement IsTagByte o
safe_element o d p e = record { tag = 0x30; contents = _; is_tag = omega arith; is = sym e ∙ p.is; allowed = omega arith }

module _ (k : ℕ) where
  choice_to_raw : (b : List ℕ) (a : AuthSafeValue Octets) → ((o : List ℕ) → a ≡ inl o → IsElement IsTagByte o) → content_info.format.Reads k b a → (auth_safe_choice raw).components.Reads k b a
  choice_to_raw b (inl o) is s = (s.0, s.1, (s.2.0, s.2.1, (o, s.2.2.0, (refl, is o refl))))
  choice_to_raw b (inr x) is s = s

  choice_from_raw : (b : List ℕ) (a : AuthSafeValue Octets) → (auth_safe_choice raw).components.Reads k b a → content_info.format.Reads k b a
  choice_from_raw b (inl o) s = (s.0, s.1, (s.2.0, s.2.1, (s.2.2.1 ∙ ap (element 0x04) s.2.2.2.0, tt)))
  choice_from_raw b (inr x) s = s

  file_to_raw : (b : List ℕ) (w : PfxValue Octets) → ((o : List ℕ) → w.1.0 ≡ inl o → IsElement IsTagByte o) → (sequence ber_pfx.format).Reads k b w → (pfx raw).Reads k b w
  file_to_raw b w is s =
      let a = s.2.4 in
      (s.0, s.1, (s.2.0, s.2.1, s.2.2, s.2.3, (a.0, a.1, a.2, (a.3.0, a.3.1, choice_to_raw a.3.0 w.1.0 is a.3.2), a.4)))

  file_from_raw : (b : List ℕ) (w : PfxValue Octets) → (pfx raw).Reads k b w → (sequence ber_pfx.format).Reads k b w
  file_from_raw b w s =
      let a = s.2.4 in
      (s.0, s.1, (s.2.0, s.2.1, s.2.2, s.2.3, (a.0, a.1, a.2, (a.3.0, a.3.1, choice_from_raw a.3.0 w.1.0 a.3.2), a.4)))

mac_of : (w : PfxValue Octets) (o : List ℕ) → w.1.0 ≡ inl o → mac_octets w ≡ Some o
mac_of (n, (inl p, x)) o e = let f : p ≡ o = cc in ap Some f
mac_of (n, (inr p, x)) o e = absurd (let f : inr p ≡ inl o = e in cc)

module _ {V : Type 0} (F : Format V) (f : IsLawful F) where
  one_contents : (a : AuthSafeValue Octets) (v y : AuthSafeValue V) → DataReadsAs (ReadsInDer F) a v → DataReadsAs (ReadsInDer F) a y → v ≡ y
  one_contents (inl o) (inl v) (inl y) p q = ap inl (f.components.one_value 64 q.0 v y (subst (λ d. F.Reads 64 d v) (one_safe o p.0 q.0 p.1 q.1) p.2) q.2)
  one_contents (inl o) (inl v) (inr y) p q = absurd q
  one_contents (inl o) (inr v) y p q = absurd p
  one_contents (inr o) (inl v) y p q = absurd p
  one_contents (inr o) (inr v) (inl y) p q = absurd q
  one_contents (inr o) (inr v) (inr y) p q = ap inr (sym p ∙ q)

  one_value : (w : PfxValue Octets) (v y : PfxValue V) → ReadsAs (ReadsInDer F) w v → ReadsAs (ReadsInDer F) w y → v ≡ y
  one_value w v y p q =
      ap (λ n. (n, v.1)) (sym p.version ∙ q.version)
      ∙ ap (λ a. (y.0, (a, v.1.1))) (one_contents w.1.0 v.1.0 y.1.0 p.auth_safe q.auth_safe)
      ∙ ap (λ m. (y.0, (y.1.0, m))) (sym p.mac_data ∙ q.mac_data)

  same_octets : (b der : List ℕ) (w : PfxValue Octets) → IsBer 64 Whole b der → (sequence ber_pfx.format).Reads 64 der w → (x : PfxValue Octets) (y : PfxValue V) → IsBerFile F b x y → x ≡ w
  same_octets b der w p r x y q = lawful_file.components.one_value 64 der x w (subst (λ d. (sequence ber_pfx.format).Reads 64 d x) (one_der true 64 Whole b q.der der q.is_der p) q.reads) r

  -- a file has one reading
  pub one_reading : (b : List ℕ) (w x : PfxValue Octets) (v y : PfxValue V) → IsBerFile F b w v → IsBerFile F b x y → (w ≡ x) × (v ≡ y)
  one_reading b w x v y p q =
      let e : w ≡ x = same_octets b q.der x q.is_der q.reads w v p in
      (e, one_value x v y (subst (λ u. ReadsAs (ReadsInDer F) u v) e p.contents) q.contents)

  -- a file of which the contents are none
  pub no_reading : (b : List ℕ) (w : PfxValue Octets) → IsBerValueOf (sequence ber_pfx.format) b w → HasNoContents F w.1.0 → HasNoReading F b
  no_reading b w p none x y q =
      let e : x ≡ w = same_octets b p.der w p.is_der p.is_value.reads x y q in
      none y.1.0 (subst (λ u. DataReadsAs (ReadsInDer F) u.1.0 y.1.0) e q.contents.auth_safe)

  module _ (b : List ℕ) (w : PfxValue Octets) (v : PfxValue V) (l : length b < 2 ^ 64) (is : IsDer 64 b) (safes : (o : List ℕ) → mac_octets w ≡ Some o → IsSafeInDer o o) where
    fixed : IsBer 64 Whole b b
    fixed = der_is_fixed true 64 b l is

    safe_of : (o : List ℕ) → w.1.0 ≡ inl o → IsSafeInDer o o
    safe_of o e = safes o (mac_of w o e)

    contents_from : (a : AuthSafeValue Octets) (y : AuthSafeValue V) → ((o : List ℕ) → a ≡ inl o → IsSafeInDer o o) → DataReadsAs (ReadsInDer F) a y → DataReadsAs (F.Reads 64) a y
    contents_from (inl o) (inl y) s p = subst (λ d. F.Reads 64 d y) (one_safe o p.0 o p.1 (s o refl)) p.2
    contents_from (inl o) (inr y) s p = p
    contents_from (inr o) (inl y) s p = p
    contents_from (inr o) (inr y) s p = p

    contents_to : (a : AuthSafeValue Octets) (y : AuthSafeValue V) → ((o : List ℕ) → a ≡ inl o → IsSafeInDer o o) → DataReadsAs (F.Reads 64) a y → DataReadsAs (ReadsInDer F) a y
    contents_to (inl o) (inl y) s p = (o, s o refl, p)
    contents_to (inl o) (inr y) s p = p
    contents_to (inr o) (inl y) s p = p
    contents_to (inr o) (inr y) s p = p

    from_ber_file : IsBerFile F b w v → (pfx raw).Reads 64 b w × (pfx F).Reads 64 b v
    from_ber_file p =
        let r : (sequence ber_pfx.format).Reads 64 b w = subst (λ d. (sequence ber_pfx.format).Reads 64 d w) (one_der true 64 Whole b p.der b p.is_der fixed) p.reads in
        let t : (pfx raw).Reads 64 b w = file_to_raw 64 b w (λ o e. safe_element o o (safe_of o e) refl) r in
        let q : ReadsAs (F.Reads 64) w v = record { version = p.contents.version; auth_safe = contents_from w.1.0 v.1.0 safe_of p.contents.auth_safe; mac_data = p.contents.mac_data } in
        (t, (pfx_agrees F f 64 b v).1 (w, t, q))

    to_ber_file : (pfx raw).Reads 64 b w × (pfx F).Reads 64 b v → IsBerFile F b w v
    to_ber_file p =
        let h = (pfx_agrees F f 64 b v).0 p.1 in
        let e : h.0 ≡ w = (lawful_pfx raw lawful_raw).components.one_value 64 b h.0 w h.1 p.0 in
        let q : ReadsAs (F.Reads 64) w v = subst (λ u. ReadsAs (F.Reads 64) u v) e h.2 in
        record {
          der = b;
          is_der = fixed;
          reads = file_from_raw 64 b w p.0;
          contents = record { version = q.version; auth_safe = contents_to w.1.0 v.1.0 safe_of q.auth_safe; mac_data = q.mac_data };
        }

    pub der_file : IsBerFile F b w v ↔ ((pfx raw).Reads 64 b w × (pfx F).Reads 64 b v)
    der_file = (from_ber_file, to_ber_file)
