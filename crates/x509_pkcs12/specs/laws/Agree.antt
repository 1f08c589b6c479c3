-- Laws of `Agree.antt`.
use Rattle.std.specs.Prelude.{◌≡◌, ◌↔◌, ℕ, List, None, Some}
use Rattle.asn1_core.specs.Der.{Format, IsLawful, raw, IsElement, IsTagByte}
use Rattle.std.proofs.Common.{refl, sym, subst, inl, inr}
use Rattle.x509_pkcs12.specs.AuthSafes.{AuthSafeValue, auth_safe_choice}
use Rattle.x509_pkcs12.specs.MacOctets.{mac_octets, Rewritten}
use Rattle.x509_pkcs12.specs.laws.MacOctets.{data_covers, same_some}
use Rattle.x509_pkcs12.specs.Pfxs.{PfxValue, pfx}
use Rattle.x509_pkcs12.specs.Agree.{DataReadsAs, ReadsAs}

module _ {V : Type 0} (F : Format V) (f : IsLawful F) (k : ℕ) where
  any : (b : List ℕ) (v : V) → F.Reads k b v → IsElement IsTagByte b
  any b v r = let e = f.element k b v r in record { tag = e.tag; contents = e.contents; is_tag = e.is_tag; is = e.is; allowed = e.is_tag }

  components_to : (b : List ℕ) (v : AuthSafeValue V) → (auth_safe_choice F).components.Reads k b v → (w : AuthSafeValue (List ℕ)) × (auth_safe_choice raw).components.Reads k b w × DataReadsAs (F.Reads k) w v
  components_to b (inl v) s = (inl s.2.2.0, (s.0, s.1, (s.2.0, s.2.1, (s.2.2.0, s.2.2.1, (refl, any s.2.2.0 v s.2.2.2)))), s.2.2.2)
  components_to b (inr p) s = (inr p, s, refl)

  components_from : (b : List ℕ) (w : AuthSafeValue (List ℕ)) (v : AuthSafeValue V) → (auth_safe_choice raw).components.Reads k b w → DataReadsAs (F.Reads k) w v → (auth_safe_choice F).components.Reads k b v
  components_from b (inl octets) (inl v) s q = (s.0, s.1, (s.2.0, s.2.1, (s.2.2.0, s.2.2.1, subst (λ y. F.Reads k y v) (sym s.2.2.2.0) q)))
  components_from b (inl octets) (inr p) r q = absurd q
  components_from b (inr p) (inl v) r q = absurd q
  components_from b (inr p) (inr u) r q = subst (λ y. (auth_safe_choice F).components.Reads k b (inr y)) q r

  pfx_to : (b : List ℕ) (v : PfxValue V) → (pfx F).Reads k b v → (w : PfxValue (List ℕ)) × (pfx raw).Reads k b w × ReadsAs (F.Reads k) w v
  pfx_to b v s =
      let a = s.2.4 in
      let w = components_to a.3.0 v.1.0 a.3.2 in
      ((v.0, (w.0, v.1.1)), (s.0, s.1, (s.2.0, s.2.1, s.2.2, s.2.3, (a.0, a.1, a.2, (a.3.0, a.3.1, w.1), a.4))), record { version = refl; auth_safe = w.2; mac_data = refl })

  pfx_from : (b : List ℕ) (v : PfxValue V) → ((w : PfxValue (List ℕ)) × (pfx raw).Reads k b w × ReadsAs (F.Reads k) w v) → (pfx F).Reads k b v
  pfx_from b v h =
      let s = h.1 in
      let a = s.2.4 in
      subst (λ l. (pfx F).Reads k b (l, (v.1.0, v.1.1))) h.2.version
      (subst (λ l. (pfx F).Reads k b (h.0.0, (v.1.0, l))) h.2.mac_data
      (s.0, s.1, (s.2.0, s.2.1, s.2.2, s.2.3, (a.0, a.1, a.2, (a.3.0, a.3.1, components_from a.3.0 h.0.1.0 v.1.0 a.3.2 h.2.auth_safe), a.4))))

  pub pfx_agrees : (b : List ℕ) (v : PfxValue V) → (pfx F).Reads k b v ↔ ((w : PfxValue (List ℕ)) × (pfx raw).Reads k b w × ReadsAs (F.Reads k) w v)
  pfx_agrees b v = (pfx_to b v, pfx_from b v)

  rewritten : (w : PfxValue (List ℕ)) (v : PfxValue V) (octets : List ℕ) → ReadsAs (F.Reads k) w v → mac_octets w ≡ Some octets → Rewritten F k ((pfx F).text v) octets
  rewritten (n, (inl d, x)) (m, (inl u, y)) octets q e = record {
    written = F.text u;
    covers = data_covers F m u y;
    survives = subst (λ o. (F.text u ≡ o) ↔ F.IsNormal k o) (same_some d octets e) (f.components.fixed k d u q.auth_safe);
  }
  rewritten (n, (inl d, x)) (m, (inr u, y)) octets q e = absurd q.auth_safe
  rewritten (n, (inr p, x)) v octets q e = absurd (let g : None ≡ Some octets = e in cc)

  -- MAC octets survive a rewriting of the PFX exactly where they are normal, that is canonical DER
  pub mac_octets_rewritten : (lawful_raw_pfx : (b : List ℕ) (u w : PfxValue (List ℕ)) → (pfx raw).Reads k b u → (pfx raw).Reads k b w → u ≡ w)
      (b octets : List ℕ) (w : PfxValue (List ℕ)) (v : PfxValue V) → (pfx raw).Reads k b w → (pfx F).Reads k b v → mac_octets w ≡ Some octets → Rewritten F k ((pfx F).text v) octets
  mac_octets_rewritten one b octets w v r s e =
      let h = pfx_to b v s in
      rewritten w v octets (subst (λ x. ReadsAs (F.Reads k) x v) (one b h.0 w h.1 r) h.2) e
