-- A route to what follows an object identifier that isn't the known one.
use Rattle.std.specs.Prelude.{◌≡◌, ◌⊎◌, ◌+◌, ℕ, List, [], ◌∷◌, length}
use Rattle.std.proofs.Common.{refl, ap, subst, inl, inr, arith}
use Rattle.asn1_core.specs.Der.{Format, IsOid, OidOctets, known, otherwise, within}
use Rattle.asn1_located.specs.Finding.{Found}
use Rattle.asn1_located.specs.Places.{Route}
use Rattle.asn1_located.specs.Routes.{into}
use Rattle.asn1_located.specs.declared.walks.Step.TheVariants.{Inside, After}

module _ {V W : Type 0} (o : List ℕ) (R : Format V) (S : Format W) where
  -- it has some object identifier, and that body
  abbrev pub IsOther : V ⊎ (OidOctets × W) → W → Type 0
  IsOther v w = (type : OidOctets) × (v ≡ inr (type, w))

  pub other_found : (k : ℕ) (v : V ⊎ (OidOctets × W)) (w : W) → IsOther v w → (m : ℕ) (x : List ℕ) → (known o R (otherwise IsOid S)).components.Reads k x v → Found (After ∷ []) m x (λ y. S.Reads k y w)
  other_found k (inl v) w (type, e) m x s = absurd (let g : inl v ≡ inr (type, w) = e in cc)
  other_found k (inr p) w (type, e) m x s =
      let t = s.0 in
      let same : p ≡ (type, w) = (let g : inr p ≡ inr (type, w) = e in cc) in
      (m + length t.0, t.1, (m + length t.0, t.1, record { element = t.0; is = record { tag = 0x06; contents = p.0; is_tag = omega arith; is = t.3.0; allowed = tt }; split = t.2; place = refl }, (refl, refl)), subst (S.Reads k t.1) (ap (λ q. q.1) same) t.4)

  -- to what follows it, in a SEQUENCE
  abbrev pub other_body : Route (within 0x30 (known o R (otherwise IsOid S)).components).Reads S.Reads
  other_body = record {
    steps = Inside ∷ After ∷ [];
    IsPart = IsOther;
    found = λ k v w e m x s. into 0x30 (omega arith) (known o R (otherwise IsOid S)).components k m x v (After ∷ []) (λ y. S.Reads k y w) (λ n y t. other_found k v w e n y t) s;
  }
