-- The kinds that an object identifier says.
use Rattle.std.specs.Prelude.{◌≡◌, ◌⊎◌, ℕ, zero, suc, List, [], ◌∷◌}
use Rattle.std.proofs.Common.{refl, sym, ap, subst, ◌∙◌, inl, inr, ⊎_elim}
use Rattle.asn1_core.specs.Der.{OidOctets}
use Rattle.bag_ranges.specs.Bags.{IsKind}
use Rattle.pkcs12_bags.specs.Oids.{oid}
use Rattle.pkcs12_bags.specs.declared.parts.oids.TheConstants.{SAFE_CONTENTS_BAG}
use Rattle.bag_ranges.specs.Contained.{named_kind}
use Rattle.bag_ranges.specs.declared.ranges.BagKind.{BagKind}
use Rattle.bag_ranges.specs.declared.ranges.BagKind.TheVariants.{Key, ShroudedKey, Certificate, Crl, Secret, SafeContents, Other, Unread, OtherCertificate, OtherCrl}

abbrev last : List ℕ → ℕ
last [] = 0
last (n ∷ []) = n
last (n ∷ m ∷ ns) = last (m ∷ ns)

-- the kind that is registered under this number (RFC 7292, appendix D), and under any past the fifth the sixth
abbrev numbered : ℕ → BagKind
numbered zero = Unread
numbered (suc zero) = Key
numbered (suc (suc zero)) = ShroudedKey
numbered (suc (suc (suc zero))) = Certificate
numbered (suc (suc (suc (suc zero)))) = Crl
numbered (suc (suc (suc (suc (suc zero))))) = Secret
numbered (suc (suc (suc (suc (suc (suc n)))))) = SafeContents

module _ (id : OidOctets) where
  by_number : (k : BagKind) → IsKind k id → IsKind Other id ⊎ (named_kind k ≡ numbered (last id))
  by_number Key p = inr (ap (λ i. numbered (last i)) (sym p))
  by_number ShroudedKey p = inr (ap (λ i. numbered (last i)) (sym p))
  by_number Certificate p = inr (ap (λ i. numbered (last i)) (sym p))
  by_number OtherCertificate p = inr (ap (λ i. numbered (last i)) (sym p))
  by_number Crl p = inr (ap (λ i. numbered (last i)) (sym p))
  by_number OtherCrl p = inr (ap (λ i. numbered (last i)) (sym p))
  by_number Secret p = inr (ap (λ i. numbered (last i)) (sym p))
  by_number SafeContents p = inr (ap (λ i. numbered (last i)) (sym p))
  by_number Other p = inl p
  by_number Unread p = absurd p

  is_other : IsKind Other id → (k : BagKind) → IsKind k id → named_kind k ≡ Other
  is_other o Key p = absurd (o.0 p)
  is_other o ShroudedKey p = absurd (o.1 p)
  is_other o Certificate p = absurd (o.2 p)
  is_other o OtherCertificate p = absurd (o.2 p)
  is_other o Crl p = absurd (o.3 p)
  is_other o OtherCrl p = absurd (o.3 p)
  is_other o Secret p = absurd (o.4 p)
  is_other o SafeContents p = absurd (o.5 p)
  is_other o Other p = refl
  is_other o Unread p = absurd p

  -- an object identifier says one kind
  pub kinds_agree : (j k : BagKind) → IsKind j id → IsKind k id → named_kind j ≡ named_kind k
  kinds_agree j k p q =
      let both : IsKind Other id → named_kind j ≡ named_kind k = λ o. is_other o j p ∙ sym (is_other o k q) in
      ⊎_elim both (λ e. ⊎_elim both (λ f. e ∙ sym f) (by_number k q)) (by_number j p)

  to_named : (k : BagKind) → IsKind k id → IsKind (named_kind k) id
  to_named OtherCertificate p = p
  to_named k p = p

  from_named : (k : BagKind) → IsKind (named_kind k) id → IsKind k id
  from_named OtherCertificate p = p
  from_named k p = p

  pub is_named : (j k : BagKind) → named_kind j ≡ named_kind k → IsKind k id → IsKind j id
  is_named j k e p = from_named j (subst (λ n. IsKind n id) (sym e) (to_named k p))

named_alone : (k : BagKind) → named_kind k ≡ SafeContents → k ≡ SafeContents
named_alone SafeContents e = refl
named_alone k e = cc

-- an object identifier that says SafeContents says no other kind
pub is_safe : (id : OidOctets) (k : BagKind) → IsKind k id → id ≡ oid SAFE_CONTENTS_BAG → k ≡ SafeContents
is_safe id k p e = named_alone k (kinds_agree id k SafeContents p e)
