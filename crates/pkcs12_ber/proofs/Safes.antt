-- An AuthenticatedSafe in DER, and octets that are none.
use Rattle.std.proofs.Common.{◌≡◌, ◌≢◌, ℕ, true, List, [], ◌∷◌, refl, sym, ap, subst, ◌∙◌, inl, inr}
use Rattle.asn1_core.specs.Der.{Octets, element, HasNoValue, IsLawful, lawful_sequence, lawful_sequence_of}
use Rattle.asn1_core_element.specs.declared.error.Error.{Error}
use Rattle.asn1_core_element.specs.declared.error.Error.TheVariants.{Memory}
use Rattle.ber_der.specs.Ber.{IsBer, HasNoDer}
use Rattle.ber_der.specs.laws.BerLaws.{one_der}
use Rattle.ber_der.specs.declared.contexts.Role.TheVariants.{Whole}
use Rattle.x509_pkcs12.specs.AuthSafes.{AuthSafeValue}
use Rattle.pkcs12_ber.specs.ContentInfos.{content_info}
use Rattle.pkcs12_ber.specs.InDer.{safe, IsInfoInDer, AreInDer, IsSafeInDer, HasNoSafe, HasAppended, HaveNoDer}

abbrev Info : Type 0
Info = AuthSafeValue Octets

lawful_safe : IsLawful safe
lawful_safe = lawful_sequence_of (lawful_sequence content_info.law)

-- one DER of each content
one_info : (c d e : Info) → IsInfoInDer c d → IsInfoInDer c e → d ≡ e
one_info (inl o) (inl d) (inl e) p q = ap inl (one_der true 64 Whole o d e p q)
one_info (inl o) (inl d) (inr e) p q = absurd q
one_info (inl o) (inr d) e p q = absurd p
one_info (inr o) (inl d) e p q = absurd p
one_info (inr o) (inr d) (inl e) p q = absurd q
one_info (inr o) (inr d) (inr e) p q = ap inr (sym p ∙ q)

one_list : (cs ds es : List Info) → AreInDer cs ds → AreInDer cs es → ds ≡ es
one_list [] [] [] p q = refl
one_list [] [] (e ∷ es) p q = absurd q
one_list [] (d ∷ ds) es p q = absurd p
one_list (c ∷ cs) [] es p q = absurd p
one_list (c ∷ cs) (d ∷ ds) [] p q = absurd q
one_list (c ∷ cs) (d ∷ ds) (e ∷ es) p q = ap (λ x. x ∷ ds) (one_info c d e p.0 q.0) ∙ ap (λ xs. e ∷ xs) (one_list cs ds es p.1 q.1)

-- the contents of what the octets are in DER
module _ (octets outer : List ℕ) (is : IsBer 64 Whole octets outer) where
  pub reads_outer : (s : (der : List ℕ) × IsSafeInDer octets der) → safe.Reads 64 outer s.1.contents
  reads_outer s = subst (λ b. safe.Reads 64 b s.1.contents) (one_der true 64 Whole octets s.1.outer outer s.1.outer_is is) s.1.reads

  pub no_contents : (e : Error) → HasNoValue safe 64 outer e → e ≢ Memory → HasNoSafe octets
  no_contents e none m der s = none.none m s.contents (reads_outer (der, s))

  module _ (contents : List Info) (reads : safe.Reads 64 outer contents) where
    same_contents : (s : (der : List ℕ) × IsSafeInDer octets der) → s.1.contents ≡ contents
    same_contents s = lawful_safe.components.one_value 64 outer s.1.contents contents (reads_outer s) reads

    pub no_ders : HaveNoDer contents → HasNoSafe octets
    no_ders none der s = none s.ders (subst (λ cs. AreInDer cs s.ders) (same_contents (der, s)) s.each)

    pub safe_is : (out der : List ℕ) → HasAppended contents [] out → der ≡ element 0x30 out → IsSafeInDer octets der
    safe_is out der a e = record {
      outer = outer;
      outer_is = is;
      contents = contents;
      reads = reads;
      ders = a.ders;
      each = a.each;
      is = e ∙ ap (element 0x30) a.out;
    }

pub no_outer : (octets : List ℕ) (e : Error) → HasNoDer true 64 octets e → e ≢ Memory → HasNoSafe octets
no_outer octets e none m der s = none m s.outer s.outer_is

-- the octets are one AuthenticatedSafe in DER
pub one_safe : (octets d e : List ℕ) → IsSafeInDer octets d → IsSafeInDer octets e → d ≡ e
one_safe octets d e p q =
    let c : q.contents ≡ p.contents = same_contents octets p.outer p.outer_is p.contents p.reads (e, q) in
    p.is ∙ ap safe.text (one_list p.contents p.ders q.ders p.each (subst (λ cs. AreInDer cs q.ders) c q.each)) ∙ sym q.is
