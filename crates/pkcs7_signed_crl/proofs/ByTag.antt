-- An element, told apart by its tag.
use Rattle.std.proofs.Common.{◌≡◌, ◌≢◌, ℕ, List, ◌++◌, sym, subst, inl, inr}
use Rattle.asn1_choices.specs.laws.ByTag.{any_tag, tagged_is, other_is}
use Rattle.asn1_core.specs.Der.{raw, Position, HasRead, HasRefused, NextIs}
use Rattle.asn1_core_element.specs.declared.error.Error.{Error}
use Rattle.asn1_core_element.specs.declared.error.Error.TheVariants.{Memory}
use Rattle.pkcs7_signed_crl.specs.Certificates.{IsSequenceTag, certificate_choices}

module _ (k : ℕ) {old new : Position} where
  pub certificate_has_read : {c : List ℕ} → HasRead raw k old new c → NextIs IsSequenceTag c → HasRead certificate_choices.format k old new (inl c)
  certificate_has_read t n = record {
    taken = t.taken;
    split = t.split;
    reads = (t.reads.0, (tagged_is IsSequenceTag _).0 (subst (NextIs IsSequenceTag) (sym t.reads.0) n, t.reads.1));
    beyond = t.beyond;
    end = t.end;
    refused = t.refused;
    at_least = t.at_least;
    at_most = t.at_most;
  }

  pub other_has_read : {c : List ℕ} → HasRead raw k old new c → (NextIs IsSequenceTag c → ⊥) → HasRead certificate_choices.format k old new (inr c)
  other_has_read t n = record {
    taken = t.taken;
    split = t.split;
    reads = (t.reads.0, (other_is IsSequenceTag _).0 (λ m. n (subst (NextIs IsSequenceTag) t.reads.0 m), t.reads.1));
    beyond = t.beyond;
    end = t.end;
    refused = t.refused;
    at_least = t.at_least;
    at_most = t.at_most;
  }

  none_too : {e : Error} → HasRefused raw k old new e → e ≢ Memory → (taken rest : List ℕ) (v : certificate_choices.Value) → old.left ≡ taken ++ rest → certificate_choices.format.Reads k taken v → ⊥
  none_too g m taken rest (inl c) s r = g.none m taken rest c s (r.0, any_tag r.1)
  none_too g m taken rest (inr c) s r = g.none m taken rest c s (r.0, any_tag r.1)

  pub certificate_refused : {e : Error} → HasRefused raw k old new e → HasRefused certificate_choices.format k old new e
  certificate_refused {e} g = record { kind = g.kind; none = none_too {e = e} g; counts = g.counts; at_most = g.at_most }
