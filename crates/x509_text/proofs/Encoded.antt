-- The text of a `Name` that was read.
use Rattle.std.proofs.Common.{◌≡◌, ℕ, List, Result, Ok, Err, MatchResult, ⊎_elim, sym, subst}
use Rattle.std.specs.Prelude.{String}
use Rattle.asn1_core.specs.Asn1.{SEQUENCE}
use Rattle.asn1_core.specs.Der.{IsValueOf}
use Rattle.asn1_core_element.specs.declared.error.Error.{Error}
use Rattle.asn1_core_element.specs.declared.error.Error.TheVariants.{TooLong, Memory, Invalid}
use Rattle.asn1_core_format.specs.Whole.{HasNoValue}
use Rattle.asn1_core_oid.specs.Refusal.{IsRefusal}
use Rattle.x509_base.specs.Names.{name}
use Rattle.x509_text.specs.Characters.{characters}
use Rattle.x509_text.specs.Encodings.{IsEncodedNameText, IsNameRefusal}
use Rattle.x509_text.specs.Names.{IsNameText, HasOne, HasLongType}

memory_kind : {e : Error} → e ≡ Memory → e ≡ TooLong → ⊥
memory_kind m t = cc

invalid_kind : {e : Error} → e ≡ Invalid → e ≡ TooLong → ⊥
invalid_kind i t = cc

pub none_read : {e : Error} {b : List ℕ} → HasNoValue (SEQUENCE name).format 64 b e → IsNameRefusal b e
none_read h = record { kind = h.kind; none = λ memory v r. absurd (h.none memory v r) }

pub name_read : {Z : Type 0} (b : List ℕ) (v : name.Value) (r : Result (String Z) Error) → IsValueOf (SEQUENCE name).format 64 b v → MatchResult r (λ t. IsNameText v (characters t)) (IsRefusal (HasOne (HasOne HasLongType) v)) → MatchResult r (λ t. IsEncodedNameText b (characters t)) (λ e. IsNameRefusal b e)
name_read b v (Ok t) is h = (v, is, h)
name_read b v (Err e) is h = record {
  kind = ⊎_elim (λ m. memory_kind m) (λ i. invalid_kind i.0) h;
  none = λ memory w reads. subst (HasOne (HasOne HasLongType)) (sym (is.only w reads)) (⊎_elim (λ m. absurd (memory m)) (λ i. i.1) h);
}
