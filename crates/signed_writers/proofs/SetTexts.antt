-- The encodings of attributes are written as a SET OF them.
use Rattle.std.specs.Prelude.{◌≡◌, ℕ, List, [], ◌∷◌, map, Result, Ok, Err, MatchResult}
use Rattle.std.proofs.Common.{ap, inl, inr, refl, subst, sym, ◌∙◌}
use Rattle.std.proofs.lemmas.List.{map-id}
use Rattle.std.proofs.lemmas.List.Folds.{flat_map-map}
use Rattle.asn1_core.specs.Asn1.{ANY, SET_OF}
use Rattle.asn1_core.specs.Der.{ElementOctets, element}
use Rattle.asn1_core_element.specs.declared.error.Error.{Error}
use Rattle.asn1_core_format.specs.laws.Whole.{value_of}
use Rattle.asn1_core_writers.specs.Texts.{IsWriteError}
use Rattle.asn1_sets.proofs.NotEncoded.{no_memory, no_memory_invalid, not_invalid}
use Rattle.attribute_writers.specs.Attributes.{ATTRIBUTE, attribute_text}
use Rattle.pkcs7_attributes.specs.SignedSets.{attributes_as_set}
use Rattle.signed_writers.specs.WrittenAttributes.{AreSignedAttributes, AreTexts, HasNoAttributes, HasNoSet}
use Rattle.signed_writers.specs.declared.attributes.SignedAttributes.{SignedAttributes}
use Rattle.x509_base.specs.Names.{attribute}

pub all_normal : (all : List attribute.Value) → map ATTRIBUTE.format.normal all ≡ all
all_normal [] = refl
all_normal ((o, (vs, u)) ∷ all) = ap (λ ws. (o, (ws, u)) ∷ map ATTRIBUTE.format.normal all) (map-id vs) ∙ ap (λ l. (o, (vs, u)) ∷ l) (all_normal all)

pub set_text : (all : List attribute.Value) → (SET_OF ANY).format.text (map attribute_text all) ≡ attributes_as_set.text all
set_text all = ap (λ x. element 0x31 x) (flat_map-map (λ v. v) attribute_text all)

module _ (given : SignedAttributes) where
  written : (texts : List ElementOctets) → AreTexts given texts → (t : List ℕ) → t ≡ (SET_OF ANY).format.text texts → AreSignedAttributes given t
  written texts h t e =
      let same : t ≡ attributes_as_set.text h.all = e ∙ ap (λ l. (SET_OF ANY).format.text l) h.texts_are ∙ set_text h.all in
      let law = (SET_OF ATTRIBUTE).law in
      let reads = subst (λ v. attributes_as_set.Reads 64 (attributes_as_set.text h.all) v) (all_normal h.all) (law.components.text_reads 64 h.all h.formed) in
      record {
        good = h.good;
        all = h.all;
        are = h.are;
        text_is = same;
        reads = value_of attributes_as_set 64 t h.all law (subst (λ b. attributes_as_set.Reads 64 b h.all) (sym same) reads);
      }

  not_written : (texts : List ElementOctets) → AreTexts given texts → (e : Error) → IsWriteError ((SET_OF ANY).format.text texts) e → HasNoSet given e
  not_written texts h e (inl m) = record { kind = inr (inr m); long = λ l. absurd (no_memory e m l); none = λ i. absurd (no_memory_invalid e m i) }
  not_written texts h e (inr l) = record {
    kind = inr (inl l.0);
    long = λ _. inr ((SET_OF ANY).format.text texts, written texts h ((SET_OF ANY).format.text texts) refl, l.1);
    none = λ i. absurd (not_invalid e i l.0);
  }

  pub set_result : {A : Type 0} (items : A → List ℕ) (texts : List ElementOctets) → AreTexts given texts → (r : Result A Error) → MatchResult r (λ t. items t ≡ (SET_OF ANY).format.text texts) (λ e. IsWriteError ((SET_OF ANY).format.text texts) e) → MatchResult r (λ t. AreSignedAttributes given (items t)) (λ e. HasNoSet given e)
  set_result items texts h (Ok t) w = written texts h (items t) w
  set_result items texts h (Err e) w = not_written texts h e w

  pub no_set : (e : Error) → HasNoAttributes given e → HasNoSet given e
  no_set e h = record { kind = h.kind; long = λ l. inl (h.long l); none = h.none }
