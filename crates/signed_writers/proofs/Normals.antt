-- Signers, algorithms and certificates are read as they were written.
use Rattle.std.specs.Prelude.{◌≡◌, cond, true, false, List, [], ◌∷◌, None, Some, map}
use Rattle.std.specs.List.{AllByRecursion, flat_map}
use Rattle.std.proofs.Common.{ap, inl, inr, refl, subst, sym, true≢false, ◌∙◌, ◌++◌, ⊎_elim}
use Rattle.std.proofs.lemmas.Bool.{cases_Bool}
use Rattle.std.proofs.lemmas.Bool.Decides.{eqb_tells}
use Rattle.asn1_choices.specs.laws.ByTag.{other_is, tagged_is}
use Rattle.asn1_core.specs.Asn1.{SEQUENCE}
use Rattle.asn1_core.specs.Der.{ElementOctets, IsElement, IsTagByte, NextIs}
use Rattle.attribute_writers.specs.Attributes.{ATTRIBUTE}
use Rattle.pkcs7_signed_crl.specs.Certificates.{IsSequenceTag, certificate_choices}
use Rattle.pkcs7_signed_crl.specs.SignerParts.{signer_identifier}
use Rattle.pkcs7_verifier.specs.KeyIdentifiers.{has_tag}
use Rattle.pkcs7_verifier.specs.Matches.{choice_octets}
use Rattle.signed_writers.proofs.SetTexts.{all_normal}
use Rattle.signer_ranges.specs.SignerRoutes.{ALGORITHM, SIGNER, SignerValue}
use Rattle.x509_base.specs.Algorithms.{algorithm_identifier}
use Rattle.x509_base.specs.Names.{name, name_value}

pub algorithm_normal : (a : algorithm_identifier.Value) → ALGORITHM.format.normal a ≡ a
algorithm_normal (o, (None, u)) = refl
algorithm_normal (o, (Some p, u)) = refl

pub algorithms_normal : (all : List algorithm_identifier.Value) → map ALGORITHM.format.normal all ≡ all
algorithms_normal [] = refl
algorithms_normal (a ∷ all) = ap (λ x. x ∷ map ALGORITHM.format.normal all) (algorithm_normal a) ∙ ap (λ l. a ∷ l) (algorithms_normal all)

set_normal : (vs : List name_value.Value) → map (SEQUENCE name_value).format.normal vs ≡ vs
set_normal [] = refl
set_normal ((o, (v, u)) ∷ vs) = ap (λ l. (o, (v, u)) ∷ l) (set_normal vs)

name_normal : (n : name.Value) → (SEQUENCE name).format.normal n ≡ n
name_normal [] = refl
name_normal (s ∷ n) = ap (λ x. x ∷ (SEQUENCE name).format.normal n) (set_normal s) ∙ ap (λ l. s ∷ l) (name_normal n)

pub identifier_normal : (i : signer_identifier.Value) → signer_identifier.format.normal i ≡ i
identifier_normal (inl (n, (s, u))) = ap (λ m. inl (m, (s, u))) (name_normal n)
identifier_normal (inr k) = refl

signer_normal : (s : SignerValue) → SIGNER.format.normal s ≡ s
signer_normal (n, (i, (d, (attrs, (a, (x, (unsigned, u))))))) =
    ap (λ y. (n, (y, (ALGORITHM.format.normal d, (map ATTRIBUTE.format.normal attrs, (ALGORITHM.format.normal a, (x, (map ATTRIBUTE.format.normal unsigned, u)))))))) (identifier_normal i)
    ∙ ap (λ y. (n, (i, (y, (map ATTRIBUTE.format.normal attrs, (ALGORITHM.format.normal a, (x, (map ATTRIBUTE.format.normal unsigned, u)))))))) (algorithm_normal d)
    ∙ ap (λ y. (n, (i, (d, (y, (ALGORITHM.format.normal a, (x, (map ATTRIBUTE.format.normal unsigned, u)))))))) (all_normal attrs)
    ∙ ap (λ y. (n, (i, (d, (attrs, (y, (x, (map ATTRIBUTE.format.normal unsigned, u)))))))) (algorithm_normal a)
    ∙ ap (λ y. (n, (i, (d, (attrs, (a, (x, (y, u)))))))) (all_normal unsigned)

pub signers_normal : (all : List SignerValue) → map SIGNER.format.normal all ≡ all
signers_normal [] = refl
signers_normal (s ∷ all) = ap (λ x. x ∷ map SIGNER.format.normal all) (signer_normal s) ∙ ap (λ l. s ∷ l) (signers_normal all)

-- a certificate, or another choice, as its octets tell
abbrev pub choice_of : ElementOctets → certificate_choices.Value
choice_of e = cond (has_tag 0x30 e) (inl e) (inr e)

choice_by : {A : Type 0} (f : certificate_choices.Value → A) (a : A) (e : ElementOctets) → f (inl e) ≡ a → f (inr e) ≡ a → f (choice_of e) ≡ a
choice_by f a e l r = ⊎_elim (λ t. ap (λ b. f (cond b (inl e) (inr e))) t ∙ l) (λ n. ap (λ b. f (cond b (inl e) (inr e))) n ∙ r) (cases_Bool (has_tag 0x30 e))

choice_normal : (e : ElementOctets) → certificate_choices.format.normal (choice_of e) ≡ choice_of e
choice_normal e = ⊎_elim (λ t. ap (λ b. certificate_choices.format.normal (cond b (inl e) (inr e))) t ∙ ap (λ b. cond b (inl e) (inr e)) (sym t)) (λ n. ap (λ b. certificate_choices.format.normal (cond b (inl e) (inr e))) n ∙ ap (λ b. cond b (inl e) (inr e)) (sym n)) (cases_Bool (has_tag 0x30 e))

pub choices_normal : (es : List ElementOctets) → map certificate_choices.format.normal (map choice_of es) ≡ map choice_of es
choices_normal [] = refl
choices_normal (e ∷ es) = ap (λ x. x ∷ map certificate_choices.format.normal (map choice_of es)) (choice_normal e) ∙ ap (λ l. choice_of e ∷ l) (choices_normal es)

pub choices_are : (es : List ElementOctets) → map choice_octets (map choice_of es) ≡ es
choices_are [] = refl
choices_are (e ∷ es) = ap (λ x. x ∷ map choice_octets (map choice_of es)) (choice_by choice_octets e e refl refl) ∙ ap (λ l. e ∷ l) (choices_are es)

pub choices_text : (es : List ElementOctets) → flat_map (λ v. v) es ≡ flat_map certificate_choices.format.text (map choice_of es)
choices_text [] = refl
choices_text (e ∷ es) =
    ap (λ x. x ++ flat_map (λ v. v) es) (sym (choice_by certificate_choices.format.text e e refl refl))
    ∙ ap (λ l. certificate_choices.format.text (choice_of e) ++ l) (choices_text es)

begins_so : (e : ElementOctets) → has_tag 0x30 e ≡ true → NextIs IsSequenceTag e
begins_so [] t = true≢false (sym t)
begins_so (x ∷ e) t = ⊎_elim (λ q. q.1) (λ n. absurd (true≢false (sym t ∙ n.0))) (eqb_tells x 0x30)

begins_otherwise : (e : ElementOctets) → has_tag 0x30 e ≡ false → NextIs IsSequenceTag e → ⊥
begins_otherwise [] n h = h
begins_otherwise (x ∷ e) n h = ⊎_elim (λ q. true≢false (sym q.0 ∙ n)) (λ q. q.1 h) (eqb_tells x 0x30)

choice_formed : (e : ElementOctets) → IsElement IsTagByte e → certificate_choices.format.IsWellFormed 64 (choice_of e)
choice_formed e i =
    ⊎_elim
    (λ t. subst (λ b. certificate_choices.format.IsWellFormed 64 (cond b (inl e) (inr e))) (sym t) ((tagged_is IsSequenceTag e).0 (begins_so e t, i)))
    (λ n. subst (λ b. certificate_choices.format.IsWellFormed 64 (cond b (inl e) (inr e))) (sym n) ((other_is IsSequenceTag e).0 (begins_otherwise e n, i)))
    (cases_Bool (has_tag 0x30 e))

pub choices_formed : (es : List ElementOctets) → AllByRecursion (IsElement IsTagByte) es → AllByRecursion (certificate_choices.format.IsWellFormed 64) (map choice_of es)
choices_formed [] h = tt
choices_formed (e ∷ es) h = (choice_formed e h.0, choices_formed es h.1)
