-- Why no enveloped data are written.
use Rattle.std.specs.Prelude.{◌≡◌, ℕ, List, [], ◌∷◌}
use Rattle.std.specs.List.{AllZip}
use Rattle.std.proofs.Common.{inl, inr, refl, subst, sym, ◌∙◌}
use Rattle.asn1_core.specs.Der.{ElementOctets, IsOid}
use Rattle.call_values.proofs.GivenElements.{less, not_all, row_without, same_octets}
use Rattle.call_values.proofs.GivenParts.{same_part}
use Rattle.cms_calls.specs.BuiltEnveloped.{AreGivenBy, GivesNoEnveloped, IsNoEnveloped, IsNoRecipientAt, IsWhy, IsWrong, wrong_part}
use Rattle.cms_calls.specs.BuiltSigned.{GivesPart}
use Rattle.call_values.specs.Given.{IsPartOf}
use Rattle.call_values.specs.Read.{HasOne, IsReadAs}
use Rattle.cms_calls.specs.declared.built_enveloped.EnvelopedGiven.{EnvelopedGiven}
use Rattle.cms_calls.specs.declared.built_enveloped.NoEnveloped.{NoEnveloped}
use Rattle.cms_calls.specs.declared.built_enveloped.NoEnveloped.TheVariants.{Part, NotWritten}
use Rattle.cms_calls.specs.declared.built_enveloped.WrongEnveloped.{WrongEnveloped}
use Rattle.cms_calls.specs.declared.built_enveloped.WrongEnveloped.TheVariants as Wrong
use Rattle.call_values.specs.declared.ranges.Octets.{Octets}
use Rattle.enveloped_writers.specs.Elements.{IsRecipient}
use Rattle.enveloped_writers.specs.Enveloped as Written
use Rattle.enveloped_writers.specs.Enveloped.{attributes_in}
use Rattle.enveloped_writers.specs.declared.enveloped.Enveloped.{Enveloped}
use Rattle.enveloped_writers.specs.declared.enveloped.EnvelopedPart.{EnvelopedPart}
use Rattle.enveloped_writers.specs.declared.enveloped.EnvelopedPart.TheVariants as Parts
use Rattle.enveloped_writers.specs.declared.enveloped.NotEnveloped.{NotEnveloped}
use Rattle.signed_writers.specs.Signers.{AreAttributesIn}
use Rattle.signer_ranges.specs.SignerRoutes.{ALGORITHM}

module _ (b : List ℕ) (row : EnvelopedGiven) (parts : List Octets) where
  none_there : (rs : List Octets) (es : List ElementOctets) → AllZip (IsPartOf b) rs es → rs ≡ [] → es ≡ []
  none_there [] [] are e = refl
  none_there [] (x ∷ es) are e = absurd are
  none_there (r ∷ rs) es are e = absurd (let n : r ∷ rs ≡ [] = e in cc)

  none_given_of : (rs : List Octets) (es : List ElementOctets) → AllZip (IsPartOf b) rs es → es ≡ [] → rs ≡ []
  none_given_of [] es are e = refl
  none_given_of (r ∷ rs) [] are e = absurd are
  none_given_of (r ∷ rs) (x ∷ es) are e = absurd (let n : x ∷ es ≡ [] = e in cc)

  -- a part that is wrong is of nothing that can be written
  none_given : (wrong : WrongEnveloped) → IsWrong b row parts wrong → GivesNoEnveloped b row parts
  none_given Wrong.ContentType none x es are can = none x.content_type.now (are.info.content_type, can.content_type)
  none_given Wrong.Algorithm none x es are can = none (x.algorithm.now, are.info.algorithm, can.algorithm)
  none_given Wrong.Content none x es are can = none _ are.info.content
  none_given (Wrong.Recipient i) w x es are can = not_all (IsPartOf b) IsRecipient (GivesPart b IsRecipient) (λ r g. g) parts es i w are.recipients can.recipients
  none_given Wrong.Recipients none x es are can = can.some (none_there parts es are.recipients none)
  none_given Wrong.Attributes none x es are can = none (attributes_in x, are.info.attributes, can.attributes)

  no_part : (wrong : WrongEnveloped) → IsWrong b row parts wrong → IsNoEnveloped b row parts (Part wrong)
  no_part wrong is = (is, none_given wrong is)

  told : (wrong other : WrongEnveloped) → wrong ≡ other → IsWrong b row parts other → IsNoEnveloped b row parts (Part wrong)
  told wrong other same is = no_part wrong (subst (IsWrong b row parts) (sym same) is)

  -- the range of a recipient isn't in the input
  pub no_recipients : (no : NoEnveloped) → IsNoRecipientAt b parts no → IsNoEnveloped b row parts no
  no_recipients (Part wrong) (i, same, first) = told wrong (Wrong.Recipient i) same (less (λ part. HasOne (IsPartOf b part)) (GivesPart b IsRecipient) parts i (λ part g. (g.0, g.1)) first.one)
  no_recipients (NotWritten e) memory = inr memory

  -- what is given isn't written
  module _ (x : Enveloped) (es : List ElementOctets) (are : AreGivenBy b row parts x es) where
    refused : (part : EnvelopedPart) (i : ℕ) → Written.IsWrong x es part i → IsWrong b row parts (wrong_part part i)
    refused Parts.ContentType i n = λ y o. n.1 (subst IsOid (same_part b row.content_type x.content_type.now y are.info.content_type o.0) o.1)
    refused Parts.Algorithm i n = λ g. n.1 (subst (IsReadAs ALGORITHM.format) (same_part b row.algorithm x.algorithm.now g.0 are.info.algorithm g.1) g.2)
    refused Parts.Recipient i n = row_without (IsPartOf b) IsRecipient (same_part b) parts es i are.recipients n.one
    refused Parts.Recipients i n = none_given_of parts es are.recipients n.1
    refused Parts.Attributes i n = λ g. n.1 (subst (λ o. HasOne (AreAttributesIn o)) (same_octets b row.has_attributes row.attributes g.0 (attributes_in x) g.1 are.info.attributes) g.2)
    refused Parts.Whole i n = absurd n

    pub not_built : (w : NotEnveloped) → Written.IsNotEnveloped x es w → (no : NoEnveloped) → IsWhy w no → IsNoEnveloped b row parts no
    not_built w not (Part wrong) why = told wrong (wrong_part w.part w.index) why.2 (refused w.part w.index (not.wrong why.0 why.1))
    not_built w not (NotWritten e) (same, inl long) = inl (long, (x, es, are, not.long (sym same ∙ long)))
    not_built w not (NotWritten e) (same, inr memory) = inr memory
