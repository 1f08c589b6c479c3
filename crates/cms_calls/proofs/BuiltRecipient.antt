-- Why no recipient is written.
use Rattle.std.specs.Prelude.{ℕ, List}
use Rattle.std.proofs.Common.{inl, inr, subst, sym, ◌∙◌}
use Rattle.asn1_core.specs.Asn1.{SEQUENCE}
use Rattle.call_values.proofs.GivenParts.{same_part}
use Rattle.cms_calls.specs.BuiltRecipient.{GivesNoRecipient, HasParts, IsNameOf, IsNoRecipient, IsWhy, IsWrong, wrong_part}
use Rattle.call_values.specs.Read.{IsReadAs}
use Rattle.cms_calls.specs.declared.built_recipient.NoRecipient.{NoRecipient}
use Rattle.cms_calls.specs.declared.built_recipient.NoRecipient.TheVariants.{Part, NotWritten}
use Rattle.cms_calls.specs.declared.built_recipient.RecipientGiven.{RecipientGiven}
use Rattle.cms_calls.specs.declared.built_recipient.WrongRecipient.{WrongRecipient}
use Rattle.cms_calls.specs.declared.built_recipient.WrongRecipient.TheVariants as Wrong
use Rattle.enveloped_writers.specs.Recipients.{HasName, IsNotRecipient, IsRecipientBy, IsWrongPart, RECIPIENT}
use Rattle.enveloped_writers.specs.declared.recipients.NotRecipient.{NotRecipient}
use Rattle.enveloped_writers.specs.declared.recipients.Recipient.{Recipient}
use Rattle.enveloped_writers.specs.declared.recipients.RecipientName.{RecipientName}
use Rattle.enveloped_writers.specs.declared.recipients.RecipientName.TheVariants.{KeyPair, Kek}
use Rattle.enveloped_writers.specs.declared.recipients.RecipientPart.{RecipientPart}
use Rattle.enveloped_writers.specs.declared.recipients.RecipientPart.TheVariants as Parts
use Rattle.pkcs7_verifier.specs.Heads.{certificate_head}
use Rattle.signed_writers.specs.declared.signers.Identifier.TheVariants.{Certificate, Key}
use Rattle.signer_ranges.specs.SignerRoutes.{ALGORITHM}

-- a recipient has a name and an algorithm
is_named : (name : RecipientName) (algorithm key : List ℕ) (v : RECIPIENT.Value) → IsRecipientBy name algorithm key v → HasName name × IsReadAs ALGORITHM.format algorithm
is_named (KeyPair x) algorithm key (inl v) is = ((v.1.0, is.identifier), (v.1.1.0, is.algorithm))
is_named (KeyPair x) algorithm key (inr v) is = absurd is
is_named (Kek x) algorithm key (inl v) is = absurd is
is_named (Kek x) algorithm key (inr v) is = (tt, (v.1.1.0, is.algorithm))

module _ (b : List ℕ) (row : RecipientGiven) where
  -- of any name that the row gives the same is identified
  same_name : (x y : RecipientName) → IsNameOf b row x → IsNameOf b row y → HasName x → HasName y
  same_name (KeyPair (Certificate x)) (KeyPair (Certificate y)) is its (inl i, h) = (inl i, (h.0, subst (λ o. (SEQUENCE certificate_head).format.Reads 64 o h.0) (same_part b row.certificate y.now x.now its.2 is.2) h.1, h.2))
  same_name (KeyPair (Certificate x)) (KeyPair (Certificate y)) is its (inr k, h) = absurd h
  same_name (KeyPair (Certificate x)) (KeyPair (Key y)) is its h = absurd (its.1 is.1)
  same_name (KeyPair (Certificate x)) (Kek y) is its h = absurd (its.0 is.0)
  same_name (KeyPair (Key x)) (KeyPair (Certificate y)) is its h = absurd (is.1 its.1)
  same_name (KeyPair (Key x)) (KeyPair (Key y)) is its (inl i, h) = absurd h
  same_name (KeyPair (Key x)) (KeyPair (Key y)) is its (inr k, h) = (inr k, h ∙ same_part b row.key_identifier y.now x.now its.2 is.2)
  same_name (KeyPair (Key x)) (Kek y) is its h = absurd (its.0 is.0)
  same_name (Kek x) (KeyPair (Certificate y)) is its h = absurd (is.0 its.0)
  same_name (Kek x) (KeyPair (Key y)) is its h = absurd (is.0 its.0)
  same_name (Kek x) (Kek y) is its h = tt

  -- a part that is wrong is of nothing that can be written
  none_given : (wrong : WrongRecipient) → IsWrong b row wrong → GivesNoRecipient b row
  none_given Wrong.Identifier none x are v is = none (x.name, are.name, (is_named x.name x.algorithm.now x.key.now v is).0)
  none_given Wrong.Algorithm none x are v is = none (x.algorithm.now, are.algorithm, (is_named x.name x.algorithm.now x.key.now v is).1)
  none_given Wrong.Key none x are v is = none x.key.now are.key

  no_part : (wrong : WrongRecipient) → IsWrong b row wrong → IsNoRecipient b row (Part wrong)
  no_part wrong is = (is, none_given wrong is)

  -- what is given isn't written
  module _ (x : Recipient) (are : HasParts b row x) where
    refused : (part : RecipientPart) → IsWrongPart (HasName x.name) x.algorithm.now part → IsWrong b row (wrong_part part)
    refused Parts.Identifier none = λ g. none (same_name g.0 x.name g.1 are.name g.2)
    refused Parts.Algorithm none = λ g. none (subst (IsReadAs ALGORITHM.format) (same_part b row.algorithm x.algorithm.now g.0 are.algorithm g.1) g.2)
    refused Parts.Whole none = absurd none

    pub not_built : (w : NotRecipient) → IsNotRecipient x w → (no : NoRecipient) → IsWhy w no → IsNoRecipient b row no
    not_built w not (Part wrong) why = no_part wrong (subst (IsWrong b row) (sym why.2) (refused w.part (not.wrong why.0 why.1)))
    not_built w not (NotWritten e) (same, inl long) = inl (long, (x, are, not.long (sym same ∙ long)))
    not_built w not (NotWritten e) (same, inr memory) = inr memory
