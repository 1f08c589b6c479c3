-- Why signed data that is given isn't written.
use Rattle.std.specs.Prelude.{◌≡◌, ◌≢◌, ◌⊎◌, ℕ, List}
use Rattle.asn1_core_element.specs.declared.error.Error.TheVariants.{TooLong, Memory}
use Rattle.attribute_writers.specs.Refusals.{IsFirstWithout, IsWithout}
use Rattle.cms_calls.specs.BuiltSigned.{HasSignerPart, IsContentOf}
use Rattle.call_values.specs.Given.{HasNone, IsPartOf}
use Rattle.cms_calls.specs.declared.built_signed.NoSigned.{NoSigned}
use Rattle.cms_calls.specs.declared.built_signed.NoSigned.TheVariants.{Part, NotWritten}
use Rattle.cms_calls.specs.declared.built_signed.SignedGiven.{SignedGiven}
use Rattle.cms_calls.specs.declared.built_signed.SignerGiven.{SignerGiven}
use Rattle.cms_calls.specs.declared.built_signed.WrongPart.{WrongPart}
use Rattle.cms_calls.specs.declared.built_signed.WrongPart.TheVariants as Wrong
use Rattle.signed_writers.specs.declared.checks.NotSigned.{NotSigned}
use Rattle.signed_writers.specs.declared.checks.SignedPart.{SignedPart}
use Rattle.signed_writers.specs.declared.checks.SignedPart.TheVariants.{ContentType, Content, Certificate, RevocationList, Signer, Whole}
use Rattle.signed_writers.specs.declared.signers.NotRead.{NotRead}
use Rattle.signed_writers.specs.declared.signers.SignerPart.{SignerPart}
use Rattle.signed_writers.specs.declared.signers.SignerPart.TheVariants.{SignedAttributes}

-- a range of the content's type, or of the content, isn't in the input
abbrev pub IsNoInfo : List ℕ → SignedGiven → WrongPart → Type 0
IsNoInfo b row wrong = ((wrong ≡ Wrong.ContentType) × HasNone (IsPartOf b row.content_type)) ⊎ ((wrong ≡ Wrong.Content) × HasNone (IsContentOf b row))

-- an item gives nothing, and is told as Told says, or memory was refused
abbrev pub IsNoItem : {X : Type 0} → (X → Type 0) → (ℕ → WrongPart → Type 0) → List X → NoSigned → Type 0
IsNoItem Gives Told xs (Part wrong) = (index : ℕ) × Told index wrong × IsFirstWithout Gives xs index
IsNoItem Gives Told xs (NotWritten e) = e ≡ Memory

-- the part of signed data that can't be written
abbrev pub wrong_part : SignedPart → ℕ → WrongPart
wrong_part ContentType index = Wrong.ContentType
wrong_part Content index = Wrong.Content
wrong_part Certificate index = Wrong.Certificate index
wrong_part RevocationList index = Wrong.Crl index
wrong_part Signer index = Wrong.Signer index SignedAttributes
wrong_part Whole index = Wrong.Content

abbrev pub IsPartAt : SignedPart → ℕ → WrongPart → Type 0
IsPartAt part index wrong = wrong ≡ wrong_part part index

-- a row doesn't give a part of a signer, or memory was refused
abbrev pub IsNoSignerIn : List ℕ → List SignerGiven → NoSigned → Type 0
IsNoSignerIn b rows (Part wrong) = (index : ℕ) × (part : SignerPart) × (wrong ≡ Wrong.Signer index part) × IsWithout (HasSignerPart b part) rows index
IsNoSignerIn b rows (NotWritten e) = e ≡ Memory

-- why no signer is read of a row: it doesn't give that part, unless memory was refused
abbrev pub IsUnreadIn : List ℕ → SignerGiven → NotRead → Type 0
IsUnreadIn b row wrong = (wrong.error ≢ TooLong) × (wrong.error ≢ Memory → HasSignerPart b wrong.part row → ⊥)

-- what is said of a signer with that index that isn't read
abbrev pub IsNoSigner : ℕ → NotRead → NoSigned → Type 0
IsNoSigner index wrong (Part part) = (wrong.error ≢ Memory) × (part ≡ Wrong.Signer index wrong.part)
IsNoSigner index wrong (NotWritten e) = e ≡ Memory

-- what is said where writing was refused
abbrev pub IsWhy : NotSigned → NoSigned → Type 0
IsWhy wrong (Part part) = (wrong.error ≢ TooLong) × (wrong.error ≢ Memory) × (part ≡ wrong_part wrong.part wrong.index)
IsWhy wrong (NotWritten e) = (e ≡ wrong.error) × ((e ≡ TooLong) ⊎ (e ≡ Memory))
