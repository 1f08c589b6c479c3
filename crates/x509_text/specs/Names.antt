-- A `Name` as text (RFC 4514, 2), by its characters.
use Rattle.std.specs.Prelude.{◌≡◌, ◌⊎◌, ℕ, List, [], ◌∷◌, ◌++◌}
use Rattle.std.specs.Str.{chars}
use Rattle.asn1_core_oid.specs.OidText.{IsTextOf, HasLongGroup}
use Rattle.x509_base.specs.Names.{name, name_value}
use Rattle.x509_text.specs.AttributeTypes.{short_names}
use Rattle.oid_names.specs.Tables.{IsNamed}
use Rattle.x509_text.specs.Values.{IsValueText, hexadecimal}

-- the separator, unless nothing is after it
abbrev pub before : {A : Type 0} → ℕ → List A → List ℕ
before separator [] = []
before separator (x ∷ xs) = separator ∷ []

-- the texts of the items, from the last one to the first, with the separator between two
abbrev pub IsBackwards : {A : Type 0} → (A → List ℕ → Type 0) → ℕ → List A → List ℕ → Type 0
IsBackwards IsText separator [] text = text ≡ []
IsBackwards IsText separator (x ∷ xs) text =
    (later : List ℕ) × (own : List ℕ) × IsBackwards IsText separator xs later × IsText x own × (text ≡ (later ++ before separator xs) ++ own)

-- the type has no short name
abbrev pub HasNoShortName : List ℕ → Type 0
HasNoShortName oid = (name : List ℕ) → ¬ (IsNamed short_names oid name)

-- 2.3: the type's short name, `=` and the value
pub record IsShortText (oid encoding text : List ℕ) : Type 0 where
  pub short : List ℕ
  pub value : List ℕ
  pub named : IsNamed short_names oid short
  pub shown : IsValueText encoding value
  pub is : text ≡ chars short ++ 61 ∷ value

-- 2.3: the dotted object identifier of a type without a short name, `=` and the value's encoding in hexadecimal
pub record IsDottedText (oid encoding text : List ℕ) : Type 0 where
  pub none : HasNoShortName oid
  pub dotted : List ℕ
  pub spelled : IsTextOf dotted oid
  pub is : text ≡ chars dotted ++ 61 ∷ hexadecimal encoding

abbrev pub IsAttributeText : name_value.Value → List ℕ → Type 0
IsAttributeText v text = IsShortText v.0 v.1.0 text ⊎ IsDottedText v.0 v.1.0 text

-- 2.1: `,` between RelativeDistinguishedNames, the last of which comes first; 2.2: `+` between the attributes of one, which
-- may come in any order, and come in this one too
abbrev pub IsNameText : name.Value → List ℕ → Type 0
IsNameText v text = IsBackwards (IsBackwards IsAttributeText 43) 44 v text

-- P holds of an item
abbrev pub HasOne : {A : Type 0} → (A → Type 0) → List A → Type 0
HasOne P [] = ⊥
HasOne P (x ∷ xs) = P x ⊎ HasOne P xs

-- a type without a short name has a group that doesn't fit 64 bits
abbrev pub HasLongType : name_value.Value → Type 0
HasLongType v = HasNoShortName v.0 × HasLongGroup v.0
