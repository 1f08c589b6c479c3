-- The text of an encoding.
use Rattle.std.specs.Prelude.{◌≢◌, ℕ, List}
use Rattle.asn1_core.specs.Asn1.{SEQUENCE}
use Rattle.asn1_core.specs.Der.{IsValueOf}
use Rattle.asn1_core_element.specs.declared.error.Error.{Error}
use Rattle.asn1_core_element.specs.declared.error.Error.TheVariants.{TooLong, Memory}
use Rattle.x509_base.specs.Names.{name}
use Rattle.x509_text.specs.Names.{IsNameText, HasOne, HasLongType}

-- the text of the `Name` that b encodes
abbrev pub IsEncodedNameText : List ℕ → List ℕ → Type 0
IsEncodedNameText b text = (v : name.Value) × IsValueOf (SEQUENCE name).format 64 b v × IsNameText v text

-- b encodes no `Name`, or one with a type that has no text
abbrev pub HasNoNameText : List ℕ → Type 0
HasNoNameText b = (v : name.Value) → (SEQUENCE name).format.Reads 64 b v → HasOne (HasOne HasLongType) v

-- memory was refused, or b has no text
pub record IsNameRefusal (b : List ℕ) (e : Error) : Type 0 where
  pub kind : e ≢ TooLong
  pub none : e ≢ Memory → HasNoNameText b
