-- Contents that begin with an object identifier, which says what follows it.
use Rattle.std.specs.Prelude.{◌⊎◌, ℕ, List}
use Rattle.asn1_core.specs.Asn1.{Asn1, Contents}
use Rattle.asn1_core.specs.Der.{Choice, IsLawfulChoice, known, lawful_known, otherwise, lawful_otherwise, IsOid, OidOctets}
use Rattle.asn1_choices.specs.Tables.{Table, IsTable, among}
use Rattle.asn1_choices.specs.laws.Tables.{lawful_among}

-- the alternatives in order, each for one object identifier or those of a table, and the last for any other
pub record ByOid : Type 1 where
  pub Value : Type 0
  pub choice : Choice Value
  pub law : IsLawfulChoice choice

abbrev pub if_oid : List ℕ → Contents → ByOid → ByOid
if_oid o c others = record {
  Value = c.Value ⊎ others.Value;
  choice = known o c.format others.choice;
  law = lawful_known o c.format others.choice c.law others.law;
}

abbrev pub if_in : {A : Type 0} {T : Table A} → IsTable T → Contents → ByOid → ByOid
if_in {A} {T} t c others = record {
  Value = (A × c.Value) ⊎ others.Value;
  choice = among T c.format others.choice;
  law = lawful_among T c.format others.choice t c.law others.law;
}

abbrev pub any_oid : Contents → ByOid
any_oid c = record { Value = OidOctets × c.Value; choice = otherwise IsOid c.format; law = lawful_otherwise IsOid c.format c.law }

abbrev pub chosen : ByOid → Contents
chosen alternatives = record { Value = alternatives.Value; format = alternatives.choice.components; law = alternatives.law.components }

-- one encoding
abbrev pub alone : Asn1 → Contents
alone a = record { Value = a.Value; format = a.format; law = a.law.components }
