-- The values of what the parameters of PBES2 were read as.
use Rattle.asn1_core.specs.Der.{option_value}
use Rattle.password_ranges.specs.HeadValues.{pbes2_value, pbkdf2_value}
use Rattle.password_ranges.specs.Passwords.{Pbes2Value}
use Rattle.password_ranges.specs.declared.schemes.Pbes2Read.{Pbes2Read}

abbrev pub pbes2_read_value : Pbes2Read → Pbes2Value
pbes2_read_value x = record {
  params = pbes2_value x.params;
  pbkdf2 = option_value pbkdf2_value x.pbkdf2;
  vector = option_value (λ o. o.0.items) x.vector;
}
