use Rattle.x509_text.proofs.Strings.{value_shown}
use Rattle.x509_text.proofs.values.write_value.Goals as goal

pub returns-in-None : goal.returns-in-None
returns-in-None c = value_shown c.args.text.now c.write_hexadecimal.new.text _ c.write_hexadecimal.result (rw c.in-None.is at c.in_ok-string.ensures) c.write_hexadecimal.ensures
