use Rattle.std.proofs.lemmas.Result.{err_from_is_err_and}
use Rattle.x509_base.specs.Names.{name_value_value}
use Rattle.x509_text.proofs.Attributes.{short_written, dotted_written, long_type}
use Rattle.x509_text.proofs.names.NameValueInText.write.Goals as goal

pub returns-in_err-dotted-in-None : goal.returns-in_err-dotted-in-None
returns-in_err-dotted-in-None c =
    let none = rw (c.octets.ensures.value) at c.in-None.ensures in
    let p = err_from_is_err_and c.from_residual-in_err-dotted-in-None.result c.from_residual-in_err-dotted-in-None.ensures.1 in
    rw (p.1, p.2) (long_type (name_value_value c.args.self.now) none c.in_err-dotted-in-None.ensures)

pub returns-in_ok-put-in-Some : goal.returns-in_ok-put-in-Some
returns-in_ok-put-in-Some c =
    let named = rw (c.octets.ensures.value) at c.in-Some.ensures in
    let shown = rw (c.as_slice-value.ensures.value) at c.write_value.ensures in
    short_written c.args.text.now c.put_all.new.text c.put.new.text c.write_value.new.text (name_value_value c.args.self.now) c.in-Some.name.now c.in_ok-put_all-in-Some.ensures c.in_ok-put-in-Some.ensures c.write_value.result named shown

pub returns-in_ok-put-in-None : goal.returns-in_ok-put-in-None
returns-in_ok-put-in-None c =
    let none = rw (c.octets.ensures.value) at c.in-None.ensures in
    let shown = rw (c.as_slice-value.ensures.value) at c.write_hexadecimal.ensures in
    let put = rw (c.as_str.ensures.value) at c.in_ok-put_all-in-None.ensures in
    dotted_written c.args.text.now c.put_all-in-None.new.text c.put-in-None.new.text c.write_hexadecimal.new.text (name_value_value c.args.self.now) _ put c.in_ok-put-in-None.ensures c.write_hexadecimal.result none c.in_ok-dotted-in-None.ensures shown
