use Rattle.password_calls.proofs.PasswordRows.{parameters_refused}
use Rattle.password_calls.proofs.passwords.der_password_parameters.Goals as goal

pub returns-in-Err : goal.returns-in-Err
returns-in-Err c =
    parameters_refused c.args.holder c.args.input.now c.in-Some.holder c.in-Err.refusal c.place_of.result c.status_of_refusal.result
    c.in-Some.ensures c.place_of.ensures c.status_of_refusal.ensures c.in-Err.ensures
