use Rattle.std.proofs.Common.{rules}
use Rattle.password_calls.proofs.WrongParts.{wrong_other, wrong_pbes1, wrong_pbes2, wrong_pkcs12, wrong_scheme}
use Rattle.password_calls.specs.WrongParts.{IsScheme}
use Rattle.password_calls.specs.declared.built.Scheme.TheVariants as Schemes
use Rattle.password_calls.proofs.built.algorithm_of.Goals as goal

pub returns-in_err-salted_of-in-Some-Pbes1 : goal.returns-in_err-salted_of-in-Some-Pbes1
returns-in_err-salted_of-in-Some-Pbes1 c =
    let said : IsScheme c.args.row.now Schemes.Pbes1 = search rules in
    let both = wrong_pbes1 c.args.input.now c.args.row.now _ said c.in_err-salted_of-in-Some-Pbes1.ensures in
    search rules

pub returns-in_err-salted_of-in-Some-Pkcs12 : goal.returns-in_err-salted_of-in-Some-Pkcs12
returns-in_err-salted_of-in-Some-Pkcs12 c =
    let said : IsScheme c.args.row.now Schemes.Pkcs12 = search rules in
    let both = wrong_pkcs12 c.args.input.now c.args.row.now _ said c.in_err-salted_of-in-Some-Pkcs12.ensures in
    search rules

pub returns-in_err-pbes2_of-in-Some-Pbes2 : goal.returns-in_err-pbes2_of-in-Some-Pbes2
returns-in_err-pbes2_of-in-Some-Pbes2 c =
    let said : IsScheme c.args.row.now Schemes.Pbes2 = search rules in
    let both = wrong_pbes2 c.args.input.now c.args.row.now _ said c.in_err-pbes2_of-in-Some-Pbes2.ensures in
    search rules

pub returns-in_err-other_of-in-Some-Other : goal.returns-in_err-other_of-in-Some-Other
returns-in_err-other_of-in-Some-Other c =
    let said : IsScheme c.args.row.now Schemes.Other = search rules in
    let both = wrong_other c.args.input.now c.args.row.now _ said c.in_err-other_of-in-Some-Other.ensures in
    search rules

pub returns-in-None : goal.returns-in-None
returns-in-None c = wrong_scheme c.args.input.now c.args.row.now c.in-None.ensures
