use Rattle.std.specs.Prelude.{◌≡◌, ◌≢◌, ◌⊎◌}
use Rattle.std.proofs.Common.{inl, inr, rules}
use Rattle.password_calls.proofs.WrongParts.{wrong_derivation, wrong_derivation_salt, wrong_pbkdf2}
use Rattle.password_calls.proofs.built.derivation_of.Goals as goal
use Rattle.password_calls.proofs.built.derivation_of.Goals.{then-row-ne0+else-row-ne0-2+else-row-eq0, else-row-ne0}

pub returns-in_err-pbkdf2_of : goal.returns-in_err-pbkdf2_of
returns-in_err-pbkdf2_of c =
    let both = wrong_pbkdf2 c.args.input.now c.args.row.now _ c.if-row-ne0.true c.if-row-ne0-2.true c.in_err-pbkdf2_of.ensures in
    search rules

pub returns-in_err-other_of : goal.returns-in_err-other_of
returns-in_err-other_of c =
    let row = c.args.row.now in
    let either : (row.is_pbkdf2 ≡ 0) ⊎ ((row.has_salt ≡ 0) × (row.has_derivation_parameters ≢ 0)) = elim c.if-row-ne0.branch [ then-row-ne0+else-row-ne0-2+else-row-eq0 w ↦ inr (w.if-row-ne0-2.false, w.if-row-eq0.false) | else-row-ne0 w ↦ inl w.if-row-ne0.false ] in
    let both = wrong_derivation c.args.input.now row _ either c.in_err-other_of.ensures in
    search rules

pub returns-then-row-eq0 : goal.returns-then-row-eq0
returns-then-row-eq0 c = wrong_derivation_salt c.args.input.now c.args.row.now c.if-row-ne0.true c.if-row-ne0-2.false c.if-row-eq0.true
