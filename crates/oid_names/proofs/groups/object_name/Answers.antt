-- Made of asn1/object_identifiers.txt.
use Rattle.std.proofs.Common.{inl, inr, ⊎_elim}
use Rattle.oid_names.proofs.groups.object_name.Goals as goal

pub returns-in-Some : goal.returns-in-Some
returns-in-Some c = record { row = inl c.in-Some.ensures }

pub returns-in-Some-name : goal.returns-in-Some-name
returns-in-Some-name c = record { row = inr (inl c.in-Some-name.ensures) }

pub returns-in-Some-name-2 : goal.returns-in-Some-name-2
returns-in-Some-name-2 c = record { row = inr (inr (inl c.in-Some-name-2.ensures)) }

pub returns-in-Some-name-3 : goal.returns-in-Some-name-3
returns-in-Some-name-3 c = record { row = inr (inr (inr (inl c.in-Some-name-3.ensures))) }

pub returns-in-Some-name-4 : goal.returns-in-Some-name-4
returns-in-Some-name-4 c = record { row = inr (inr (inr (inr (inl c.in-Some-name-4.ensures)))) }

pub returns-in-Some-name-5 : goal.returns-in-Some-name-5
returns-in-Some-name-5 c = record { row = inr (inr (inr (inr (inr (inl c.in-Some-name-5.ensures))))) }

pub returns-in-Some-name-6 : goal.returns-in-Some-name-6
returns-in-Some-name-6 c = record { row = inr (inr (inr (inr (inr (inr (inl c.in-Some-name-6.ensures)))))) }

pub returns-in-Some-name-7 : goal.returns-in-Some-name-7
returns-in-Some-name-7 c = record { row = inr (inr (inr (inr (inr (inr (inr (inl c.in-Some-name-7.ensures))))))) }

pub returns-in-Some-name-8 : goal.returns-in-Some-name-8
returns-in-Some-name-8 c = record { row = inr (inr (inr (inr (inr (inr (inr (inr (inl c.in-Some-name-8.ensures)))))))) }

pub returns-in-Some-name-9 : goal.returns-in-Some-name-9
returns-in-Some-name-9 c = record { row = inr (inr (inr (inr (inr (inr (inr (inr (inr (inl c.in-Some-name-9.ensures))))))))) }

pub returns-in-Some-name-10 : goal.returns-in-Some-name-10
returns-in-Some-name-10 c = record { row = inr (inr (inr (inr (inr (inr (inr (inr (inr (inr (inl c.in-Some-name-10.ensures)))))))))) }

pub returns-in-Some-name-11 : goal.returns-in-Some-name-11
returns-in-Some-name-11 c = record { row = inr (inr (inr (inr (inr (inr (inr (inr (inr (inr (inr (inl c.in-Some-name-11.ensures))))))))))) }

pub returns-in-Some-name-12 : goal.returns-in-Some-name-12
returns-in-Some-name-12 c = record { row = inr (inr (inr (inr (inr (inr (inr (inr (inr (inr (inr (inr (inl c.in-Some-name-12.ensures)))))))))))) }

pub returns-in-Some-name-13 : goal.returns-in-Some-name-13
returns-in-Some-name-13 c = record { row = inr (inr (inr (inr (inr (inr (inr (inr (inr (inr (inr (inr (inr (inl c.in-Some-name-13.ensures))))))))))))) }

pub returns-in-Some-name-14 : goal.returns-in-Some-name-14
returns-in-Some-name-14 c = record { row = inr (inr (inr (inr (inr (inr (inr (inr (inr (inr (inr (inr (inr (inr (inl c.in-Some-name-14.ensures)))))))))))))) }

pub returns-in-Some-name-15 : goal.returns-in-Some-name-15
returns-in-Some-name-15 c = record { row = inr (inr (inr (inr (inr (inr (inr (inr (inr (inr (inr (inr (inr (inr (inr (inl c.in-Some-name-15.ensures))))))))))))))) }

pub returns-in-Some-name-16 : goal.returns-in-Some-name-16
returns-in-Some-name-16 c = record { row = inr (inr (inr (inr (inr (inr (inr (inr (inr (inr (inr (inr (inr (inr (inr (inr (inl c.in-Some-name-16.ensures)))))))))))))))) }

pub returns-in-Some-name-17 : goal.returns-in-Some-name-17
returns-in-Some-name-17 c = record { row = inr (inr (inr (inr (inr (inr (inr (inr (inr (inr (inr (inr (inr (inr (inr (inr (inr c.in-Some-name-17.ensures)))))))))))))))) }

pub returns : goal.returns
returns c = λ name it. (⊎_elim (c.in_default.ensures name) (⊎_elim (c.in_default-name.ensures name) (⊎_elim (c.in_default-name-2.ensures name) (⊎_elim (c.in_default-name-3.ensures name) (⊎_elim (c.in_default-name-4.ensures name) (⊎_elim (c.in_default-name-5.ensures name) (⊎_elim (c.in_default-name-6.ensures name) (⊎_elim (c.in_default-name-7.ensures name) (⊎_elim (c.in_default-name-8.ensures name) (⊎_elim (c.in_default-name-9.ensures name) (⊎_elim (c.in_default-name-10.ensures name) (⊎_elim (c.in_default-name-11.ensures name) (⊎_elim (c.in_default-name-12.ensures name) (⊎_elim (c.in_default-name-13.ensures name) (⊎_elim (c.in_default-name-14.ensures name) (⊎_elim (c.in_default-name-15.ensures name) (⊎_elim (c.in_default-name-16.ensures name) (c.in_default-name-17.ensures name)))))))))))))))))) it.row
