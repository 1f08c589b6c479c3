-- The last alternative of a choice of algorithms: any object identifier that no earlier alternative has, with any
-- parameters or none, as in an algorithm identifier. By itself it is an algorithm identifier that is read and written so.
use Rattle.std.specs.Prelude.{◌++◌}
use Rattle.std.proofs.Common.{refl, ap, ◌∙◌, subst}
use Rattle.asn1_core.specs.Asn1.{Contents}
use Rattle.asn1_core.specs.Der.{Choice, Heads, IsLawfulChoice, loosened, lawful_loosened_components}
use Rattle.asn1_choices.specs.ByOid.{ByOid, chosen}
use Rattle.x509_base.specs.Algorithms.{algorithm_identifier, null_written}
use Rattle.x509_base.specs.laws.AlgorithmLaws.{null_loosening}

abbrev pub other : Choice algorithm_identifier.Value
other = record { components = loosened algorithm_identifier.format null_written; oid_of = λ v. v.0 }

pub lawful_other : IsLawfulChoice other
lawful_other = record {
  components = lawful_loosened_components algorithm_identifier.format algorithm_identifier.law null_written null_loosening;
  heads = λ k b v s. subst (λ a. Heads a.0 b) s.2 (s.1.1, s.1.2 ∙ ap (λ x. x ++ s.1.1) s.1.3.0);
  same_oid = λ v. refl;
}

abbrev pub other_algorithm : ByOid
other_algorithm = record { Value = algorithm_identifier.Value; choice = other; law = lawful_other }

abbrev pub raw_algorithm_identifier : Contents
raw_algorithm_identifier = chosen other_algorithm
