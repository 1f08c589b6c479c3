-- Parameters of an algorithm identifier, read by a type of their own.
use Rattle.std.specs.Prelude.{◌≡◌, Option, None, Some}
use Rattle.asn1_choices.specs.Tables.{Table}
use Rattle.asn1_core.specs.Der.{ElementOctets, Format, OidOctets}
use Rattle.asn1_core_format.specs.Whole.{IsValueOf}
use Rattle.x509_base.specs.Algorithms.{algorithm_identifier}

abbrev pub AlgorithmValue : Type 0
AlgorithmValue = algorithm_identifier.Value

abbrev pub oid_in : AlgorithmValue → OidOctets
oid_in w = w.0

abbrev pub parameters_in : AlgorithmValue → Option ElementOctets
parameters_in w = w.1.0

-- the parameters of the algorithm w read as p, and as nothing else
pub record AreParameters {P : Type 0} (G : Format P) (w : AlgorithmValue) (p : P) : Type 0 where
  pub element : ElementOctets
  pub is_element : parameters_in w ≡ Some element
  pub reads : IsValueOf G 64 element p

-- or there are no such parameters
abbrev pub AreParametersOrNone : {P : Type 0} → Format P → AlgorithmValue → Option P → Type 0
AreParametersOrNone {P} G w None = (p : P) → AreParameters G w p → ⊥
AreParametersOrNone {P} G w (Some p) = AreParameters G w p

-- the same of the algorithm with that object identifier
abbrev pub AreKnown : {P : Type 0} → OidOctets → Format P → AlgorithmValue → P → Type 0
AreKnown {P} oid G w p = (oid_in w ≡ oid) × AreParameters G w p

abbrev pub AreKnownOrNone : {P : Type 0} → OidOctets → Format P → AlgorithmValue → Option P → Type 0
AreKnownOrNone {P} oid G w None = (p : P) → AreKnown oid G w p → ⊥
AreKnownOrNone {P} oid G w (Some p) = AreKnown oid G w p

-- the same of an algorithm whose object identifier is that of a kind in a table
abbrev pub AreOfKind : {A P : Type 0} → Table A → Format P → AlgorithmValue → P → Type 0
AreOfKind {A} {P} T G w p = (kind : A) × (T.oid_of kind ≡ oid_in w) × AreParameters G w p

abbrev pub AreOfKindOrNone : {A P : Type 0} → Table A → Format P → AlgorithmValue → Option P → Type 0
AreOfKindOrNone {A} {P} T G w None = (p : P) → AreOfKind T G w p → ⊥
AreOfKindOrNone {A} {P} T G w (Some p) = AreOfKind T G w p
