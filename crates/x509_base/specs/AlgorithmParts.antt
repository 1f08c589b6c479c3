-- What an algorithm identifier holds.
use Rattle.std.specs.Prelude.{Option}
use Rattle.std.proofs.Common.{rules}
use Rattle.asn1_core.specs.declared.raw.Asn1RawDer.{Asn1RawDer}
use Rattle.asn1_core.specs.Der.{SeesEqual, option_value, octets_of}
use Rattle.asn1_core_oid.specs.declared.oid.ObjectIdentifier.{ObjectIdentifier}
use Rattle.x509_base.specs.Algorithms.{algorithm_identifier}
use Rattle.x509_base.specs.contracts.algorithms.AlgorithmIdentifierPartialEq.TheImpl as AlgorithmEq
use Rattle.x509_base.specs.contracts.algorithms.RawAlgorithmIdentifierPartialEq.TheImpl as RawEq
use Rattle.x509_base.specs.declared.algorithms.AlgorithmIdentifier.{AlgorithmIdentifier}
use Rattle.x509_base.specs.declared.algorithms.RawAlgorithmIdentifier.{RawAlgorithmIdentifier}

abbrev pub algorithm_of : AlgorithmIdentifier → ObjectIdentifier
algorithm_of a = a.algorithm

abbrev pub parameters_of : AlgorithmIdentifier → Option Asn1RawDer
parameters_of a = a.parameters

-- one whose absent parameters are written as NULL, as one that is written as it is
abbrev pub parts_of : RawAlgorithmIdentifier → AlgorithmIdentifier
parts_of a = a.parts

-- the octets of its object identifier, and of its parameters
abbrev pub algorithm_identifier_value : AlgorithmIdentifier → algorithm_identifier.Value
algorithm_identifier_value a = (octets_of a.algorithm, (option_value (λ p. p.0.items) a.parameters, tt))

pub algorithm_identifier_equal : SeesEqual AlgorithmEq.ghosts.eq algorithm_identifier_value
algorithm_identifier_equal x y = search rules

abbrev pub raw_algorithm_identifier_value : RawAlgorithmIdentifier → algorithm_identifier.Value
raw_algorithm_identifier_value a = algorithm_identifier_value (parts_of a)

pub raw_algorithm_identifier_equal : SeesEqual RawEq.ghosts.eq raw_algorithm_identifier_value
raw_algorithm_identifier_equal x y = search rules
