-- The words of the kinds of refusal.
use Rattle.std.specs.Prelude.{ℕ, List, codes}
use Rattle.asn1_core_element.specs.declared.error.Error.{Error}
use Rattle.asn1_core_element.specs.declared.error.Error.TheVariants.{Malformed, Missing, Invalid, TooDeep, TooLong, Memory}

abbrev pub word_of : Error → List ℕ
word_of Malformed = codes "malformed"
word_of Missing = codes "missing"
word_of Invalid = codes "invalid"
word_of TooDeep = codes "too deep"
word_of TooLong = codes "too long"
word_of Memory = codes "no memory"
