-- Tables of known object identifiers, by their contents octets.
use Rattle.std.specs.Prelude.{◌≡◌, ℕ, Bool, true, false, List, [], ◌∷◌, ◌&&◌, Option, Some, None, if◌then◌else◌}
use Rattle.std.proofs.Common.{refl}
use Rattle.std.specs.Str.{bytes_eq}
use Rattle.asn1_core.specs.Der.{is_oid}
use Rattle.asn1_choices.specs.Tables.{Table}

-- the first of the alternatives with that object identifier
abbrev pub alternative_with : {A : Type 0} → (A → List ℕ) → List A → List ℕ → Option A
alternative_with oid_of [] o = None
alternative_with oid_of (a ∷ alternatives) o = if bytes_eq o (oid_of a) then Some a else alternative_with oid_of alternatives o

abbrev pub table : {A : Type 0} → (A → List ℕ) → List A → Table A
table oid_of alternatives = record { oid_of = oid_of; alternative_of = alternative_with oid_of alternatives }

abbrev pub is_listed : List (List ℕ) → List ℕ → Bool
is_listed [] o = false
is_listed (p ∷ oids) o = if bytes_eq o p then true else is_listed oids o

-- the object identifiers of a list, each of which is an alternative itself
abbrev pub Listed : List (List ℕ) → Type 0
Listed oids = (o : List ℕ) × (is_listed oids o ≡ true)

abbrev pub listed_where : (oids : List (List ℕ)) (o : List ℕ) (t : Bool) → is_listed oids o ≡ t → Option (Listed oids)
listed_where oids o true e = Some (o, e)
listed_where oids o false e = None

abbrev pub listing : (oids : List (List ℕ)) → Table (Listed oids)
listing oids = record { oid_of = λ a. a.0; alternative_of = λ o. listed_where oids o (is_listed oids o) refl }

-- each of them is the contents octets of an object identifier
abbrev pub are_oids : List (List ℕ) → Bool
are_oids [] = true
are_oids (o ∷ oids) = is_oid o && are_oids oids
