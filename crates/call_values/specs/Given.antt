-- Parts that are given as ranges of an input b and as numbers.
use Rattle.std.specs.Prelude.{◌≡◌, ◌≢◌, ◌≤◌, ◌<◌, ◌+◌, ◌^◌, ℕ, List, length, take, drop, Option, None, Some}
use Rattle.asn1_core.specs.Der.{IsElement, IsOid, IsTagByte}
use Rattle.call_values.specs.declared.ranges.Octets.{Octets}

-- there is nothing of which P holds
abbrev pub HasNone : {X : Type 0} → (X → Type 0) → Type 0
HasNone {X} P = (x : X) → P x → ⊥

-- the octets of a range of the input
abbrev pub IsPartOf : List ℕ → Octets → List ℕ → Type 0
IsPartOf b r x = (r.start + r.len ≤ length b) × (x ≡ take r.len (drop r.start b))

-- the contents octets of an object identifier
abbrev pub IsOidOf : List ℕ → Octets → List ℕ → Type 0
IsOidOf b r x = IsPartOf b r x × IsOid x

-- an element
abbrev pub IsElementOf : List ℕ → Octets → List ℕ → Type 0
IsElementOf b r x = IsPartOf b r x × IsElement IsTagByte x

-- a number below 2^32
abbrev pub IsNumberOf : ℕ → ℕ → Type 0
IsNumberOf n m = (m ≡ n) × (n < 2 ^ 32)

-- where the flag isn't 0 there is one of which P holds, and otherwise none
abbrev pub IfGiven : {X : Type 0} → ℕ → (X → Type 0) → Option X → Type 0
IfGiven flag P None = flag ≡ 0
IfGiven flag P (Some x) = (flag ≢ 0) × P x
