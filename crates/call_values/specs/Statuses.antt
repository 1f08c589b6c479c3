-- What calls say by their status, and what they write.
use Rattle.std.specs.Prelude.{◌≡◌, ◌≢◌, ◌≤◌, ◌<◌, ◌⊎◌, ℕ, List, ◌++◌, length, drop, Option, None, Some, Result, Ok, Err}
use Rattle.asn1_core_element.specs.declared.error.Error.{Error}
use Rattle.asn1_core_element.specs.declared.error.Error.TheVariants.{Malformed, Missing, Invalid, TooDeep, TooLong, Memory}
use Rattle.input_ranges.specs.declared.ranges.Refusal.{Refusal}
use Rattle.input_ranges.specs.declared.ranges.Refusal.TheVariants.{Refused, Part, NoRange}
use Rattle.call_values.specs.declared.status.TheConstants.{NORMAL, LOOSE, UNKNOWN_KIND, MALFORMED, MISSING, INVALID, TOO_DEEP, TOO_LONG, NO_MEMORY, NO_ROOM, NO_RANGE, NO_PART}

-- the status of an error
abbrev pub status_of : Error → ℕ
status_of Malformed = MALFORMED
status_of Missing = MISSING
status_of Invalid = INVALID
status_of TooDeep = TOO_DEEP
status_of TooLong = TOO_LONG
status_of Memory = NO_MEMORY

-- the status of a refusal
abbrev pub status_of_refusal : Refusal → ℕ
status_of_refusal (Refused e place) = status_of e
status_of_refusal (Part e place) = status_of e
status_of_refusal NoRange = NO_RANGE

-- its place: what is too long has none
abbrev pub place_where : Error → ℕ → ℕ
place_where TooLong place = 0
place_where Malformed place = place
place_where Missing place = place
place_where Invalid place = place
place_where TooDeep place = place
place_where Memory place = place

abbrev pub place_of : Refusal → ℕ
place_of (Refused e place) = place_where e place
place_of (Part e place) = place_where e place
place_of NoRange = 0

-- What a call says of what it is given, where it gives nothing. What is false says that it doesn't answer that status.
pub record Reasons : Type 1 where
  -- DER_UNKNOWN_KIND
  pub IsUnknown : Type 0
  -- DER_MALFORMED, DER_MISSING, DER_INVALID, DER_TOO_DEEP
  pub HasNone : Type 0
  -- DER_TOO_LONG
  pub IsLong : Type 0
  -- DER_NO_MEMORY, of which no more is said
  pub TakesMemory : Type 0
  -- DER_NO_RANGE
  pub LacksRange : Type 0
  -- DER_NO_PART
  pub IsAbsent : Type 0

-- which of that a status says
pub record SaysWhy (W : Reasons) (status : ℕ) : Type 0 where
  pub unknown : status ≡ UNKNOWN_KIND → W.IsUnknown
  pub refused : MALFORMED ≤ status → status ≤ TOO_DEEP → W.HasNone
  pub long : status ≡ TOO_LONG → W.IsLong
  pub memory : status ≡ NO_MEMORY → W.TakesMemory
  pub no_range : status ≡ NO_RANGE → W.LacksRange
  pub absent : status ≡ NO_PART → W.IsAbsent

-- there is none, or memory was refused
abbrev pub refusing : Type 0 → Reasons
refusing HasNone = record { IsUnknown = ⊥; HasNone = HasNone; IsLong = ⊥; TakesMemory = Unit {0}; LacksRange = ⊥; IsAbsent = ⊥ }

-- What a call answers that writes rows, or octets, of which Has says that they are what it is asked for.
pub record Writes {R : Type 0} (Has : List R → Type 0) (W : Reasons) (old new : List R) (count status : ℕ) : Type 0 where
  -- DER_NORMAL: they are at the front of the array, and the rest of it is as it was
  pub written : status ≡ NORMAL → (rows : List R) × Has rows × (count ≡ length rows) × (new ≡ rows ++ drop count old)
  -- DER_NO_ROOM: there are so many
  pub no_room : status ≡ NO_ROOM → (rows : List R) × Has rows × (count ≡ length rows) × (length old < count)
  pub why : SaysWhy W status
  pub no_count : status ≢ NORMAL → status ≢ NO_ROOM → count ≡ 0
  pub kept : status ≢ NORMAL → new ≡ old
  pub range : (status ≢ LOOSE) × (status ≤ NO_PART)

-- a place in the input b: at the refusals, and at DER_NO_MEMORY without use
pub record IsPlace (b : List ℕ) (place status : ℕ) : Type 0 where
  pub inside : place ≤ length b
  pub none : (status ≤ UNKNOWN_KIND) ⊎ ((status ≡ TOO_LONG) ⊎ (NO_ROOM ≤ status)) → place ≡ 0

-- what a call answers that writes a place of the input b too
pub record WritesAt {R : Type 0} (Has : List R → Type 0) (W : Reasons) (b : List ℕ) (old new : List R) (count place status : ℕ) : Type 0 where
  pub writes : Writes Has W old new count status
  pub at : IsPlace b place status

-- these rows were written to the front of an array, or need more room than it has
pub record Puts {R : Type 0} (rows old new : List R) (count status : ℕ) : Type 0 where
  pub size : count ≡ length rows
  pub put : status ≡ NORMAL → new ≡ rows ++ drop count old
  pub no_room : status ≡ NO_ROOM → (length old < count) × (new ≡ old)
  pub range : (status ≡ NORMAL) ⊎ (status ≡ NO_ROOM)

-- nothing was written
pub record PutsNone {R : Type 0} (why : ℕ) (old new : List R) (count status : ℕ) : Type 0 where
  pub is : status ≡ why
  pub no_count : count ≡ 0
  pub kept : new ≡ old

-- what is written of something that was found, by its rows
abbrev pub PutsFound : {X R : Type 0} → (X → List R) → Result X Refusal → List R → List R → ℕ → ℕ → ℕ → Type 0
PutsFound rows (Ok x) old new count place status = Puts (rows x) old new count status × (place ≡ 0)
PutsFound rows (Err e) old new count place status = PutsNone (status_of_refusal e) old new count status × (place ≡ place_of e)

-- or where nothing is there
abbrev pub PutsSome : {X R : Type 0} → (X → List R) → Result (Option X) Refusal → List R → List R → ℕ → ℕ → ℕ → Type 0
PutsSome rows (Ok (Some x)) old new count place status = Puts (rows x) old new count status × (place ≡ 0)
PutsSome rows (Ok None) old new count place status = PutsNone NO_PART old new count status × (place ≡ 0)
PutsSome rows (Err e) old new count place status = PutsNone (status_of_refusal e) old new count status × (place ≡ place_of e)
