-- From what was written, or why nothing was, to what a call answers.
use Rattle.std.proofs.Common.{◌≡◌, ◌≢◌, ◌≤◌, ℕ, List, length, rules, arith, refl, ap}
use Rattle.std.specs.Prelude.{Option, None, Some, Result, Ok, Err, MatchResult}
use Rattle.asn1_core.specs.Der.{Format}
use Rattle.asn1_core_element.specs.declared.error.Error.{Error}
use Rattle.asn1_core_element.specs.declared.error.Error.TheVariants.{Malformed, Missing, Invalid, TooDeep, TooLong, Memory}
use Rattle.input_ranges.specs.Failures.{IsRefusalOf}
use Rattle.input_ranges.specs.declared.ranges.Refusal.{Refusal}
use Rattle.input_ranges.specs.declared.ranges.Refusal.TheVariants.{Refused, Part, NoRange}
use Rattle.call_values.specs.Statuses.{status_of, status_of_refusal, place_where, place_of, IsPlace, Puts, PutsFound, PutsNone, PutsSome, Reasons, SaysWhy, Writes, WritesAt}
use Rattle.call_values.specs.declared.status.TheConstants.{UNKNOWN_KIND, MALFORMED, TOO_LONG, NO_MEMORY, NO_ROOM, NO_RANGE, NO_PART}

pub bounds : (e : Error) → (MALFORMED ≤ status_of e) × (status_of e ≤ NO_MEMORY)
bounds Malformed = (omega arith, omega arith)
bounds Missing = (omega arith, omega arith)
bounds Invalid = (omega arith, omega arith)
bounds TooDeep = (omega arith, omega arith)
bounds TooLong = (omega arith, omega arith)
bounds Memory = (omega arith, omega arith)

long_is : (e : Error) → status_of e ≡ TOO_LONG → e ≡ TooLong
long_is Malformed h = absurd (omega (arith, h))
long_is Missing h = absurd (omega (arith, h))
long_is Invalid h = absurd (omega (arith, h))
long_is TooDeep h = absurd (omega (arith, h))
long_is TooLong h = refl
long_is Memory h = absurd (omega (arith, h))

-- what an error says
pub record IsError (W : Reasons) (e : Error) : Type 0 where
  pub none : e ≢ Memory → e ≢ TooLong → W.HasNone
  pub long : e ≡ TooLong → W.IsLong
  pub memory : W.TakesMemory

-- an error that isn't `TooLong`
pub short_error : (W : Reasons) (e : Error) → W.TakesMemory → e ≢ TooLong → (e ≢ Memory → W.HasNone) → IsError W e
short_error W e memory short none = record { none = λ m _. none m; long = λ l. absurd (short l); memory = memory }

pub error_says : (W : Reasons) (status : ℕ) (e : Error) → status ≡ status_of e → IsError W e → SaysWhy W status
error_says W status e is why =
    let range = bounds e in
    record {
      unknown = λ h. absurd (omega (arith, h, is, range.0));
      refused = λ low high. why.none
          (λ memory. let eight : status_of e ≡ NO_MEMORY = ap status_of memory in omega (arith, high, is, eight))
          (λ long. let seven : status_of e ≡ TOO_LONG = ap status_of long in omega (arith, high, is, seven));
      long = λ h. why.long (long_is e (omega (arith, h, is)));
      memory = λ _. why.memory;
      no_range = λ h. absurd (omega (arith, h, is, range.1));
      absent = λ h. absurd (omega (arith, h, is, range.1));
    }

-- the place of an error in the input b
error_place : (b : List ℕ) (e : Error) (at place status : ℕ) → at ≤ length b → place ≡ place_where e at → status ≡ status_of e → IsPlace b place status
error_place b Malformed at place status inside at_is is = search rules
error_place b Missing at place status inside at_is is = search rules
error_place b Invalid at place status inside at_is is = search rules
error_place b TooDeep at place status inside at_is is = search rules
error_place b TooLong at place status inside at_is is = search rules
error_place b Memory at place status inside at_is is = search rules

-- what a refusal of the input b says
abbrev pub IsRefusedFor : Reasons → List ℕ → Refusal → Type 0
IsRefusedFor W b (Refused e place) = IsError W e × (place ≤ length b)
IsRefusedFor W b (Part e place) = IsError W e × (place ≤ length b)
IsRefusedFor W b NoRange = W.LacksRange

-- a refusal of ranges
pub refused_ranges : {V : Type 0} (F : Format V) (W : Reasons) (b : List ℕ) (Lacks : Type 0) → W.TakesMemory → (((v : V) → F.Reads 64 b v → ⊥) → W.HasNone) → (Lacks → W.LacksRange) → (e : Refusal) → IsRefusalOf F b Lacks e → IsRefusedFor W b e
refused_ranges F W b Lacks memory none lacks (Refused e at) why = (short_error W e memory why.0.kind (λ m. none (why.0.none m)), why.1)
refused_ranges F W b Lacks memory none lacks (Part e at) why = absurd why
refused_ranges F W b Lacks memory none lacks NoRange why = lacks why

pub refusal_says : (W : Reasons) (b : List ℕ) (e : Refusal) (status : ℕ) → status ≡ status_of_refusal e → IsRefusedFor W b e → SaysWhy W status
refusal_says W b (Refused e at) status is why = error_says W status e is why.0
refusal_says W b (Part e at) status is why = error_says W status e is why.0
refusal_says W b NoRange status is why = search rules

pub refusal_place : (W : Reasons) (b : List ℕ) (e : Refusal) (place status : ℕ) → place ≡ place_of e → status ≡ status_of_refusal e → IsRefusedFor W b e → IsPlace b place status
refusal_place W b (Refused e at) place status at_is is why = error_place b e at place status why.1 at_is is
refusal_place W b (Part e at) place status at_is is why = error_place b e at place status why.1 at_is is
refusal_place W b NoRange place status at_is is why = search rules

-- a refusal is of a status that says why
pub refusal_bounds : (e : Refusal) (status : ℕ) → status ≡ status_of_refusal e → (MALFORMED ≤ status) × (status ≢ NO_ROOM) × (status ≤ NO_RANGE)
refusal_bounds (Refused e at) status is = let range = bounds e in (omega (arith, is, range.0), λ h. omega (arith, h, is, range.1), omega (arith, is, range.1))
refusal_bounds (Part e at) status is = let range = bounds e in (omega (arith, is, range.0), λ h. omega (arith, h, is, range.1), omega (arith, is, range.1))
refusal_bounds NoRange status is = search rules

-- a result of which less is said
pub said : {X E : Type 0} (P Q : X → Type 0) (S T : E → Type 0) → ((x : X) → P x → Q x) → ((e : E) → S e → T e) → (r : Result X E) → MatchResult r P S → MatchResult r Q T
said P Q S T f g (Ok x) h = f x h
said P Q S T f g (Err e) h = g e h

module _ {R : Type 0} (Has : List R → Type 0) (W : Reasons) where
  -- rows that were written, or for which there is no room
  pub puts : (rows old new : List R) (count status : ℕ) → Has rows → Puts rows old new count status → Writes Has W old new count status
  puts rows old new count status has p = search rules

  -- none were
  puts_none : (why : ℕ) (old new : List R) (count status : ℕ) → UNKNOWN_KIND ≤ why → why ≢ NO_ROOM → why ≤ NO_PART → SaysWhy W status → PutsNone why old new count status → Writes Has W old new count status
  puts_none why old new count status low room high says p = search rules

  refused : (b : List ℕ) (e : Refusal) (old new : List R) (count place status : ℕ) → IsRefusedFor W b e → PutsNone (status_of_refusal e) old new count status → place ≡ place_of e → WritesAt Has W b old new count place status
  refused b e old new count place status why p at_is =
      let range = refusal_bounds e (status_of_refusal e) refl in
      record {
        writes = puts_none (status_of_refusal e) old new count status (omega (arith, range.0)) range.1 (omega (arith, range.2)) (refusal_says W b e status p.is why) p;
        at = refusal_place W b e place status at_is p.is why;
      }

  -- what was found, by its rows, or why it wasn't
  pub found_written : {X : Type 0} (rows : X → List R) (b : List ℕ) (old new : List R) (count place status : ℕ) (found : Result X Refusal) → MatchResult found (λ x. Has (rows x)) (λ e. IsRefusedFor W b e) → PutsFound rows found old new count place status → WritesAt Has W b old new count place status
  found_written rows b old new count place status (Ok x) has p = record { writes = puts (rows x) old new count status has p.0; at = search rules }
  found_written rows b old new count place status (Err e) why p = refused b e old new count place status why p.0 p.1

  -- or that there is none
  abbrev pub HasOrLacks : {X : Type 0} → (X → List R) → Option X → Type 0
  HasOrLacks rows (Some x) = Has (rows x)
  HasOrLacks rows None = W.IsAbsent

  pub some_written : {X : Type 0} (rows : X → List R) (b : List ℕ) (old new : List R) (count place status : ℕ) (found : Result (Option X) Refusal) → MatchResult found (λ x. HasOrLacks rows x) (λ e. IsRefusedFor W b e) → PutsSome rows found old new count place status → WritesAt Has W b old new count place status
  some_written rows b old new count place status (Ok (Some x)) has p = record { writes = puts (rows x) old new count status has p.0; at = search rules }
  some_written rows b old new count place status (Ok None) absent p = search rules
  some_written rows b old new count place status (Err e) why p = refused b e old new count place status why p.0 p.1

  -- an error, where nothing was written
  pub error_written : (old : List R) (e : Error) (status : ℕ) → status ≡ status_of e → IsError W e → Writes Has W old old 0 status
  error_written old e status is why =
      let range = bounds e in
      let says : SaysWhy W status = error_says W status e is why in
      search rules

  pub error_written_at : (b : List ℕ) (old : List R) (e : Error) (at place status : ℕ) → at ≤ length b → place ≡ place_where e at → status ≡ status_of e → IsError W e → WritesAt Has W b old old 0 place status
  error_written_at b old e at place status inside at_is is why = record { writes = error_written old e status is why; at = error_place b e at place status inside at_is is }
