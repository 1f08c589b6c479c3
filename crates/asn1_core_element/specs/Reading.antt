-- What a reader's calls leave, and the reading of one element.
use Rattle.std.specs.Prelude.{◌≡◌, ◌≢◌, ℕ, ◌+◌, ◌-◌, ◌≤◌, false, true, List, [], ◌++◌, length, Result, MatchResult, take, drop}
use Rattle.asn1_core_element.specs.Element.{head, element, IsElement, IsTagByte, HasNoFront}
use Rattle.asn1_core_element.specs.Position.{Position}
use Rattle.asn1_core_element.specs.declared.error.Error.{Error}
use Rattle.asn1_core_element.specs.declared.error.Error.TheVariants.{TooLong, Memory}

-- a header was taken off the front, and the contents whose length it gives are there
pub record HasReadHeader (old new : Position) (tag n : ℕ) : Type 0 where
  pub is_tag : IsTagByte tag
  pub split : old.left ≡ head tag n ++ new.left
  pub fits : n ≤ length new.left
  pub beyond : new.beyond ≡ old.beyond
  pub end : new.end ≡ old.end
  pub headers : new.headers ≡ old.headers + 1
  pub from_header : new.from_header ≡ length old.left + length old.beyond
  pub refused : new.refused ≡ false

-- no element begins the bytes that are left
pub record RefusedHeader (old new : Position) (e : Error) : Type 0 where
  pub long : e ≢ TooLong
  pub memory : e ≢ Memory
  pub none : HasNoFront old.left
  pub headers : new.headers ≡ old.headers + 1
  pub from_header : new.from_header ≡ length old.left + length old.beyond
  pub refused : new.refused ≡ true

abbrev pub HeaderGives : Position → Position → Result (ℕ × ℕ) Error → Type 0
HeaderGives old new r = MatchResult r (λ h. HasReadHeader old new h.0 h.1) (λ e. RefusedHeader old new e)

-- the first n bytes were taken
pub record HasReadContents (old new : Position) (n : ℕ) (contents : List ℕ) : Type 0 where
  pub contents_are : contents ≡ take n old.left
  pub left : new.left ≡ drop n old.left
  pub beyond : new.beyond ≡ old.beyond
  pub end : new.end ≡ old.end
  pub headers : new.headers ≡ old.headers
  pub from_header : new.from_header ≡ old.from_header
  pub refused : new.refused ≡ old.refused

-- an element was taken off the front, and these are its bytes
pub record HasReadWholeElement (old new : Position) (bytes : List ℕ) : Type 0 where
  pub is_element : IsElement IsTagByte bytes
  pub split : old.left ≡ bytes ++ new.left
  pub beyond : new.beyond ≡ old.beyond
  pub end : new.end ≡ old.end
  pub headers : new.headers ≡ old.headers + 1
  pub from_header : new.from_header ≡ length old.left + length old.beyond
  pub refused : new.refused ≡ false

abbrev pub WholeElementGives : {T : Type 0} → (T → List ℕ) → Position → Position → Result T Error → Type 0
WholeElementGives bytes old new r = MatchResult r (λ b. HasReadWholeElement old new (bytes b)) (λ e. RefusedHeader old new e)

-- the first n bytes are the open contents
pub record Opened (old new : Position) (n outer : ℕ) : Type 0 where
  pub outer_is : outer ≡ old.end
  pub left : new.left ≡ take n old.left
  pub beyond : new.beyond ≡ drop n old.left ++ old.beyond
  pub end : new.end + length old.left ≡ old.end + n
  pub headers : new.headers ≡ old.headers
  pub from_header : new.from_header ≡ old.from_header
  pub refused : new.refused ≡ old.refused

-- the open contents were read to their end, and those that end at outer are open
pub record Closed (old new : Position) (outer : ℕ) : Type 0 where
  pub done : old.left ≡ []
  pub left : new.left ≡ take (outer - old.end) old.beyond
  pub beyond : new.beyond ≡ drop (outer - old.end) old.beyond
  pub end : new.end ≡ outer
  pub headers : new.headers ≡ old.headers
  pub from_header : new.from_header ≡ old.from_header
  pub refused : new.refused ≡ false

-- bytes are left in the open contents
pub record RefusedEnd (old new : Position) (e : Error) : Type 0 where
  pub long : e ≢ TooLong
  pub memory : e ≢ Memory
  pub more : old.left ≢ []
  pub headers : new.headers ≡ old.headers
  pub from_header : new.from_header ≡ old.from_header
  pub refused : new.refused ≡ true

abbrev pub EndGives : Position → Position → ℕ → Result (Unit {0}) Error → Type 0
EndGives old new outer r = MatchResult r (λ _. Closed old new outer) (λ e. RefusedEnd old new e)

-- an element with that tag was taken off the front
pub record HasReadElement (tag : ℕ) (old new : Position) (contents : List ℕ) : Type 0 where
  pub split : old.left ≡ element tag contents ++ new.left
  pub beyond : new.beyond ≡ old.beyond
  pub end : new.end ≡ old.end
  pub headers : new.headers ≡ old.headers + 1
  pub from_header : new.from_header ≡ length old.left + length old.beyond
  pub refused : new.refused ≡ false

-- no element with that tag begins the bytes that are left
pub record RefusedElement (tag : ℕ) (old new : Position) (e : Error) : Type 0 where
  pub long : e ≢ TooLong
  pub memory : e ≢ Memory
  pub none : (contents rest : List ℕ) → old.left ≡ element tag contents ++ rest → ⊥
  pub headers : new.headers ≡ old.headers + 1

abbrev pub ElementGives : {T : Type 0} → (T → List ℕ) → ℕ → Position → Position → Result T Error → Type 0
ElementGives contents tag old new r = MatchResult r (λ c. HasReadElement tag old new (contents c)) (λ e. RefusedElement tag old new e)

-- an element with that tag is at the front, and its contents are open
pub record OpenedElement (tag : ℕ) (old new : Position) (outer : ℕ) : Type 0 where
  pub rest : List ℕ
  pub split : old.left ≡ element tag new.left ++ rest
  pub beyond : new.beyond ≡ rest ++ old.beyond
  pub outer_is : outer ≡ old.end
  pub end : new.end + length rest ≡ old.end
  pub headers : new.headers ≡ old.headers + 1
  pub from_header : new.from_header ≡ length old.left + length old.beyond
  pub refused : new.refused ≡ false

abbrev pub OpenGives : ℕ → Position → Position → Result ℕ Error → Type 0
OpenGives tag old new r = MatchResult r (λ outer. OpenedElement tag old new outer) (λ e. RefusedElement tag old new e)
