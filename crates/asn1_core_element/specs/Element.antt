-- An element (X.690, 8.1): a tag byte, the length of its contents in the fewest bytes, and the contents.
use Rattle.std.specs.Prelude.{◌≡◌, ℕ, ◌+◌, ◌%◌, ◌<◌, List, [], ◌∷◌, ◌++◌, ◌≤◌, length, drop, nat_lt, if◌then◌else◌}
use Rattle.std.specs.Int.Digits.{digits_of}

-- A length below 128 takes one byte. A longer one takes 128 and the number of its bytes, and these, the highest first.
unfoldable pub length_octets : ℕ → List ℕ
length_octets n = if nat_lt n 128 then n ∷ [] else (128 + length (digits_of 256 n)) ∷ digits_of 256 n

-- the header of n bytes of contents
unfoldable pub head : ℕ → ℕ → List ℕ
head tag n = tag ∷ length_octets n

-- a tag of one byte: its low five bits aren't all set
abbrev pub IsTagByte : ℕ → Type 0
IsTagByte tag = tag % 32 < 31

abbrev pub element : ℕ → List ℕ → List ℕ
element tag contents = head tag (length contents) ++ contents

-- that tag in place of the first byte
abbrev pub retag : ℕ → List ℕ → List ℕ
retag tag [] = []
retag tag (t ∷ b) = tag ∷ b

-- b is one element, and its tag is one of these
pub record IsElement (IsTag : ℕ → Type 0) (b : List ℕ) : Type 0 where
  pub tag : ℕ
  pub contents : List ℕ
  pub is_tag : IsTagByte tag
  pub is : b ≡ element tag contents
  pub allowed : IsTag tag

-- The bytes begin with an element of that tag and n bytes of contents, and its header takes so many bytes.
pub record IsFront (bytes : List ℕ) (tag n header_size : ℕ) : Type 0 where
  pub is_tag : IsTagByte tag
  pub header : bytes ≡ head tag n ++ drop header_size bytes
  pub size : length (head tag n) ≡ header_size
  pub fits : header_size + n ≤ length bytes

-- no element begins the bytes
abbrev pub HasNoFront : List ℕ → Type 0
HasNoFront bytes = (tag : ℕ) (contents rest : List ℕ) → IsTagByte tag → bytes ≡ element tag contents ++ rest → ⊥
