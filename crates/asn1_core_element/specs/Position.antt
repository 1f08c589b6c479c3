-- The position of a reader in its input.
use Rattle.std.specs.Prelude.{ℕ, Bool, List}

pub record Position : Type 0 where
  -- the bytes that are left in the open contents
  pub left : List ℕ
  -- the bytes after the open contents
  pub beyond : List ℕ
  -- where the open contents end, counted from the start of the input
  pub end : ℕ
  -- how many headers were read
  pub headers : ℕ
  -- how many bytes of the input there are from the last header on, which was read or refused; before the first, all
  pub from_header : ℕ
  -- a header, or the end of some contents, was refused
  pub refused : Bool
