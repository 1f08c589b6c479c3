-- The parts of a MAC, by their numbers among all parts.
use Rattle.std.proofs.Common.{◌≡◌, ◌≤◌, ℕ, sym, ◌∙◌, arith}
use Rattle.std.specs.Prelude.{length}
use Rattle.std.proofs.lemmas.List.{get_or_default}
use Rattle.container_parts.specs.Parts.{parts}
use Rattle.container_parts.specs.declared.ContainerPart.{ContainerPart}
use Rattle.container_parts.specs.declared.ContainerPart.TheVariants.{Signed, Store, Mac}
use Rattle.container_parts.specs.declared.signed.SignedPart.{SignedPart}
use Rattle.container_parts.specs.declared.stores.StorePart.{StorePart}
use Rattle.part_calls.specs.Parts.{IsPartAt}
use Rattle.part_calls.specs.Macs.{NoMacPartAt}

-- a number is that of one part
same_part : (number : ℕ) (p q : ContainerPart) → IsPartAt number p → IsPartAt number q → p ≡ q
same_part number p q i j = i.1 ∙ get_or_default parts number p q i.0 ∙ sym j.1

pub of_signed : (number : ℕ) (s : SignedPart) → IsPartAt number (Signed s) → NoMacPartAt number
of_signed number s is p at = let e : Signed s ≡ Mac p = same_part number (Signed s) (Mac p) is at in cc

pub of_store : (number : ℕ) (s : StorePart) → IsPartAt number (Store s) → NoMacPartAt number
of_store number s is p at = let e : Store s ≡ Mac p = same_part number (Store s) (Mac p) is at in cc

pub past_all : (number : ℕ) → length parts ≤ number → NoMacPartAt number
past_all number past p at = omega (arith, past, at.0)
