-- Reading a choice of which one alternative holds a value one nesting level down.
use Rattle.std.proofs.Common.{◌≡◌, ℕ, List, inl, inr}
use Rattle.asn1_core.specs.Der.{IsTagByte, Position, HasReadElement, Choice, IsLawfulChoice, known, lawful_known, Format, IsLawful, IsLawfulComponents, HasRead, HasRefused, less, lawful_less, part, within, HasReadComponents, HasRefusedComponents, lawful_within, followed_by}
use Rattle.asn1_core_element.specs.declared.error.Error.{Error}
use Rattle.asn1_core_format.proofs.ComponentReads.{first_refused, rest_refused, part_has_read}
use Rattle.asn1_choices.specs.Chosen.{after_oid}
use Rattle.asn1_choices.proofs.OidReads.{choice_has_read, after_refused, here, here_refused, there, there_refused}

module _ {U V W : Type 0} (o : List ℕ) (tag : ℕ) (h : IsTagByte tag) (F : Format U) (f : IsLawful F) (R : Format V) (r : IsLawfulComponents R) (C : Choice W) (c : IsLawfulChoice C) where
  nested : IsLawful (within tag (less F))
  nested = lawful_within (less F) (lawful_less F f).components tag h

  pub lawful_nested : IsLawfulChoice (known o (part (within tag (less F)) R) C)
  lawful_nested = lawful_known o (part (within tag (less F)) R) C (followed_by nested r) c

  pub held_failed : (k : ℕ) {key : List ℕ} {old mid new : Position} {e : Error} → HasReadElement 0x06 old mid key → key ≡ o → HasRefused (within tag (less F)) k mid new e → HasRefusedComponents (known o (part (within tag (less F)) R) C).components k old new e
  held_failed k t q g =
      after_refused (known o (part (within tag (less F)) R) C) lawful_nested t
      (here_refused o (part (within tag (less F)) R) C c q (first_refused (within tag (less F)) R nested k g))

  pub rest_failed : (k : ℕ) {key : List ℕ} {old mid far new : Position} {u : U} {e : Error} → HasReadElement 0x06 old mid key → key ≡ o → HasRead (within tag (less F)) k mid far u → HasRefusedComponents R k far new e → HasRefusedComponents (known o (part (within tag (less F)) R) C).components k old new e
  rest_failed k t q s g =
      after_refused (known o (part (within tag (less F)) R) C) lawful_nested t
      (here_refused o (part (within tag (less F)) R) C c q (rest_refused (within tag (less F)) R nested k s g))

  pub both_has_read : (k : ℕ) {key : List ℕ} {old mid far new : Position} {u : U} {v : V} → HasReadElement 0x06 old mid key → key ≡ o → HasRead (within tag (less F)) k mid far u → HasReadComponents R k far new v → HasReadComponents (known o (part (within tag (less F)) R) C).components k old new (inl (u, v))
  both_has_read k t q s g =
      choice_has_read (known o (part (within tag (less F)) R) C) lawful_nested t
      (here o (part (within tag (less F)) R) C c q (part_has_read (within tag (less F)) R nested k s g))

  pub other_failed : (k : ℕ) {key : List ℕ} {old mid new : Position} {e : Error} → HasReadElement 0x06 old mid key → (key ≡ o → ⊥) → HasRefusedComponents (after_oid key C) k mid new e → HasRefusedComponents (known o (part (within tag (less F)) R) C).components k old new e
  other_failed k t n g =
      after_refused (known o (part (within tag (less F)) R) C) lawful_nested t
      (there_refused o (part (within tag (less F)) R) C c n g)

  pub other_has_read : (k : ℕ) {key : List ℕ} {old mid new : Position} {w : W} → HasReadElement 0x06 old mid key → (key ≡ o → ⊥) → HasReadComponents (after_oid key C) k mid new w → HasReadComponents (known o (part (within tag (less F)) R) C).components k old new (inr w)
  other_has_read k t n g =
      choice_has_read (known o (part (within tag (less F)) R) C) lawful_nested t
      (there o (part (within tag (less F)) R) C c n g)
