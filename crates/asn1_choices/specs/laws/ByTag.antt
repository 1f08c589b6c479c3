-- An element with a tag of some kind, or without one, told apart by its first byte.
use Rattle.std.proofs.Common.{◌↔◌, ℕ, List, [], ◌∷◌, sym, subst}
use Rattle.std.proofs.lemmas.List.{append-nil}
use Rattle.asn1_core.specs.Der.{IsElement, IsTagByte, NextIs, begins_next}
use Rattle.asn1_core_element.specs.Element.{head}

-- the element has a tag of T too
abbrev pub with_tag : {S : ℕ → Type 0} (T : ℕ → Type 0) {b : List ℕ} → (e : IsElement S b) → T e.tag → IsElement T b
with_tag T e h = record { tag = e.tag; contents = e.contents; is_tag = e.is_tag; is = e.is; allowed = h }

abbrev pub any_tag : {S : ℕ → Type 0} {b : List ℕ} → IsElement S b → IsElement IsTagByte b
any_tag e = with_tag IsTagByte e e.is_tag

pub not_both : (S : ℕ → Type 0) (b : List ℕ) → NextIs S b → NextIs (λ t. S t → ⊥) b → ⊥
not_both S [] n m = n
not_both S (t ∷ b) n m = m n

begins : (S : ℕ → Type 0) {b : List ℕ} → IsElement S b → NextIs S b
begins S {b} e = begins_next S b [] b e (sym (append-nil b))

tag_is : (S : ℕ → Type 0) {b : List ℕ} → (e : IsElement IsTagByte b) → NextIs S b → S e.tag
unfolding head
tag_is S {b} e n = subst (NextIs S) e.is n

-- an element with a tag of S
pub tagged_is : (S : ℕ → Type 0) (b : List ℕ) → (NextIs S b × IsElement IsTagByte b) ↔ IsElement S b
tagged_is S b = (
  λ p. with_tag S p.1 (tag_is S p.1 p.0),
  λ e. (begins S e, any_tag e),
)

-- an element without a tag of S
pub other_is : (S : ℕ → Type 0) (b : List ℕ) → ((NextIs S b → ⊥) × IsElement IsTagByte b) ↔ IsElement (λ t. S t → ⊥) b
other_is S b = (
  λ p. with_tag (λ t. S t → ⊥) p.1 (λ i. p.0 (begins S (with_tag S p.1 i))),
  λ e. (λ n. e.allowed (tag_is S (any_tag e) n), any_tag e),
)
