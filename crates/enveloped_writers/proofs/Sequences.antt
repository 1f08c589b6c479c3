-- Octets that are a SEQUENCE, by the header at their front.
use Rattle.std.proofs.Common.{◌≡◌, ◌≢◌, ℕ, ◌+◌, List, [], length, drop, sym, ap, ◌∙◌, arith, length-append}
use Rattle.std.proofs.lemmas.List.{append-nil}
use Rattle.asn1_core_element.specs.Element.{element, head, IsFront, HasNoFront}
use Rattle.asn1_core_element.specs.laws.ElementLaws.{head_cut}

pub no_sequence : {b : List ℕ} → HasNoFront b → (c : List ℕ) → b ≡ element 0x30 c → ⊥
no_sequence {b} h c e = h 0x30 c [] (omega arith) (e ∙ sym (append-nil (element 0x30 c)))

header_of : {b : List ℕ} {tag n size : ℕ} → IsFront b tag n size → (c : List ℕ) → b ≡ element 0x30 c → (tag ≡ 0x30) × (size + n ≡ length b)
header_of {b} {tag} {n} {size} f c e =
    let r = head_cut tag 0x30 n (length c) (drop size b) c (sym f.header ∙ e) in
    (r.0, omega (arith, r.1, f.size, ap length r.2, ap length f.header, length-append (head tag n) (drop size b)))

module _ {b : List ℕ} {tag n size : ℕ} (f : IsFront b tag n size) where
  pub other_tag : tag ≢ 0x30 → (c : List ℕ) → b ≡ element 0x30 c → ⊥
  other_tag other c e = other (header_of f c e).0

  pub other_length : size + n ≢ length b → (c : List ℕ) → b ≡ element 0x30 c → ⊥
  other_length other c e = other (header_of f c e).1
