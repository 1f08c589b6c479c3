-- What a reader's fields are after a header.
use Rattle.std.proofs.Common.{◌≡◌, ℕ, ◌+◌, ◌-◌, ◌≤◌, List, ◌++◌, length, take, drop, sym, ap, ◌∙◌, arith, length-take, length-drop}
use Rattle.std.proofs.lemmas.List.{drop-take, take_rest, drop-drop}
use Rattle.asn1_core_element.specs.Element.{head, IsFront}
use Rattle.asn1_core_element.specs.laws.ElementLaws.{head_long}

pub unread : (rest : List ℕ) (room : ℕ) → room ≤ length rest → length rest ≡ length (take room rest) + length (drop room rest)
unread rest room within = omega (arith, within, length-take room rest, length-drop room rest)

module _ (rest : List ℕ) (room tag n size : ℕ) (within : room ≤ length rest) (f : IsFront (take room rest) tag n size) where
  pub sizes : (2 ≤ size) × (size + n ≤ room)
  sizes = (omega (arith, f.size, head_long tag n), omega (arith, f.fits, length-take room rest))

  after : drop size (take room rest) ≡ take (room - size) (drop size rest)
  after =
      let s = sizes in
      let e : room ≡ size + (room - size) = omega (arith, s.1) in
      ap (λ r. drop size (take r rest)) e ∙ drop-take size (room - size) rest

  pub split_at_header : take room rest ≡ head tag n ++ take (room - size) (take (length rest - size) (drop size rest))
  split_at_header = f.header ∙ ap (λ x. head tag n ++ x) (after ∙ ap (take (room - size)) (sym (take_rest rest size)))

  pub contents_fit : n ≤ length (take (room - size) (take (length rest - size) (drop size rest)))
  contents_fit =
      let e = ap length after ∙ ap (λ x. length (take (room - size) x)) (sym (take_rest rest size)) in
      omega (arith, e, length-drop size (take room rest), length-take room rest, (sizes).1, within)

  pub beyond_stays : drop (room - size) (take (length rest - size) (drop size rest)) ≡ drop room rest
  beyond_stays =
      let s = sizes in
      let e : size + (room - size) ≡ room = omega (arith, s.1) in
      ap (drop (room - size)) (take_rest rest size) ∙ drop-drop (room - size) size rest ∙ ap (λ i. drop i rest) e
