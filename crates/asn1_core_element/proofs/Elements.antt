-- Reading one element.
use Rattle.std.proofs.Common.{◌≡◌, ℕ, ◌-◌, ◌≤◌, List, ◌++◌, length, take, drop, sym, ap, subst, ◌∙◌, arith, append_assoc, length-append, length-take, length-drop}
use Rattle.asn1_core_element.specs.Element.{head, element}
use Rattle.asn1_core_element.specs.laws.ElementLaws.{head_cut}
use Rattle.asn1_core_element.specs.Position.{Position}
use Rattle.asn1_core_element.specs.Reading.{HasReadHeader, HasReadContents, HasReadWholeElement, Opened, RefusedElement, OpenedElement}
use Rattle.std.proofs.lemmas.List.{take-append-drop, length-take-le}
use Rattle.std.proofs.Math.Seq.{take-append_seam}
use Rattle.asn1_core_element.specs.declared.error.Error.TheVariants.{Invalid}

pub other_tag : {tag : ℕ} {old new : Position} {found n : ℕ} → HasReadHeader old new found n → (found ≡ tag → ⊥) → RefusedElement tag old new Invalid
other_tag {tag} {old} {new} {found} {n} h d = record {
  long = λ p. cc;
  memory = λ p. cc;
  none = λ c r s. d (head_cut found tag n (length c) new.left (c ++ r) (sym h.split ∙ s ∙ append_assoc (head tag (length c)) c r)).0;
  headers = h.headers;
}

pub same_tag : {tag : ℕ} {old new : Position} {found n : ℕ} → HasReadHeader old new found n → found ≡ tag → HasReadHeader old new tag n
same_tag {tag} {old} {new} {found} {n} h e = subst (λ t. HasReadHeader old new t n) e h

module _ {old mid new : Position} {tag n : ℕ} {c : List ℕ} (h : HasReadHeader old mid tag n) (t : HasReadContents mid new n c) where
  contents_length : length c ≡ n
  contents_length = ap length t.contents_are ∙ length-take n mid.left ∙ omega (arith, h.fits)

  whole_split : old.left ≡ element tag c ++ new.left
  whole_split =
      h.split ∙ ap (λ i. head tag i ++ mid.left) (sym contents_length)
      ∙ ap (λ x. head tag (length c) ++ x) (sym (take-append-drop n mid.left) ∙ ap (λ x. x ++ drop n mid.left) (sym t.contents_are) ∙ ap (λ x. c ++ x) (sym t.left))
      ∙ sym (append_assoc (head tag (length c)) c new.left)

  -- the element is what lies between where its header begins and where its contents end
  pub whole : (rest : List ℕ) (room left : ℕ) → take room rest ≡ old.left → room ≤ length rest → length new.left ≡ left → HasReadWholeElement old new (take (room - left) rest)
  whole rest room left is_old within is_new =
      let e : room - left ≡ length (element tag c) = omega (arith, ap length whole_split, length-append (element tag c) new.left, ap length is_old, length-take-le room rest within, is_new) in
      let taken : take (room - left) rest ≡ element tag c =
      ap (λ i. take i rest) e
      ∙ ap (take (length (element tag c))) (sym (take-append-drop room rest) ∙ ap (λ x. x ++ drop room rest) (is_old ∙ whole_split) ∙ append_assoc (element tag c) new.left (drop room rest))
      ∙ take-append_seam (element tag c) (new.left ++ drop room rest) in
      record {
        is_element = record { tag = tag; contents = c; is_tag = h.is_tag; is = taken; allowed = h.is_tag };
        split = whole_split ∙ ap (λ x. x ++ new.left) (sym taken);
        beyond = t.beyond ∙ h.beyond;
        end = t.end ∙ h.end;
        headers = t.headers ∙ h.headers;
        from_header = t.from_header ∙ h.from_header;
        refused = t.refused ∙ h.refused;
      }

pub opened : (tag : ℕ) {old mid new : Position} {found n outer : ℕ} → HasReadHeader old mid found n → Opened mid new n outer → found ≡ tag → OpenedElement tag old new outer
opened tag {old} {mid} {new} {found} {n} {outer} h o e =
    let l : length new.left ≡ n = ap length o.left ∙ length-take n mid.left ∙ omega (arith, h.fits) in
    record {
      rest = drop n mid.left;
      split = h.split ∙ ap (λ t. head t n ++ mid.left) e ∙ ap (λ k. head tag k ++ mid.left) (sym l)
          ∙ ap (λ x. head tag (length new.left) ++ x) (sym (take-append-drop n mid.left) ∙ ap (λ x. x ++ drop n mid.left) (sym o.left))
          ∙ sym (append_assoc (head tag (length new.left)) new.left (drop n mid.left));
      beyond = o.beyond ∙ ap (λ x. drop n mid.left ++ x) h.beyond;
      outer_is = o.outer_is ∙ h.end;
      end = omega (arith, o.end, h.end, length-drop n mid.left, h.fits);
      headers = o.headers ∙ h.headers;
      from_header = o.from_header ∙ h.from_header;
      refused = o.refused ∙ h.refused;
    }
