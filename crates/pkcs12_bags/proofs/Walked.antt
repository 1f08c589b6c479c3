-- Bags that are appended to a list, one after another.
use Rattle.std.proofs.Common.{◌≡◌, ℕ, ◌≤◌, List, [], ◌∷◌, ◌++◌, length, map, drop, sym, ap, ◌∙◌}
use Rattle.std.proofs.Math.ListN.{drop_of_length-le}
use Rattle.std.proofs.lemmas.List.{append_assoc, append-nil, map-append}
use Rattle.pkcs12_bags.specs.Bags.{Bag}
use Rattle.pkcs12_bags.specs.BagWalks.{bag_walk, walk}

module _ {T : Type 0} (f : T → Bag) (xs : List T) (i : ℕ) (old held : List Bag) (so_far : held ++ walk (map f (drop i xs)) ≡ old ++ walk (map f xs)) where
  -- all bags
  pub walked_all : length xs ≤ i → held ≡ old ++ walk (map f xs)
  walked_all l = sym (append-nil held) ∙ ap (λ ys. held ++ walk (map f ys)) (sym (drop_of_length-le xs l)) ∙ so_far

-- a bag, before those in it
pub pushed : {S : Type 0} (seen : S → Bag) (old : List S) (b : S) (rest : List Bag) {new : List S} → new ≡ old ++ b ∷ [] → bag_walk (seen b) ≡ seen b ∷ rest → map seen new ++ rest ≡ map seen old ++ bag_walk (seen b)
pushed seen old b rest p w =
    ap (λ l. map seen l ++ rest) p ∙ ap (λ l. l ++ rest) (map-append seen old (b ∷ []))
    ∙ append_assoc (map seen old) (seen b ∷ []) rest ∙ ap (λ l. map seen old ++ l) (sym w)
