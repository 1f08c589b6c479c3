-- Lists of nodes, each of which holds a list of nodes: the values of types that hold one another. A sort of nodes has
-- alternatives; each says what data it has, and of which sort the nodes are that it holds.
use Rattle.std.specs.Prelude.{List, [], ◌∷◌}

pub data Forest {I : Type 0} (A : I → Type 0) (P : (i : I) → A i → Type 0) (c : (i : I) → A i → I) : I → Type 0 where
  none : {i : I} → Forest A P c i
  more : {i : I} (a : A i) → P i a → Forest A P c (c i a) → Forest A P c i → Forest A P c i

module _ {I : Type 0} (A : I → Type 0) (P : (i : I) → A i → Type 0) (c : (i : I) → A i → I) where
  abbrev pub Node : I → Type 0
  Node i = (a : A i) × P i a × Forest A P c (c i a)

  abbrev pub nodes : {i : I} → Forest A P c i → List (Node i)
  nodes none = []
  nodes (more a p f g) = (a, p, f) ∷ nodes g

  abbrev pub forest : {i : I} → List (Node i) → Forest A P c i
  forest [] = none
  forest (v ∷ vs) = more v.0 v.1 v.2 (forest vs)

  -- what is made of a node, from what was made of those that it holds
  module _ {T : Type 0} (t : (i : I) (a : A i) → P i a → List T → T) where
    abbrev pub fold_all : {i : I} → Forest A P c i → List T
    fold_all none = []
    fold_all {i} (more a p f g) = t i a p (fold_all f) ∷ fold_all g

    abbrev pub fold_node : (i : I) → Node i → T
    fold_node i v = t i v.0 v.1 (fold_all v.2)

  -- the same nodes, with something else in each alternative
  module _ (n : (i : I) (a : A i) → P i a → P i a) where
    abbrev pub same_all : {i : I} → Forest A P c i → Forest A P c i
    same_all none = none
    same_all {i} (more a p f g) = more a (n i a p) (same_all f) (same_all g)
