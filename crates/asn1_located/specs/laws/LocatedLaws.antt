-- A walk by the steps of a route finds that part.
use Rattle.std.specs.Prelude.{ℕ, List, [], ◌∷◌, Option, None, Some, IsSomeAnd}
use Rattle.std.proofs.Common.{sym, ◌∙◌, subst}
use Rattle.asn1_core_format.specs.Format.{Format}
use Rattle.asn1_core_format.specs.Whole.{IsValueOf}
use Rattle.asn1_located.specs.Places.{Finds, IsPlaceOf, Locates, Reading, Route, Walk}
use Rattle.asn1_located.specs.WalkLaws.{AreOne}
use Rattle.asn1_located.specs.laws.WalkLaws.{one_step, walk_on}
use Rattle.asn1_located.specs.Routes.{◌▸◌}
use Rattle.asn1_located.specs.declared.walks.Place.{Place}
use Rattle.asn1_located.specs.declared.walks.Step.{Step}

pub one_walk : (steps : List Step) (m : ℕ) (x : List ℕ) (n o : ℕ) (y z : List ℕ) → Walk steps m x n y → Walk steps m x o z → AreOne n y o z
one_walk [] m x n o y z a b = (a.0 ∙ sym b.0, a.1 ∙ sym b.1)
one_walk (s ∷ steps) m x n o y z (l, u, f, a) (j, v, g, b) =
    let e = one_step s m x l j u v f g in
    one_walk steps l u n o y z a (subst (λ i. Walk steps i u o z) (sym e.0) (subst (λ t. Walk steps j t o z) (sym e.1) b))

module _ {V W : Type 0} {R : Reading V} {S : Reading W} (route : Route R S) (k : ℕ) (b : List ℕ) (v : V) (reads : R k b v) (w : W) (is : route.IsPart v w) where
  pub place_of : (n : ℕ) (y : List ℕ) → Walk route.steps 0 b n y → IsPlaceOf route k b v w n y
  place_of n y walk =
      let a = route.found k v w is 0 b reads in
      let e = one_walk route.steps 0 b a.0 n a.1 y a.2 walk in
      record { walk = walk; is_part = is; reads = subst (λ z. S k z w) e.1 a.3 }

  there : (r : Option Place) → Finds (λ n y. Walk route.steps 0 b n y) 0 b r → IsSomeAnd r (λ p. IsPlaceOf route k b v w p.start p.octets.now)
  there None f = let a = route.found k v w is 0 b reads in absurd (f a.0 a.1 a.2)
  there (Some p) f = place_of p.start p.octets.now f.0

pub located : {V W : Type 0} {F : Format V} {S : Reading W} (route : Route F.Reads S) {k : ℕ} {b : List ℕ} {v : V} {r : Option Place} → IsValueOf F k b v → Finds (λ n y. Walk route.steps 0 b n y) 0 b r → Locates route k b v r
located {V} {W} {F} {S} route {k} {b} {v} {r} is f = record { part = λ w o. there route k b v is.reads w o r f }

-- from the place of a part to that of a part in it
module _ {U V W : Type 0} {R : Reading U} {S : Reading V} {T : Reading W} (route : Route R S) (next : Route S T) (k : ℕ) (b : List ℕ) (u : U) (v : V) (n : ℕ) (y : List ℕ) (at : IsPlaceOf route k b u v n y) (w : W) (is : next.IsPart v w) where
  pub located_on : (r : Option Place) → Finds (λ o z. Walk next.steps n y o z) n y r → IsSomeAnd r (λ p. IsPlaceOf (route ▸ next) k b u w p.start p.octets.now)
  located_on None f = let a = next.found k v w is n y at.reads in absurd (f a.0 a.1 a.2)
  located_on (Some p) f =
      let a = next.found k v w is n y at.reads in
      let e = one_walk next.steps n y a.0 p.start a.1 p.octets.now a.2 f.0 in
      record {
        walk = walk_on route.steps next.steps 0 n p.start b y p.octets.now at.walk f.0;
        is_part = (v, at.is_part, is);
        reads = subst (λ z. T k z w) e.1 a.3;
      }
