-- Why bags aren't written.
use Rattle.std.specs.Prelude.{◌≡◌, ◌<◌, ℕ, List, length, slice_index_or}
use Rattle.std.specs.List.{Contains}
use Rattle.std.proofs.Common.{inl, sym}
use Rattle.std.proofs.lemmas.List.Elements.{All-contains, All-from_recursion}
use Rattle.asn1_core_element.specs.declared.error.Error.{Error}
use Rattle.bag_writers.specs.Written.{CanBeWritten, HasNoAttributes, IsNotSafe}
use Rattle.bag_writers.specs.declared.bags.Bag.{Bag}

-- a bag whose attributes aren't encoded, by its index
pub not_one : (bags : List Bag) (i : ℕ) (x : Bag) (e : Error) → i < length bags → x ≡ slice_index_or bags i x → HasNoAttributes x e → IsNotSafe bags e
not_one bags i x e l is h =
    let here : Contains bags x = (i, l, sym is) in
    record {
      kind = h.kind;
      long = λ t. (let w = h.long t in inl (x, here, w.0, w.1, w.2));
      none = λ i can. h.none i (let c = All-contains CanBeWritten bags x (All-from_recursion CanBeWritten bags can) here in c.attributes);
    }
