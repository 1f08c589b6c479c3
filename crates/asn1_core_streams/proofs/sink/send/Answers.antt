use Rattle.std.proofs.Common.{◌≡◌, ℕ, zero, suc, ◌-◌, ◌<◌, List, ◌++◌, length, take, drop, refl, arith, append_assoc, take-append-drop}
use Rattle.std.proofs.lemmas.List.{take_rest}
use Rattle.std.proofs.KnownBytes.{Appends-trans}
use Rattle.asn1_core_streams.specs.Streams.{none_taken}
use Rattle.asn1_core_streams.proofs.sink.send.Goals as goal

-- a write that took some bytes is no failure
none_taken-some : (n : ℕ) (buf : List ℕ) → 0 < n → none_taken n buf ≡ 0
none_taken-some zero buf some = absurd (omega arith)
none_taken-some (suc n) buf some = refl

-- n more bytes of all were sent
sent-more : (all sent rest : List ℕ) (n : ℕ) → all ≡ sent ++ rest → all ≡ (sent ++ take n rest) ++ take (length rest - n) (drop n rest)
sent-more all sent rest n e = simp (append_assoc, take_rest, take-append-drop) e

pub loop-rest-preserved : goal.loop-rest-preserved
loop-rest-preserved g c =
    let before = c.loop-rest.invariant in
    let rest = c.loop-rest.rest.now in
    let n = c.in-Ok.n in
    record {
      sent = before.sent ++ take n rest;
      split = sent-more _ before.sent rest n before.split;
      appended = Appends-trans _ _ _ _ _ before.appended c.in-Ok.ensures.bytes;
      count = omega (arith, c.in-Ok.ensures.count, none_taken-some n rest (omega arith), before.count);
    }
