-- Laws of `Buffers.antt`.
use Rattle.std.specs.Prelude.{◌≡◌, ℕ, ◌≤◌, ◌^◌, List, [], ◌++◌, length, Option, Result, Ok, Err}
use Rattle.std.specs.Io.KnownBytes.{Appends}
use Rattle.std.proofs.Common.{refl, sym, ap, subst, ◌∙◌, arith, append_assoc, append-nil, length-append}
use Rattle.asn1_core_writers.specs.Writers.{IsForward}
use Rattle.asn1_core_writers.specs.Sinks.{Stopped, Sends, Emits}
use Rattle.asn1_core_writers.specs.laws.Sinks.{appends_more, stopped_first, stopped_long, sends_more}
use Rattle.asn1_core_writers.specs.declared.writer.WriteError.{WriteError}
use Rattle.asn1_core_writers.specs.Buffers.{Buffers, Passed}

-- what waited was sent, and then the encoding, or a beginning of it
pub buffers_through : (text before none : List ℕ) (o p q : Option (List ℕ)) (f g h : ℕ) (r : Result (Unit {0}) WriteError) → Appends o p before → g ≡ f → none ≡ [] → Sends text p q g h r → Buffers text before none o q f h r
buffers_through text before none o p q f g h (Ok u) k e n s = record {
  sent = before ++ text;
  split = sym (append-nil (before ++ text)) ∙ ap (λ l. (before ++ text) ++ l) (sym n);
  appended = appends_more o p q before text k s.0;
  failed = s.1 ∙ e;
}
buffers_through text before none o p q f g h (Err x) k e n s = sends_more before text o p q f g h (Err x) k e s

-- what waits of an encoding is sent, so that all of it was
buffers_ended : (text rest : List ℕ) (o p q : Option (List ℕ)) (f g h : ℕ) (r : Result (Unit {0}) WriteError) → Passed text [] rest o p f g → Sends rest p q g h r → Sends text o q f h r
buffers_ended text rest o p q f g h r k s = subst (λ t. Sends t o q f h r) (sym k.split) (sends_more k.sent rest o p q f g h r k.appended k.failed s)

-- an encoding whose length fits is emitted when it is sent
emits_sent : {S : Type 0} (text : List ℕ) (a e : S) (o p : Option (List ℕ)) (f g : ℕ) (r : Result (Unit {0}) WriteError) → (2 ^ 64 ≤ length text → ⊥) → Sends text o p f g r → Emits text a e o p f g r
emits_sent text a e o p f g (Ok u) fits s = s
emits_sent text a e o p f g (Err x) fits s = record {
  too_long = λ t. absurd (fits (s.too_long t).1);
  failed = λ t. (s.failed t, s.part);
}

-- a sink a is borrowed, as b with no bytes waiting; it is c after the encoding, d once what waits was sent, e at last
pub emits_buffered : {S N : Type 0} (received : S → Option (List ℕ)) (failed : S → ℕ) (text before rest : List ℕ) (a b c d e : S) (entered first second third : N) (r : Result (Unit {0}) WriteError)
    → (2 ^ 64 ≤ length text → ⊥) → first ≡ entered → b ≡ a → before ≡ []
    → (second ≡ first) × Passed text before rest (received b) (received c) (failed b) (failed c)
    → third ≡ second → Sends rest (received c) (received d) (failed c) (failed d) r
    → (entered ≡ third → e ≡ d) → Emits text a e (received a) (received e) (failed a) (failed e) r
emits_buffered received failed text before rest a b c d e entered first second third r fits n begun none k m s back =
    let passed = subst (λ l. Passed text l rest (received b) (received c) (failed b) (failed c)) none k.1 in
    let sent = buffers_ended text rest (received b) (received c) (received d) (failed b) (failed c) (failed d) r passed s in
    let from = subst (λ x. Sends text (received x) (received d) (failed x) (failed d) r) begun sent in
    let at_last = subst (λ x. Sends text (received a) (received x) (failed a) (failed x) r) (sym (back (sym (m ∙ k.0 ∙ n)))) from in
    emits_sent text a e (received a) (received e) (failed a) (failed e) r fits at_last

passed_more : (a b : List ℕ) (w x y : List ℕ) (o p q : Option (List ℕ)) (f g h : ℕ) → Passed a w x o p f g → Passed b x y p q g h → Passed (a ++ b) w y o q f h
passed_more a b w x y o p q f g h k s = record {
  sent = k.sent ++ s.sent;
  split = sym (append_assoc w a b) ∙ ap (λ l. l ++ b) k.split ∙ append_assoc k.sent x b ∙ ap (λ l. k.sent ++ l) s.split ∙ sym (append_assoc k.sent s.sent y);
  appended = appends_more o p q k.sent s.sent k.appended s.appended;
  failed = s.failed ∙ k.failed;
}

buffers_more : (a b : List ℕ) (w x y : List ℕ) (o p q : Option (List ℕ)) (f g h : ℕ) (r : Result (Unit {0}) WriteError) → Passed a w x o p f g → Buffers b x y p q g h r → Buffers (a ++ b) w y o q f h r
buffers_more a b w x y o p q f g h (Ok u) k s = passed_more a b w x y o p q f g h k s
buffers_more a b w x y o p q f g h (Err e) k s = subst (λ t. Stopped t o q f h e)
    (sym (append_assoc k.sent x b) ∙ ap (λ l. l ++ b) (sym k.split) ∙ append_assoc w a b)
    (sends_more k.sent (x ++ b) o p q f g h (Err e) k.appended k.failed s)

-- two references with one name are the same borrow
pub buffer_forward : {W N : Type 0} (name : W → N) (waiting : W → List ℕ) (received : W → Option (List ℕ)) (failed : W → ℕ) → IsForward (λ t w x r. (name x ≡ name w) × Buffers t (waiting w) (waiting x) (received w) (received x) (failed w) (failed x) r)
buffer_forward name waiting received failed = record {
  stops = λ a b w x e s. (s.0, subst (λ t. Stopped t (received w) (received x) (failed w) (failed x) e) (append_assoc (waiting w) a b) (stopped_first (waiting w ++ a) b (received w) (received x) (failed w) (failed x) e s.1));
  goes_on = λ a b w x y u r h s. (s.0 ∙ h.0, buffers_more a b (waiting w) (waiting x) (waiting y) (received w) (received x) (received y) (failed w) (failed x) (failed y) r h.1 s.1);
  too_long = λ a w l. (refl, stopped_long (waiting w ++ a) (received w) (failed w) (omega (arith, length-append (waiting w) a, l)));
}
