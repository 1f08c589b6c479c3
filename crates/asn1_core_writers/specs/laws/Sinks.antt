-- Laws of `Sinks.antt`.
use Rattle.std.specs.Prelude.{◌≡◌, ℕ, ◌+◌, ◌≤◌, ◌^◌, List, [], ◌++◌, length, Option, None, Some, Result, Ok, Err}
use Rattle.std.specs.Io.KnownBytes.{Appends}
use Rattle.std.proofs.Common.{refl, sym, ap, ◌∙◌, arith, append_assoc, length-append, rules}
use Rattle.asn1_core_writers.specs.Writers.{IsForward}
use Rattle.asn1_core_writers.specs.declared.writer.WriteError.{WriteError}
use Rattle.asn1_core_writers.specs.declared.writer.WriteError.TheVariants.{TooLong, Failed}
use Rattle.asn1_core_writers.specs.Sinks.{Sends, Stopped, appends_none}

pub appends_more : (o p q : Option (List ℕ)) (a b : List ℕ) → Appends o p a → Appends p q b → Appends o q (a ++ b)
appends_more None p q a b h k = tt
appends_more (Some xs) None q a b h k = absurd h
appends_more (Some xs) (Some ys) None a b h k = k
appends_more (Some xs) (Some ys) (Some zs) a b h k = k ∙ ap (λ l. l ++ b) h ∙ append_assoc xs a b

pub stopped_first : (a b : List ℕ) (o p : Option (List ℕ)) (f g : ℕ) (e : WriteError) → Stopped a o p f g e → Stopped (a ++ b) o p f g e
stopped_first a b o p f g e s = record {
  part = record {
    written = s.part.written;
    unwritten = s.part.unwritten ++ b;
    split = ap (λ l. l ++ b) s.part.split ∙ append_assoc s.part.written s.part.unwritten b;
    appended = s.part.appended;
  };
  failed = s.failed;
  too_long = λ h. ((s.too_long h).0, omega (arith, length-append a b, (s.too_long h).1));
}

pub sends_more : (a b : List ℕ) (o p q : Option (List ℕ)) (f g h : ℕ) (r : Result (Unit {0}) WriteError) → Appends o p a → g ≡ f → Sends b p q g h r → Sends (a ++ b) o q f h r
sends_more a b o p q f g h (Ok u) k e s = (appends_more o p q a b k s.0, s.1 ∙ e)
sends_more a b o p q f g h (Err x) k e s = record {
  part = record {
    written = a ++ s.part.written;
    unwritten = s.part.unwritten;
    split = ap (λ l. a ++ l) s.part.split ∙ sym (append_assoc a s.part.written s.part.unwritten);
    appended = appends_more o p q a s.part.written k s.part.appended;
  };
  failed = λ t. s.failed t ∙ ap (λ n. n + 1) e;
  too_long = λ t. ((s.too_long t).0 ∙ e, omega (arith, length-append a b, (s.too_long t).1));
}

no_failed : TooLong ≡ Failed → ⊥
no_failed e = search rules

pub stopped_long : (a : List ℕ) (o : Option (List ℕ)) (f : ℕ) → 2 ^ 64 ≤ length a → Stopped a o o f f TooLong
stopped_long a o f l = record {
  part = record { written = []; unwritten = a; split = refl; appended = appends_none o };
  failed = λ e. absurd (no_failed e);
  too_long = λ _. (refl, l);
}

pub sink_forward : {S : Type 0} (received : S → Option (List ℕ)) (failed : S → ℕ) → IsForward (λ t w x r. Sends t (received w) (received x) (failed w) (failed x) r)
sink_forward received failed = record {
  stops = λ a b w x e s. stopped_first a b (received w) (received x) (failed w) (failed x) e s;
  goes_on = λ a b w x y u r h s. sends_more a b (received w) (received x) (received y) (failed w) (failed x) (failed y) r h.0 h.1 s;
  too_long = λ a w l. stopped_long a (received w) (failed w) l;
}
