-- Laws of `Verdicts.antt`.
use Rattle.std.specs.Prelude.{◌≡◌, ◌↔◌, ℕ, List, Option, None, Some, Result, Ok, Err, IsTrue}
use Rattle.std.specs.Option.{is_none}
use Rattle.std.proofs.Common.{refl}
use Rattle.asn1_core_element.specs.declared.error.Error.{Error}
use Rattle.der_engine.specs.Engine.{Rewriting}
use Rattle.der_engine.specs.Steps.{IsChecked, Checks}
use Rattle.der_engine.specs.declared.verdict.Verdict.{Verdict}
use Rattle.der_engine.specs.Verdicts.{FindsEnd, IsLocated, Locates, check_of, end_of}

none_is : (o : Option ℕ) → IsTrue (is_none o) ↔ (o ≡ None)
none_is None = (λ h. refl, λ h. refl)
none_is (Some n) = (λ h. cc, λ h. cc)

located_checked : (K : Rewriting) (b : List ℕ) (v : Verdict) → IsLocated K b v.loose_end v.encoding_len → IsChecked K b (is_none v.loose_end) v.encoding_len
located_checked K b v j =
    let n = none_is v.loose_end in
    record {
      text = j.text;
      to = j.to;
      only = j.only;
      long = j.long;
      same = (λ h. j.same.0 (n.0 h), λ h. n.1 (j.same.1 h));
      back = (λ h. j.normal.0 (j.same.1 h), λ h. j.same.0 (j.normal.1 h));
    }

pub located_checks : (K : Rewriting) (b : List ℕ) (r : Result Verdict (Error × ℕ)) → Locates K b r → Checks K b (check_of r)
located_checks K b (Ok v) j = located_checked K b v j
located_checks K b (Err e) j = j.why

pub located_ends : (K : Rewriting) (b : List ℕ) (r : Result Verdict (Error × ℕ)) → Locates K b r → FindsEnd K b (end_of r)
located_ends K b (Ok v) j = (v.encoding_len, j)
located_ends K b (Err e) j = j.why
