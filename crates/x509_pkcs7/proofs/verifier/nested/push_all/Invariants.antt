use Rattle.std.proofs.Common.{◌≡◌, ◌++◌, map, drop}
use Rattle.x509_pkcs7.proofs.verifier.nested.push_all.Given as goal

abbrev pub invariant-loop-element : goal.invariant-loop-element
invariant-loop-element l =
    map (λ e. e.now.0.items) l.found.items ++ map (λ e. e.0.items) (drop l.element-index l.elements)
    ≡ map (λ e. e.now.0.items) l.fn.found.items ++ map (λ e. e.0.items) l.elements
