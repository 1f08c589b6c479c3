use Rattle.std.proofs.Common.{arith}
use Rattle.asn1_core_element.specs.laws.Digits.{digit_fits}
use Rattle.asn1_core_element.proofs.front.number.Goals as goal

pub overflow_mul-n : goal.overflow_mul-n
overflow_mul-n c =
    let s = c.args.digits.now in
    omega (arith, digit_fits s c.loop-d.d-index (λ i. omega (arith, c.type_inv.digits i)) (omega arith) c.requires)

pub overflow_add-n : goal.overflow_add-n
overflow_add-n c =
    let s = c.args.digits.now in
    omega (arith, digit_fits s c.loop-d.d-index (λ i. omega (arith, c.type_inv.digits i)) (omega arith) c.requires)
