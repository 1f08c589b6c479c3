use Rattle.std.proofs.Common.{subst}
use Rattle.oid_names.specs.Names.{IsObjectName}
use Rattle.call_values.proofs.Statuses.{puts}
use Rattle.text_calls.specs.ObjectNames.{without_name}
use Rattle.call_values.specs.Statuses.{Puts}
use Rattle.text_calls.proofs.texts.der_oid_name.Goals as goal

pub returns-in-Some : goal.returns-in-Some
returns-in-Some c =
    let put = subst (λ t. Puts t c.args.out.now c.put_octets.new.out c.put_octets.new.written c.put_octets.result) c.as_bytes.ensures.value c.put_octets.ensures in
    puts (λ n. IsObjectName c.args.octets.now n) (without_name c.args.octets.now) c.in-Some.name.now c.args.out.now c.put_octets.new.out c.put_octets.new.written c.put_octets.result c.in-Some.ensures put
