use Rattle.std.proofs.Common.{arith, rules, inr, refl, ap, ◌++◌}
use Rattle.asn1_core_oid.specs.OidLaws.{groups_after}
use Rattle.asn1_core_oid.proofs.Groups.{long_group, groups_read}
use Rattle.asn1_core_oid.specs.laws.OidTestLaws.{ends_from_oid}
use Rattle.asn1_core_oid.proofs.oid_contents.read_groups.Goals as goal

pub loop-octet-init : goal.loop-octet-init
loop-octet-init c =
    record {
      groups = ap (λ x. x ++ groups_after 0 c.args.octets.now) c.new-groups.ensures.items;
      ends = ends_from_oid c.args.octets.now c.requires;
      fit = search rules;
    }

pub returns-then-group : goal.returns-then-group
returns-then-group c =
    let l = c.loop-octet in
    inr (refl, long_group c.args.octets.now c.requires l.octet-index l.group l.groups.items l.invariant.groups l.invariant.ends (omega (arith, c.if-group.true)))

pub returns : goal.returns
returns c =
    let l = c.loop-octet in
    groups_read c.args.octets.now c.requires l.octet-index l.group l.groups.items l.invariant.groups l.invariant.fit c.loop-octet-test.false
