use Rattle.std.proofs.lemmas.Bool.{iff_false}
use Rattle.std.proofs.lemmas.Result.{err_from_is_err_and}
use Rattle.asn1_core_format.proofs.LevelReads.{has_refused_components}
use Rattle.asn1_core.specs.Der.{less, part, within, known}
use Rattle.asn1_choices.proofs.OidReads.{oid_refused}
use Rattle.asn1_choices.proofs.NestedReads.{lawful_nested, held_failed, rest_failed, both_has_read, other_failed, other_has_read}
use Rattle.asn1_choices.proofs.nested.read_nested_or.Goals as goal

pub returns-in_err-oid : goal.returns-in_err-oid
returns-in_err-oid g c =
    let r = oid_refused (known g.N.Named.OID (part (within c.args.tag (less g.T.DerSerialize.format)) g.R.WriteComponents.format) g.C.WriteChoice.choice) (lawful_nested g.N.Named.OID c.args.tag c.requires.tag g.T.DerSerialize.format c.requires.lawful g.R.WriteComponents.format (g.met.R.ReadComponents.lawful c.requires.tags_of_rest) g.C.WriteChoice.choice (g.met.C.ReadChoice.lawful c.requires.tags_of_others)) {k = c.args.nest} c.in_err-oid.ensures in
    has_refused_components _ (known g.N.Named.OID (part (within c.args.tag (less g.T.DerSerialize.format)) g.R.WriteComponents.format) g.C.WriteChoice.choice).components c.args.nest (err_from_is_err_and c.from_residual.result c.from_residual.ensures.1) r

pub returns-in_err-nested : goal.returns-in_err-nested
returns-in_err-nested g c =
    let r = held_failed g.N.Named.OID c.args.tag c.requires.tag g.T.DerSerialize.format c.requires.lawful g.R.WriteComponents.format (g.met.R.ReadComponents.lawful c.requires.tags_of_rest) g.C.WriteChoice.choice (g.met.C.ReadChoice.lawful c.requires.tags_of_others) c.args.nest c.in_ok-oid.ensures (c.is_named.ensures.0 c.if-is_named.true) c.in_err-nested.ensures in
    has_refused_components _ (known g.N.Named.OID (part (within c.args.tag (less g.T.DerSerialize.format)) g.R.WriteComponents.format) g.C.WriteChoice.choice).components c.args.nest (err_from_is_err_and c.from_residual-in_err-nested.result c.from_residual-in_err-nested.ensures.1) r

pub returns-in_err-rest : goal.returns-in_err-rest
returns-in_err-rest g c =
    let r = rest_failed g.N.Named.OID c.args.tag c.requires.tag g.T.DerSerialize.format c.requires.lawful g.R.WriteComponents.format (g.met.R.ReadComponents.lawful c.requires.tags_of_rest) g.C.WriteChoice.choice (g.met.C.ReadChoice.lawful c.requires.tags_of_others) c.args.nest c.in_ok-oid.ensures (c.is_named.ensures.0 c.if-is_named.true) c.in_ok-nested.ensures c.in_err-rest.ensures in
    has_refused_components _ (known g.N.Named.OID (part (within c.args.tag (less g.T.DerSerialize.format)) g.R.WriteComponents.format) g.C.WriteChoice.choice).components c.args.nest (err_from_is_err_and c.from_residual-in_err-rest.result c.from_residual-in_err-rest.ensures.1) r

pub returns-then-is_named : goal.returns-then-is_named
returns-then-is_named g c = both_has_read g.N.Named.OID c.args.tag c.requires.tag g.T.DerSerialize.format c.requires.lawful g.R.WriteComponents.format (g.met.R.ReadComponents.lawful c.requires.tags_of_rest) g.C.WriteChoice.choice (g.met.C.ReadChoice.lawful c.requires.tags_of_others) c.args.nest c.in_ok-oid.ensures (c.is_named.ensures.0 c.if-is_named.true) c.in_ok-nested.ensures c.in_ok-rest.ensures

pub returns-in_err-other : goal.returns-in_err-other
returns-in_err-other g c =
    let r = other_failed g.N.Named.OID c.args.tag c.requires.tag g.T.DerSerialize.format c.requires.lawful g.R.WriteComponents.format (g.met.R.ReadComponents.lawful c.requires.tags_of_rest) g.C.WriteChoice.choice (g.met.C.ReadChoice.lawful c.requires.tags_of_others) c.args.nest c.in_ok-oid.ensures (iff_false c.is_named.ensures c.if-is_named.false) c.in_err-other.ensures in
    has_refused_components _ (known g.N.Named.OID (part (within c.args.tag (less g.T.DerSerialize.format)) g.R.WriteComponents.format) g.C.WriteChoice.choice).components c.args.nest (err_from_is_err_and c.from_residual-in_err-other.result c.from_residual-in_err-other.ensures.1) r

pub returns : goal.returns
returns g c = other_has_read g.N.Named.OID c.args.tag c.requires.tag g.T.DerSerialize.format c.requires.lawful g.R.WriteComponents.format (g.met.R.ReadComponents.lawful c.requires.tags_of_rest) g.C.WriteChoice.choice (g.met.C.ReadChoice.lawful c.requires.tags_of_others) c.args.nest c.in_ok-oid.ensures (iff_false c.is_named.ensures c.if-is_named.false) c.in_ok-other.ensures
