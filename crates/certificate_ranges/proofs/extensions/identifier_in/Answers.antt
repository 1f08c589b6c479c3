use Rattle.std.specs.Prelude.{map}
use Rattle.certificate_ranges.proofs.ExtensionPlaces.{identifier_at, no_identifier, unread_identifier}
use Rattle.x509_base.specs.Extensions.{extension_value}
use Rattle.certificate_ranges.proofs.extensions.identifier_in.Goals as goal

pub returns-in_default : goal.returns-in_default
returns-in_default c = no_identifier c.args.input.now c.args.element (map extension_value c.args.extensions.now) c.in_default.ensures

pub returns-in-Ok : goal.returns-in-Ok
returns-in-Ok c =
    identifier_at c.args.input.now c.args.element (map extension_value c.args.extensions.now) c.in-Some.found.index (extension_value c.in-Some.found.extension.now) c.as_slice.result.now c.in-Ok._identifier.0.items
    c.in_extension.result c.in-Some.ensures c.as_slice.ensures.value c.in-Ok.ensures.reads c.in_extension.ensures

pub returns-in_ok-without_answer-in-Err : goal.returns-in_ok-without_answer-in-Err
returns-in_ok-without_answer-in-Err c =
    unread_identifier c.args.input.now c.args.element (map extension_value c.args.extensions.now) c.in-Some.found.index (extension_value c.in-Some.found.extension.now) c.as_slice.result.now c.in-Err.error
    c.in-Some.ensures c.as_slice.ensures.value c.in-Err.ensures c.in_ok-without_answer-in-Err.ensures
