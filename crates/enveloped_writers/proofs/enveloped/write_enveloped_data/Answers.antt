use Rattle.std.specs.Prelude.{map}
use Rattle.std.proofs.Common.{sym, true≢false, ◌∙◌}
use Rattle.enveloped_writers.proofs.Envelopes.{too_long}
use Rattle.x509_base.specs.AlgorithmParts.{algorithm_identifier_value}
use Rattle.x509_base.specs.Names.{attribute_value}
use Rattle.enveloped_writers.proofs.enveloped.write_enveloped_data.Goals as goal

pub write_read-requires-clause-can : goal.write_read-requires-clause-can
write_read-requires-clause-can c = record {
  content_type = c.is_oid.ensures.0 c.if-not-is_oid.false;
  algorithm = (algorithm_identifier_value c.in-Ok.algorithm, c.in-Ok.ensures.reads);
  some = λ e. true≢false (sym (c.has_none.ensures.1 e) ∙ c.if-has_none.false);
  recipients = c.in_ok-check_recipients.ensures;
  attributes = (map attribute_value c.in-Ok-unprotected.attributes.items, c.in-Ok-unprotected.ensures);
}

pub returns-in-Err-write_read : goal.returns-in-Err-write_read
returns-in-Err-write_read c =
    too_long c.args.given.now (map (λ e. e.0.now) c.args.recipients.now) c.refused-in-Err-write_read.result c.in-Err-write_read.error c.refused-in-Err-write_read.ensures.2 c.in-Err-write_read.ensures
