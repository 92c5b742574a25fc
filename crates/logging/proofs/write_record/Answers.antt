use Rattle.logging.proofs.Records.{record_full, record_written}
use Rattle.logging.proofs.write_record.Goals as goal

pub returns-then-log-at : goal.returns-then-log-at
returns-then-log-at c =
    let h = record_full _ _ _ _ c.requires.0 c.begun-n.ensures.reads c.carried-k.ensures.reads c.outputs_shown-o.ensures c.if-log-at.true in
    record { value = h.0; writes = h.1 }

pub returns : goal.returns
returns c =
    let h = record_written _ _ _ _ c.requires.0 c.begun-n.ensures.reads c.carried-k.ensures.reads c.outputs_shown-o.ensures c.if-log-at.false c.write_head.ensures c.write_units.ensures c.write_units-2.ensures c.write_outputs.ensures in
    record { value = h.0; writes = h.1 }
