use Rattle.std.proofs.Common.{refl}
use Rattle.qm_top.specs.Readings.{longer, whole_text}
use Rattle.qm_top.proofs.check.check.Goals as goal

pub returns-in-Ok-Longer-clause-checks : goal.returns-in-Ok-Longer-clause-checks
returns-in-Ok-Longer-clause-checks g c =
    let whole = rw c.in-Ok-Longer.field-0-is at c.in-Ok-Longer.ensures.whole in
    longer whole.0 whole.1 whole.2 (record { bytes = refl; faults = refl }) refl refl

pub returns-in-Ok-Bytes-clause-checks : goal.returns-in-Ok-Bytes-clause-checks
returns-in-Ok-Bytes-clause-checks g c =
    let whole = rw c.in-Ok-Bytes.field-0-is at c.in-Ok-Bytes.ensures.whole in
    whole_text c.in-Ok-Bytes.text whole.0 whole.1 whole.2 c.check_text.ensures.checks
