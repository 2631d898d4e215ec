-- `expanding::by_exact` meets its contract: the run of the class way does what all lines do. Assumes nothing.
use mathlib.Core.Path.{◌∙◌}
use Rattle.area.proofs.Changes.{step-as}
use Rattle.expanding.proofs.Backs.{run-lines}
use Rattle.expanding.proofs.Undone.{one-stack-back}
use Rattle.expanding.proofs.by_exact.Goals as goal

pub over_class-requires : goal.over_class-requires
over_class-requires c =
    let r = rw c.in-Some-Sister.field-0-is at c.in-Some-Sister.ensures in
    rw c.in-Some-Sister.field-0-is (record { ready_back = c.requires.ready_back; laid = (c.requires.laid.0, c.requires.filed, r.1.key-low); narrow = (r.1.narrow, r.1.gives, r.0 _); d_nonzero = c.requires.d_nonzero })

pub returns-in-Some-Sister : goal.returns-in-Some-Sister
returns-in-Some-Sister c =
    let r = rw c.in-Some-Sister.field-0-is at c.in-Some-Sister.ensures in
    step-as _ (rw c.in-Some-Sister.field-0-is at c.over_class.ensures) (one-stack-back _ _ _ _ _ _ _ ∙ run-lines r.1 _ _)

pub over_class-requires-in-Some-Foreign : goal.over_class-requires-in-Some-Foreign
over_class-requires-in-Some-Foreign c =
    let r = rw c.in-Some-Foreign.field-0-is at c.in-Some-Foreign.ensures in
    rw c.in-Some-Foreign.field-0-is (record { ready_back = c.requires.ready_back; laid = (c.requires.laid.0, c.requires.filed, r.1.key-low); narrow = (r.1.narrow, r.1.gives, r.0 _); d_nonzero = c.requires.d_nonzero })

pub returns-in-Some-Foreign : goal.returns-in-Some-Foreign
returns-in-Some-Foreign c =
    let r = rw c.in-Some-Foreign.field-0-is at c.in-Some-Foreign.ensures in
    step-as _ (rw c.in-Some-Foreign.field-0-is at c.over_class-in-Some-Foreign.ensures) (one-stack-back _ _ _ _ _ _ _ ∙ run-lines r.1 _ _)
