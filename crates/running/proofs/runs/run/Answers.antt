use mathlib.Core.Path.{sym, ◌∙◌}
use Rattle.running.proofs.Facts.Ill.{ill_ran}
use Rattle.running.proofs.runs.run.Goals as goal

pub returns : goal.returns
returns c =
    let d = ill_ran _ (sym c.well_formed-2.ensures ∙ c.if-well_formed.false) _ _ in
    record { state = rw (← c.count-n.ensures.count) d.0; answers = rw (← c.count-n.ensures.count, c.refuse_all.ensures, d.1) }
