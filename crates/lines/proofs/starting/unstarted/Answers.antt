use mathlib.Core.Path.{ap, ◌∙◌}
use mathlib.Core.Bool.{false}
use Rattle.rules.specs.declared.states.State.{State}
use Rattle.rules.specs.declared.events.Stepped.{Stepped}
use Rattle.lines.proofs.Starts.{zero_start}
use Rattle.lines.proofs.starting.unstarted.Goals as goal

pub returns : goal.returns
returns c =
    ap (λ (s : State). record { started = false; state = s }) (ap (λ (r : Stepped). r.state) c.start.ensures ∙ zero_start)
