use mathlib.Core.Path.{refl}
use native.Mathlib.Omega.{arith}
use Rattle.text.specs.Parts.{event_words, event_mark}
use borrow.Author.Tests.{eq-eqb, ne_eqb}
use Rattle.text.proofs.chunks.put_line.Goals as goal

pub returns-then-t-eq8 : goal.returns-then-t-eq8
unfolding event_words event_mark
returns-then-t-eq8 c =
    rw (eq-eqb _ 8 c.if-t-eq8.true)
    (record { value = (omega arith, omega arith); words_after = c.store.ensures; marks_after = refl })

pub returns : goal.returns
unfolding event_words event_mark
returns c = rw (ne_eqb _ 8 c.if-t-eq8.false) (record { value = (refl, omega arith); words_after = refl; marks_after = refl })
