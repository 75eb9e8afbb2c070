use Rattle.std.proofs.Common.{ℕ, ◌≡◌, ◌<◌, length, get_or}
use Rattle.rules.specs.States.{free_message}
use Rattle.numbers.specs.Tags.{slot_tag}
use Rattle.numbers.proofs.tags.tags_of.Given as goal

abbrev pub invariant-loop-i : goal.invariant-loop-i
invariant-loop-i l = (length l.tags ≡ 64) × ((j : ℕ) → j < l.i → get_or l.tags j 0 ≡ slot_tag (get_or l.fn.pool j free_message))
