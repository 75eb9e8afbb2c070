use Rattle.std.proofs.Common.{◌≤◌, min, length}
use Rattle.streams.proofs.writing.send.Given as goal

-- no more is left than was to be written: where a byte is left, there was one to write
abbrev pub invariant-loop-rest : goal.invariant-loop-rest
invariant-loop-rest g l = length l.rest ≤ min l.size (length l.out)

-- each turn takes a byte at least
abbrev pub decreases-loop-rest : goal.decreases-loop-rest
decreases-loop-rest g l = length l.rest
