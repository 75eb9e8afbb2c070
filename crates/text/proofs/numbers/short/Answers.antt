use native.Mathlib.Omega.{arith}
use lib.ListN.{length-drop}
use lib.Seq.{get_or-take, get_or-drop}
use native.Mathlib.Nat.{add-zero}
use Rattle.text.proofs.numbers.short.Goals as goal

-- by these lemmas alone, so that the edit digit_and_comma is refused for the byte that it changes, not at a limit of the prover
pub returns-in-9 : goal.returns-in-9
returns-in-9 c = grind (arith, get_or-take, get_or-drop, length-drop, add-zero)
