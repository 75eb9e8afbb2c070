use mathlib.Core.Logic.{inl, inr}
use mathlib.Core.Path.{refl}
use native.Mathlib.Omega.{arith}
use Rattle.writing.proofs.Digits.{width_is}
use Rattle.writing.proofs.decimals.width.Goals as goal

pub returns-then-n-lt10 : goal.returns-then-n-lt10
returns-then-n-lt10 c = (width_is 0 _ (omega arith) c.if-n-lt10.true (inl refl), omega arith)

pub returns-then-n-lt100 : goal.returns-then-n-lt100
returns-then-n-lt100 c = (width_is 1 _ (omega arith) c.if-n-lt100.true (inr c.if-n-lt10.false), omega arith)

pub returns-then-n-lt1000 : goal.returns-then-n-lt1000
returns-then-n-lt1000 c = (width_is 2 _ (omega arith) c.if-n-lt1000.true (inr c.if-n-lt100.false), omega arith)
