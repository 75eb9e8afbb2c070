-- What a token message makes of a cell, by its two marks. Assumes nothing.
use mathlib.Core.Bool.{true, false}
use mathlib.Core.Path.{◌≡◌}
use Rattle.rules.specs.Types.{Cell, Message}
use Rattle.rules.specs.Cells.{take, fill, block, received}
use Rattle.rules.proofs.Laws.Bools.{by_pick}

pub by_marks : (P : Cell → Type 0) (m : Message) (c : Cell)
    → (m.owner ≡ true → m.full ≡ true → P (block (fill m.word (take m.tokens.0 c))))
    → (m.owner ≡ true → m.full ≡ false → P (block (take m.tokens.0 c)))
    → (m.owner ≡ false → m.full ≡ true → P (fill m.word (take m.tokens.0 c)))
    → (m.owner ≡ false → m.full ≡ false → P (take m.tokens.0 c))
    → P (received m c)
unfolding received
by_marks P m c both owner full none =
    by_pick P m.owner (λ o. by_pick (λ x. P (block x)) m.full (both o) (owner o)) (λ o. by_pick P m.full (full o) (none o))
