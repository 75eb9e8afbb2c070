-- What is moved. Assumes nothing.
use Rattle.std.specs.Prelude.{ℕ, List, take, drop}

-- n items of a list from a place on, or as many as there are
unfoldable pub piece : {A : Type 0} → ℕ → ℕ → List A → List A
piece from n d = take n (drop from d)
