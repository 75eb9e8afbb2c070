-- What the private functions state. Assumes nothing.
use Rattle.std.specs.Prelude.{ℕ, ◌≤◌, List, ◌++◌, ◌≡◌, length, drop}
use Rattle.probes.specs.declared.joining.Taken.{Taken}
use Rattle.probes.specs.Records.{words_of}
use Rattle.probes.specs.Joins.{joined}

-- what a merge of two lists of records leaves in the third list, and what it took
pub record Merges (a b : List (List ℕ)) (third third' : List ℕ) (t : Taken) : Type 0 where
  pub written : third' ≡ words_of (joined a b).written ++ drop (length (words_of (joined a b).written)) third
  pub firsts : t.first ≡ (joined a b).firsts
  pub seconds : t.second ≡ (joined a b).seconds
  pub first_in : t.first ≤ length a
  pub second_in : t.second ≤ length b
