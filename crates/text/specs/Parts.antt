-- What the private functions state. Assumes nothing.
use Rattle.std.specs.Prelude.{ℕ, zero, suc, ◌+◌, ◌-◌, ◌*◌, ◌%◌, ◌<◌, ◌≤◌, ◌≡◌, Bool, true, cond as pick, ◌&&◌, List, [], ◌++◌, eqb, length, get_or, drop, set, replicate}
use Rattle.std.proofs.Math.Option.{Option, none, some}
use Rattle.text.specs.declared.numbers.Spelled.{Spelled}
use Rattle.text.specs.declared.reading.Taken.{Taken}
use Rattle.text.specs.Lines.{first_line, passed}
use Rattle.text.specs.Reading.{fields_of, is_digit, all_digits, spelled, value_of, values_of, unread}

-- digits stand between two places, and spell v
pub record Digits (s : List ℕ) (from end v : ℕ) : Type 0 where
  pub text : List ℕ
  pub here : drop from s ≡ text ++ drop end s
  pub all : all_digits text ≡ true
  pub spell : spelled 0 text ≡ v
  pub long : end ≡ from + length text

-- a digit that follows would be the eleventh, or make the number too large
abbrev pub Stops : List ℕ → ℕ → ℕ → Type 0
Stops s end v = end < length s → is_digit (get_or s end 0) ≡ true → 1000000000 ≤ v

-- digits up to a place where they stop
pub record Runs (s : List ℕ) (from : ℕ) (r : Spelled ℕ) : Type 0 where
  pub run : Digits s from r.end r.value
  pub small : r.value < 10000000000
  pub after : r.after ≡ get_or s r.end 10
  pub stop : Stops s r.end r.value

-- the numbers of a line of any length
abbrev pub numbers : List ℕ → Option (List ℕ)
numbers l = values_of (fields_of l)

-- no number can be read of the line at a place
abbrev pub Unreadable : List ℕ → ℕ → Type 0
Unreadable s from = numbers (first_line (drop from s)) ≡ none

-- a number stands at a place
pub record Found (s : List ℕ) (from : ℕ) (r : Spelled ℕ) : Type 0 where
  pub run : Digits s from r.end r.value
  pub far : from < r.end
  pub value : value_of run.text ≡ some r.value
  pub after : r.after ≡ get_or s r.end 10
  pub stop : Stops s r.end r.value

-- a digit and a tab stand at a place, and the digit spells v
pub record Short (s : List ℕ) (from v : ℕ) : Type 0 where
  pub within : from + 1 < length s
  pub digit : is_digit (get_or s from 0) ≡ true
  pub spell : get_or s from 0 - 48 ≡ v
  pub tab : get_or s (from + 1) 0 ≡ 9

-- a digit stands at a place, and after it the byte that ends its field
abbrev pub one_digit : List ℕ → ℕ → ℕ → Bool
one_digit s from end = eqb (get_or s (from + 1) 0) end && is_digit (get_or s from 0)

-- k fields of one digit and a tab each stand from a place on
unfoldable pub tabbed : ℕ → List ℕ → ℕ → Bool
tabbed zero s from = true
tabbed (suc k) s from = tabbed k s from && one_digit s (from + 2 * k) 9

-- a line of eight fields of one digit each stands at a place
unfoldable pub plain_line : List ℕ → ℕ → Bool
plain_line s from = tabbed 7 s from && one_digit s (from + 14) 10

-- the digits of k such fields, with zeros after them: the last four bits of a digit are its value
unfoldable pub words_to : ℕ → List ℕ → ℕ → List ℕ
words_to zero s from = replicate 8 0
words_to (suc k) s from = set (words_to k s from) k (get_or s (from + 2 * k) 0 % 16)

-- a line ends here
abbrev pub at_end : List ℕ → Bool
at_end t = eqb (length (first_line t)) 0

-- the line whose last number ends at a place
unfoldable pub finished : List ℕ → ℕ → ℕ → List ℕ → Taken
finished s end count words =
    pick (at_end (drop end s)) (record { count = count; words = words; next = end + passed (drop end s) })
    (unread (end + passed (drop end s)))

-- the words of a line of so many numbers, and its mark: eight numbers are an event
unfoldable pub event_words : ℕ → List ℕ → List ℕ
event_words count w = pick (eqb count 8) w []

unfoldable pub event_mark : ℕ → ℕ
event_mark count = pick (eqb count 8) 1 0
