use Prim.Native.Nat.{◌+◌, ◌<◌}
use mathlib.Core.Path.{◌≡◌, sym, ap, ◌∙◌}
use native.Mathlib.Omega.{arith}
use native.Mathlib.Nat.{add-zero}
use borrow.Author.Rules.{rules}
use lib.ListN.{get_or, length}
use lib.Seq.{get_or-drop}
use mathlib.Core.Bool.{true≢false}
use mathlib.Core.Logic.{inl, inr}
use Rattle.text.specs.Reading.{is_digit}
use Rattle.text.proofs.Bools.{digit_in}
use Rattle.text.proofs.Lines.{byte_in, byte_out, rest_is}
use Rattle.text.proofs.Runs.{digits_none, digits_more}
use Rattle.text.proofs.numbers.digits.Goals as goal

pub returns-in_default : goal.returns-in_default
returns-in_default c =
    let h : length c.args.s.now < c.args.from = search rules in
    record { run = digits_none _ _; small = omega arith; after = byte_out c.args.s.now c.args.from (omega arith); stop = λ k e. absurd (omega arith) }

pub loop-k-init : goal.loop-k-init
loop-k-init c = (omega arith, rw (add-zero c.args.from) (digits_none _ _))

pub loop-k-preserved : goal.loop-k-preserved
loop-k-preserved c =
    let l = c.loop-k in
    let s = c.args.s.now in
    let from = c.args.from in
    let b = get_or c.in-Some.rest.now l.k 0 in
    let y = sym c.is_ascii_digit.ensures.value ∙ c.if-not-is_ascii_digit.false in
    let d = digit_in b y in
    let h : from + l.k < length s = grind arith in
    let e = ap (λ t. get_or t l.k 0) (rest_is s c.in-Some.rest.now from (search rules)) ∙ get_or-drop from s l.k 0 in
    let n : from + (l.k + 1) ≡ from + l.k + 1 = omega arith in
    (omega arith, rw (n, e) (digits_more s from (from + l.k) l.value l.invariant.1 h (rw (sym e) y)))

-- by hand, so that the edit ten_digits is refused for the bound that it changes, not at a limit of the prover
pub returns-then-not-is_ascii_digit : goal.returns-then-not-is_ascii_digit
returns-then-not-is_ascii_digit c =
    let l = c.loop-k in
    let s = c.args.s.now in
    let from = c.args.from in
    let h : from + l.k < length s = grind arith in
    let byte = ap (λ t. get_or t l.k 0) (rest_is s c.in-Some.rest.now from (search rules)) ∙ get_or-drop from s l.k 0 in
    let y = c.is_ascii_digit.ensures.value in
    record {
      run = l.invariant.1;
      small = l.invariant.0;
      after = byte ∙ byte_in s (from + l.k) h;
      stop = λ m e.
          let d = y ∙ ap is_digit byte ∙ e in
          elim c.then-not-is_ascii_digit.either [
            | inl n ↦ absurd (true≢false (sym d ∙ n))
            | inr w ↦ omega arith
          ];
    }
