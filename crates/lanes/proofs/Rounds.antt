-- What `turn` gives, from what `join_print` and `move_rest` give. Assumes nothing.
use Prim.Native.Nat.{ℕ, ◌+◌, ◌/◌, ◌≤◌, ◌<◌, min}
use mathlib.Core.Path.{◌≡◌, refl, sym, ap, subst₂, ◌∙◌}
use mathlib.Core.Bool.{Bool, true, false, cond as pick}
use mathlib.Core.List.{List, ◌++◌, append_assoc}
use native.Mathlib.Omega.{arith}
use borrow.Author.Tests.{eq-eqb, ne_eqb, lt-ltb, le-ltb}
use lib.ListN.{length, take, drop, length-take, take-append-drop}
use lib.Seq.{sets, sets-eq, take-length, drop-append-le}
use native.Mathlib.Nat.{zero-add}
use Rattle.std.specs.Prelude.{Some, None}
use Rattle.held.proofs.Fronts.{take_least}
use Rattle.probes.specs.Records.{records_of, words_of}
use Rattle.probes.specs.declared.joining.Refusal.{Refusal}
use Rattle.probes.specs.declared.joining.Refusal.TheVariants.{Uneven, NoRoom, TimeFalls}
use Rattle.probes.specs.Joins.{number_for, number_by, number_of, join_of}
use Rattle.lanes.specs.declared.turning.Turned.{Turned}
use Rattle.lanes.specs.declared.turning.Left.{Left}
use Rattle.lanes.specs.Program.{text_of}
use Rattle.lanes.specs.Refusals.{number_in, turn_refused}
use Rattle.lanes.specs.Parts.{part_of, turn_number, turn_text, left_first, left_second, third_words, turned, Turns}
use Rattle.lanes.proofs.Links.{left_fits}
use Rattle.lanes.proofs.Shown.{some_number}
use Rattle.lanes.specs.Steps.{join_text, Prints, Leaves, MovesUp, TurnsBoth}

-- a number stands for its refusal
told_back : (why : Refusal) → turn_refused (number_for why) ≡ Some why
unfolding turn_refused
told_back Uneven = refl
told_back NoRoom = refl
told_back TimeFalls = refl

-- a list's front put over itself, and the whole list
own_front : (d : List ℕ) (n : ℕ) → d ≡ sets d 0 (take n d)
own_front d n =
    let k = length (take n d) in
    let l = length-take n d in
    sym (sets-eq (take n d) d 0 (omega arith)
    ∙ ap (λ (j : ℕ). take n d ++ drop j d) (zero-add k)
    ∙ ap (λ (w : List ℕ). w ++ drop k d) (sym (take_least n k d l))
    ∙ take-append-drop k d)

own_all : (d : List ℕ) → d ≡ sets d 0 d
own_all d = own_front d (length d) ∙ ap (sets d 0) (take-length d)

-- ---- two lists, and all of both

module _ (a b third out : List ℕ) where
  abbrev room : ℕ
  room = length third

  abbrev bytes : ℕ
  bytes = length out

  abbrev Gives : Turned → List ℕ → List ℕ → List ℕ → List ℕ → Type 0
  Gives r a' b' third' out' = TurnsBoth a b third out a' b' third' out' r

  -- a refused turn leaves all as it was
  refuses : (why : Refusal) → number_for why ≡ turn_number a b room bytes
      → Gives (record { refused = Some why; first = length a; second = length b; written = 0 }) a b third out
  unfolding turned left_first left_second third_words turn_text
  refuses why e =
      let n₀ = ne_eqb (turn_number a b room bytes) 0 (λ f. some_number why (e ∙ f)) in
      record {
        returned = rw (n₀, ← e, told_back why);
        firsts = rw n₀ (own_all a);
        seconds = rw n₀ (own_all b);
        thirds = rw n₀;
        text = rw n₀;
      }

  pub no_text : bytes / 11 < length a + length b → Gives (record { refused = Some NoRoom; first = length a; second = length b; written = 0 }) a b third out
  unfolding turn_number
  no_text h = refuses NoRoom (rw (lt-ltb (bytes / 11) (length a + length b) h))

  module _ (h : length a + length b ≤ bytes / 11) where
    number_is : number_of a b room ≡ turn_number a b room bytes
    unfolding turn_number
    number_is = rw (le-ltb (bytes / 11) (length a + length b) h)

    module _ (third' out' : List ℕ) (number rest count : ℕ) (g : Prints a b third out third' out' number rest count) where
      pub refused : (why : Refusal) → number ≡ number_for why → Gives (record { refused = Some why; first = length a; second = length b; written = 0 }) a b third' out'
      unfolding join_text join_of words_of
      refused why e =
          let n₀ = ne_eqb (number_of a b room) 0 (λ f. some_number why (sym e ∙ g.numbered ∙ f)) in
          let o : out ≡ out' = sym (g.bytes ∙ rw n₀) in
          let u : third ≡ third' = sym (g.stored ∙ rw n₀) in
          subst₂ (λ (v w : List ℕ). Gives (record { refused = Some why; first = length a; second = length b; written = 0 }) a b v w) u o
          (refuses why (sym e ∙ g.numbered ∙ number_is))

      module _ (z : number ≡ 0) where
        accept : number_of a b room ≡ 0
        accept = sym g.numbered ∙ z

        -- `move_rest` may be called
        pub leaves : Leaves a b rest
        leaves = record { room = room; accepted = accept; words = g.left accept }

        pub done : (a' b' : List ℕ) (k : Left) → MovesUp a b a' b' k
            → Gives (record { refused = None; first = k.first; second = k.second; written = count }) a' b' third' out'
        unfolding turned left_first left_second third_words turn_text join_text turn_refused
        done a' b' k v =
            let e : turn_number a b room bytes ≡ 0 = sym number_is ∙ accept in
            let n₀ = eq-eqb (turn_number a b room bytes) 0 e in
            let n₁ = eq-eqb (number_of a b room) 0 accept in
            let w : count ≡ length (text_of (part_of (records_of a) (records_of b)).printed) = g.written ∙ rw n₁ in
            record {
              returned = rw (n₀, e, v.firsts, v.seconds, w);
              firsts = rw n₀ v.moved_first;
              seconds = rw n₀ v.moved_second;
              thirds = rw n₀ g.stored;
              text = rw n₀ (g.bytes ∙ rw n₁);
            }

-- ---- the first words of two lists

-- what is put over a part stands in the whole
front_part : (d kept : List ℕ) (n x : ℕ) → x ≡ min n (length d) → length kept ≤ length (take n d) → sets (take n d) 0 kept ++ drop x d ≡ sets d 0 kept
front_part d kept n x e h =
    let l = length-take n d in
    let p = take n d in
    let z = zero-add (length kept) in
    let w : p ++ drop x d ≡ d = ap (λ (q : List ℕ). q ++ drop x d) (sym (take_least n x d e)) ∙ take-append-drop x d in
    ap (λ (q : List ℕ). q ++ drop x d) (sets-eq kept p 0 (omega arith) ∙ rw z)
    ∙ append_assoc kept (drop (length kept) p) (drop x d)
    ∙ ap (λ (q : List ℕ). kept ++ q) (sym (drop-append-le (length kept) p (drop x d) h) ∙ ap (drop (length kept)) w)
    ∙ sym (sets-eq kept d 0 (omega arith) ∙ rw z)

-- a turn's number is told back
told_by : (t l r f : Bool) → number_in number_for (turn_refused (pick t 21 (number_by l r f))) ≡ pick t 21 (number_by l r f)
unfolding turn_refused number_by
told_by true l r f = refl
told_by false true r f = refl
told_by false false true f = refl
told_by false false false true = refl
told_by false false false false = refl

module _ (first second third out : List ℕ) (n m x y : ℕ) (ex : x ≡ min n (length first)) (ey : y ≡ min m (length second)) where
  pub of_first_words : (a' b' third' out' : List ℕ) (r : Turned) → TurnsBoth (take x first) (take y second) third out a' b' third' out' r
      → Turns first n second m third out (a' ++ drop x first) (b' ++ drop y second) third' out' r
  unfolding turned turn_number number_of
  of_first_words a' b' third' out' r g₀ =
      let a = take n first in
      let b = take m second in
      let g = subst₂ (λ (u v : List ℕ). TurnsBoth u v third out a' b' third' out' r) (take_least n x first ex) (take_least m y second ey) g₀ in
      let f = left_fits a b (length third) (length out) in
      record {
        returned = g.returned;
        number = ap (λ (t : Turned). number_in number_for t.refused) g.returned ∙ told_by _ _ _ _;
        firsts = ap (λ (w : List ℕ). w ++ drop x first) g.firsts ∙ front_part first _ n x ex f.0;
        seconds = ap (λ (w : List ℕ). w ++ drop y second) g.seconds ∙ front_part second _ m y ey f.1;
        thirds = g.thirds;
        text = g.text;
      }
