-- What `read_more` leaves, in each of its four ways. Assumes nothing.
use Rattle.std.proofs.Common.{ℕ, ◌+◌, ◌-◌, ◌≤◌, ◌<◌, min, ◌≡◌, refl, ap, ◌∙◌, Bool, true, false, List, length, take, Ok, Err, arith}
use borrow.Rule.Slice.PartMut.{mid_of, put_mid, mid_len, take_put}
use Rattle.std.specs.declared.io.Error.{Error}
use Rattle.held.specs.Wholes.{whole_of}
use Rattle.streams.specs.declared.reading.More.{More}
use Rattle.streams.specs.Reads.{Unread, Reads}

-- nothing is read
abbrev same : ℕ → More
same n = record { held = n; last = false }

-- with no room for a byte, or with a whole line held
unread : (d : List ℕ) (h n : ℕ) → n ≡ min h (length d) → (whole_of (take h d) ≡ 0 → h < length d → ⊥) → Reads d h d (Ok (same n))
unread d h n e f =
    let u : Unread d h d (Ok (same n)) = record { bytes = refl; value = ap (λ m. Ok (same m)) e } in
    record {
      front = refl;
      got = record { kept = omega arith; fits = omega arith; ended = λ _. e; more = λ z l _. absurd (f z l) };
      whole = λ _. u;
      full = λ _. u;
    }

pub reads_full : (d : List ℕ) (h : ℕ) → length d ≤ h → Reads d h d (Ok (same (length d)))
reads_full d h f = unread d h (length d) (omega arith) (λ _ l. absurd (omega arith))

module _ (d : List ℕ) (h w : ℕ) (e₀ : w ≡ whole_of (take (h - 0) d)) where
  e : w ≡ whole_of (take h d)
  e = let n : h - 0 ≡ h = omega arith in e₀ ∙ ap (λ (m : ℕ). whole_of (take m d)) n

  pub reads_line : h ≤ length d → 0 < w → Reads d h d (Ok (same h))
  reads_line l s = unread d h h (omega arith) (λ z _. let n = e ∙ z in absurd (omega arith))

  module _ (l : h < length d) (z : w ≤ 0) (ys : List ℕ) (k : length ys ≡ length (mid_of h (length d - h) d)) where
    abbrev after : List ℕ
    after = put_mid h (length d - h) d ys

    no_line : whole_of (take h d) ≡ 0
    no_line = let n = e in omega arith

    front_same : take h after ≡ take h d
    front_same = take_put h (length d - h) d ys (omega arith)

    -- a read that gave m bytes; `last` says whether it gave none
    pub reads_some : (m : ℕ) (last : Bool) → (last ≡ true → m ≡ 0) → (last ≡ false → m ≡ 0 → ⊥) → m ≤ length ys → Reads d h after (Ok (record { held = h + m; last = last }))
    reads_some m last ends goes b =
        let n = k ∙ mid_len h (length d) d (omega arith) in
        record {
          front = front_same;
          got =
              record {
                kept = omega arith;
                fits = omega arith;
                ended = λ x. let y = ends x in omega arith;
                more = λ _ _ x. let f = goes x in omega arith;
              };
          whole = λ f. absurd (f no_line);
          full = λ f. absurd (omega arith);
        }

    -- and one that failed
    pub reads_none : (why : Error) → Reads d h after (Err why)
    reads_none why =
        record { front = front_same; got = tt; whole = λ f. absurd (f no_line); full = λ f. absurd (omega arith) }
