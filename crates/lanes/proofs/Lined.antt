-- Lines of a probe's file, read one after another. Assumes nothing.
use Prim.Native.Nat.{ℕ, suc, ◌+◌, ◌-◌, ◌*◌, ◌≤◌, ◌<◌}
use mathlib.Core.Path.{◌≡◌, refl, sym, ap, ◌∙◌}
use mathlib.Core.Bool.{Bool, true, false, cond as pick}
use mathlib.Core.List.{List, [], ◌∷◌, ◌++◌, append_assoc}
use mathlib.Core.Logic.{◌⊎◌, ⊎_elim}
use mathlib.Core.Option.{Option, none, some}
use native.Mathlib.Omega.{arith}
use borrow.Rule.Slice.PartMut.{put_mid}
use lib.Dec.{ltb}
use lib.ListN.{length, take, drop, drop_of_length-le}
use lib.Seq.{sets, sets-eq, take-nil, drop-drop}
use Rattle.std.specs.Prelude.{Option as Maybe, Some, None, Result, Ok, Err}
use Rattle.text.specs.declared.nines.Nine.{Nine}
use Rattle.text.specs.Lines.{lines_of, first_line, passed, passed_by}
use Rattle.text.specs.Reading.{fields_of, values_of}
use Rattle.text.specs.Nines.{nine_in, nined, nine_at}
use Rattle.text.proofs.Laws.{exactly_long}
use Rattle.text.proofs.Lines.{lines_at}
use Rattle.text.proofs.Stores.{sets_append}
use Rattle.probes.specs.Records.{words_of, time_of}
use Rattle.lanes.specs.declared.filling.LineRefusal.{LineRefusal}
use Rattle.lanes.specs.declared.filling.LineRefusal.TheVariants.{Unreadable, TimeFalls}
use Rattle.lanes.specs.declared.filling.Filled.{Filled}
use Rattle.lanes.specs.Files.{Read, stopped, begun, read_line, read_lines}
use Rattle.lanes.specs.Parts.{read_in}
use Rattle.lanes.specs.Refusals.{number_of_line, line_refused}
use Rattle.lanes.specs.Steps.{accepted, filled}

-- what is put at a place of a list
pub put_there : (d : List ℕ) (at k : ℕ) (new w : List ℕ) → new ≡ w → length w ≡ k → at + k ≤ length d → put_mid at k d new ≡ sets d at w
put_there d at k new w e n h =
    rw (e, ← n, drop-drop) (sym (sets-eq w d at (omega arith) ∙ append_assoc (take at d) w _ ∙ ap (λ (j : ℕ). take at d ++ (w ++ drop j d)) (omega arith)))

-- ---- one line

-- the numbers of a line, as `take_nine` gives them
abbrev pub given : Option (List ℕ) → Maybe (List ℕ)
given none = None
given (some x) = Some x

pub next_any : (o : Option (List ℕ)) (m : ℕ) → (nined o m).next ≡ m
unfolding nined
next_any none m = refl
next_any (some x) m = refl

numbers_any : (o : Option (List ℕ)) (m : ℕ) → (nined o m).numbers ≡ given o
unfolding nined
numbers_any none m = refl
numbers_any (some x) m = refl

-- a number that is told stands for its refusal
pub told_back : (why : LineRefusal) → line_refused (number_of_line why) ≡ Some why
unfolding line_refused
told_back Unreadable = refl
told_back TimeFalls = refl

number_at : Result (List ℕ) LineRefusal → ℕ
number_at (Ok x) = 0
number_at (Err why) = number_of_line why

numbers_at : Result (List ℕ) LineRefusal → List ℕ
numbers_at (Ok x) = x
numbers_at (Err why) = []

-- a line that is refused, and one that is not
module _ (t : ℕ) (next : ℕ → Read) where
  pub refused_line : (o : Option (List ℕ)) (why : LineRefusal) → Err why ≡ accepted (given o) t → read_line o t next ≡ stopped (number_of_line why) t
  unfolding accepted read_line number_at
  refused_line none why e = ap (λ (r : Result (List ℕ) LineRefusal). stopped (number_at r) t) (sym e)
  refused_line (some x) why e = by (ltb (time_of x) t) e
    where
      by : (b : Bool) → Err why ≡ pick b (Err TimeFalls) (Ok x) → pick b (stopped 24 t) (begun x (next (time_of x))) ≡ stopped (number_of_line why) t
      by true k = ap (λ (r : Result (List ℕ) LineRefusal). stopped (number_at r) t) (sym k)
      by false k = absurd (let z : ◌≡◌ {A = ℕ} 0 1 = cc in omega arith)

  pub taken_line : (o : Option (List ℕ)) (x : List ℕ) → Ok x ≡ accepted (given o) t
      → (read_line o t next ≡ begun x (next (time_of x))) × (o ≡ some x)
  unfolding accepted read_line numbers_at
  taken_line none x e = absurd (let z : ◌≡◌ {A = ℕ} 0 1 = cc in omega arith)
  taken_line (some y) x e = by (ltb (time_of y) t) e
    where
      by : (b : Bool) → Ok x ≡ pick b (Err TimeFalls) (Ok y) → (pick b (stopped 24 t) (begun y (next (time_of y))) ≡ begun x (next (time_of x))) × (some y ≡ some x)
      by true k = absurd (let z : ◌≡◌ {A = ℕ} 0 1 = cc in omega arith)
      by false k = let f : y ≡ x = ap numbers_at (sym k) in (rw f, rw f)

-- ---- lines in sequence

-- what the lines that are left give
abbrev left_read : List ℕ → ℕ → ℕ → ℕ → ℕ → Read
left_read s k i j t = read_lines (take (k - j) (lines_of (drop i s))) t

-- j records are put, and no line was refused; what is left gives the whole
pub record Filling (s words₀ : List ℕ) (t₀ k j : ℕ) (f : Filled) (words : List ℕ) : Type 0 where
  pub count : f.count ≡ 9 * j
  pub accepts : f.refused ≡ None
  pub many : j + length (left_read s k f.next j f.time).records ≡ length (read_in k s t₀).records
  pub next : f.next + passed_by (length (left_read s k f.next j f.time).records) (drop f.next s) ≡ passed_by (length (read_in k s t₀).records) s
  pub time : (left_read s k f.next j f.time).time ≡ (read_in k s t₀).time
  pub number : (left_read s k f.next j f.time).number ≡ (read_in k s t₀).number
  pub stored : sets words (9 * j) (words_of (left_read s k f.next j f.time).records) ≡ sets words₀ 0 (words_of (read_in k s t₀).records)

module _ (s words₀ : List ℕ) (t₀ k j : ℕ) (f : Filled) (words : List ℕ) (g : Filling s words₀ t₀ k j f words) where
  abbrev i : ℕ
  i = f.next

  abbrev t : ℕ
  t = f.time

  -- nothing more is read
  ended : (n : ℕ) → left_read s k i j t ≡ stopped n t
      → (record { count = f.count; next = i; time = t; refused = line_refused n } ≡ filled t₀ s k) × (words ≡ sets words₀ 0 (words_of (read_in k s t₀).records))
  unfolding filled words_of passed_by
  ended n e =
      let m : j + 0 ≡ length (read_in k s t₀).records = ap (λ (r : Read). j + length r.records) (sym e) ∙ g.many in
      let x : i + 0 ≡ passed_by (length (read_in k s t₀).records) s
      = ap (λ (r : Read). i + passed_by (length r.records) (drop i s)) (sym e) ∙ g.next in
      let u : t ≡ (read_in k s t₀).time = ap (λ (r : Read). r.time) (sym e) ∙ g.time in
      let v : n ≡ (read_in k s t₀).number = ap (λ (r : Read). r.number) (sym e) ∙ g.number in
      let h = g.count in
      let c : f.count ≡ 9 * length (read_in k s t₀).records = omega arith in
      let y : i ≡ passed_by (length (read_in k s t₀).records) s = omega arith in (
        λ z. record { count = c z; next = y z; time = u z; refused = line_refused (v z) },
        ap (λ (r : Read). sets words (9 * j) (words_of r.records)) (sym e) ∙ g.stored,
      )

  module _ (h : i < length s) (l : j < k) where
    left_cons : take (k - j) (lines_of (drop i s)) ≡ first_line (drop i s) ∷ take (k - (j + 1)) (lines_of (drop (i + passed (drop i s)) s))
    left_cons = let e : k - j ≡ suc (k - (j + 1)) = omega arith in rw (e, lines_at s i h)

    left_read_lem : left_read s k i j t ≡ read_line (nine_in (first_line (drop i s))) t (read_lines (take (k - (j + 1)) (lines_of (drop (i + passed (drop i s)) s))))
    unfolding read_lines
    left_read_lem = rw left_cons

    -- a line was read
    abbrev o : Option (List ℕ)
    o = nine_in (first_line (drop i s))

    abbrev m : ℕ
    m = i + passed (drop i s)

    abbrev rest : ℕ → Read
    rest = read_lines (take (k - (j + 1)) (lines_of (drop m s)))

    module _ (r : Nine) (line : r ≡ nine_at s i) where
      numbers_are : r.numbers ≡ given o
      unfolding nine_at
      numbers_are = ap (λ (x : Nine). x.numbers) line ∙ numbers_any o m

      next_is : r.next ≡ m
      unfolding nine_at
      next_is = ap (λ (x : Nine). x.next) line ∙ next_any o m

      -- it is refused
      pub filling_refused : (why : LineRefusal) → Err why ≡ accepted r.numbers t
          → (record { count = f.count; next = i; time = t; refused = Some why } ≡ filled t₀ s k) × (words ≡ sets words₀ 0 (words_of (read_in k s t₀).records))
      filling_refused why e =
          let n = ended (number_of_line why) (left_read_lem ∙ refused_line t rest o why (e ∙ ap (λ (y : Maybe (List ℕ)). accepted y t) numbers_are)) in
          (ap (λ (r : Maybe LineRefusal). record { count = f.count; next = i; time = t; refused = r }) (sym (told_back why)) ∙ n.0, n.1)

      -- or its record is put
      module _ (x : List ℕ) (e : Ok x ≡ accepted r.numbers t) where
        abbrev later : Read
        later = rest (time_of x)

        taken : (left_read s k i j t ≡ begun x later) × (o ≡ some x)
        taken = let a = taken_line t rest o x (e ∙ ap (λ (y : Maybe (List ℕ)). accepted y t) numbers_are) in (left_read_lem ∙ a.0, a.1)

        nine : length x ≡ 9
        unfolding nine_in
        nine = exactly_long 9 (values_of (fields_of (first_line (drop i s)))) x taken.1

        after_line : passed_by (suc (length later.records)) (drop i s) ≡ passed (drop i s) + passed_by (length later.records) (drop m s)
        unfolding passed_by
        after_line = ap (λ (y : List ℕ). passed (drop i s) + passed_by (length later.records) y) (drop-drop (passed (drop i s)) i s)

        pub filling_more : (words' : List ℕ) → words' ≡ sets words (9 * j) x
            → Filling s words₀ t₀ k (j + 1) (record { count = 9 * j + 9; next = r.next; time = time_of x; refused = None }) words'
        unfolding words_of
        filling_more words' w =
            let l = taken.0 in
            let a = ap (λ (y : Read). length y.records) l in
            let b : 9 * (j + 1) ≡ 9 * j + length x = let q = nine in omega arith in
            record {
              count = omega arith;
              accepts = refl;
              many = let q = g.many in rw next_is (omega arith);
              next = let q = ap (λ (y : Read). passed_by (length y.records) (drop i s)) l in let p = g.next in let u = after_line in rw next_is (omega arith);
              time = rw next_is (ap (λ (y : Read). y.time) (sym l) ∙ g.time);
              number = rw next_is (ap (λ (y : Read). y.number) (sym l) ∙ g.number);
              stored =
                  rw (next_is, b, w) (sym (sets_append x (words_of later.records) words (9 * j))
                  ∙ ap (λ (y : Read). sets words (9 * j) (words_of y.records)) (sym l)
                  ∙ g.stored);
            }

  -- the room or the input is used up
  full : k ≤ j → left_read s k i j t ≡ stopped 0 t
  unfolding read_lines
  full h = let z : k - j ≡ 0 = omega arith in rw z

  none_left : length s ≤ i → left_read s k i j t ≡ stopped 0 t
  unfolding read_lines lines_of
  none_left h = rw (drop_of_length-le s h, take-nil {A = List ℕ} (k - j))

  pub filling_end : (k ≤ j) ⊎ (length s ≤ i) → (f ≡ filled t₀ s k) × (words ≡ sets words₀ 0 (words_of (read_in k s t₀).records))
  unfolding line_refused
  filling_end h =
      let n = ended 0 (⊎_elim full none_left h) in
      (ap (λ (r : Maybe LineRefusal). record { count = f.count; next = i; time = t; refused = r }) g.accepts ∙ n.0, n.1)
