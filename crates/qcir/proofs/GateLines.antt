-- What the refusals of names leave: each gate line defines a new name, which is used once, after the line; no list has a name twice.
-- Assumes nothing.
use mathlib.Core.Path.{◌≡◌, refl, sym, ◌∙◌, ap}
use mathlib.Core.Bool.{Bool, true, false, not, ◌||◌}
use mathlib.Core.List.{List, [], ◌∷◌, ◌++◌}
use Prim.Native.Nat.{ℕ}
use native.Mathlib.Omega.{arith}
use lib.Dec.{eqb}
use lib.ListN.{length}
use borrow.Author.Tests.{eqb-true, not-false}
use Rattle.lists.specs.Choice.{pick, pick_yes, pick_no, Is, is_true, is_false, look, clash, absent, and_both, or_neither, or_neither_right, or_right}
use Rattle.lists.specs.Members.{mem, times, distinct}
use Rattle.lists.proofs.Members.{mem_head, mem_left, mem_right, mem_tail, times_zero, times_append}
use Rattle.acceptance.specs.Verdict.{is_number}
use Rattle.qcir.specs.File.{Name, Gate, gate_name, gate_variables, gate_inputs, Line, line_variables, prefix_variables, File, numbers_of, names_of}
use Rattle.qcir.specs.Refusals.{gate_names, outer_names, quantified_names, repeated, repeated_in_gates, gates_listed, naming_gates, without, early_uses, misplaced, input_numbers, used_numbers, not_used_once}
use Rattle.qcir.proofs.Keep.{keep_none}
use Rattle.qcir.proofs.Numbers.{line_names, lines_names, all_numbers, Ranged}

-- The parts of an empty list are empty.
empty_left : (xs ys : List ℕ) → xs ++ ys ≡ [] → xs ≡ []
empty_left [] ys e = refl
empty_left (x ∷ xs) ys e = absurd (omega (arith, ap length e))

empty_right : (xs ys : List ℕ) → xs ++ ys ≡ [] → ys ≡ []
empty_right [] ys e = e
empty_right (x ∷ xs) ys e = absurd (omega (arith, ap length e))

not_picked : (b : Bool) (p : ℕ) (r : List ℕ) → pick b (p ∷ []) [] ++ r ≡ [] → (b ≡ false) × (r ≡ [])
unfolding pick
not_picked true p r e = absurd (omega (arith, ap length e))
not_picked false p r e = (refl, e)

-- numbers that a test tells apart
differ : (p : ℕ → Bool) (x y : ℕ) → p x ≡ true → p y ≡ false → eqb x y ≡ false
differ p x y h k = absent (eqb x y) (λ e. clash h (ap p (eqb-true x y e) ∙ k))

pub numbers_append : (xs ys : List Name) → numbers_of (xs ++ ys) ≡ numbers_of xs ++ numbers_of ys
unfolding numbers_of
numbers_append [] ys = refl
numbers_append (x ∷ xs) ys = ap (λ l. x.number ∷ l) (numbers_append xs ys)

repeated_none : (before : List ℕ) (x : Name) (xs : List Name) → repeated before (x ∷ xs) ≡ []
    → (mem x.number before ≡ false) × (repeated (x.number ∷ before) xs ≡ [])
unfolding repeated
repeated_none before x xs e = not_picked _ _ _ e

repeated_new : (before : List ℕ) (xs : List Name) → repeated before xs ≡ [] → (x : ℕ) → mem x (numbers_of xs) ≡ true → mem x before ≡ false
unfolding mem numbers_of
repeated_new before [] e x m = clash m refl
repeated_new before (y ∷ ys) e x m = go (look (eqb x y.number)) (repeated_new (y.number ∷ before) ys)
  where
    go : Is (eqb x y.number)
        → (repeated (y.number ∷ before) ys ≡ [] → (x : ℕ) → mem x (numbers_of ys) ≡ true → mem x (y.number ∷ before) ≡ false)
        → mem x before ≡ false
    go (is_true q) rest = ap (λ z. mem z before) (eqb-true x y.number q) ∙ (repeated_none before y ys e).0
    go (is_false q) rest = or_neither_right (eqb x y.number) (mem x before) (rest (repeated_none before y ys e).1 x (rw q at m))

repeated_distinct : (before : List ℕ) (xs : List Name) → repeated before xs ≡ [] → distinct (numbers_of xs) ≡ true
unfolding distinct numbers_of
repeated_distinct before [] e = refl
repeated_distinct before (y ∷ ys) e =
    let r = repeated_none before y ys e in
    let n : mem y.number (numbers_of ys) ≡ false = absent _ (λ m. clash (mem_head y.number before) (repeated_new (y.number ∷ before) ys r.1 y.number m)) in
    and_both _ _ (ap not n) (repeated_distinct (y.number ∷ before) ys r.1)

-- No number stands twice in names.
abbrev Apart : List Name → Type 0
Apart xs = (before : List ℕ) × (repeated before xs ≡ [])

apart_left : (before : List ℕ) (xs ys : List Name) → repeated before (xs ++ ys) ≡ [] → repeated before xs ≡ []
unfolding repeated pick
apart_left before [] ys e = refl
apart_left before (x ∷ xs) ys e =
    let r = repeated_none before x (xs ++ ys) e in
    rw r.0 (apart_left (x.number ∷ before) xs ys r.1)

apart_right : (before : List ℕ) (xs ys : List Name) → repeated before (xs ++ ys) ≡ [] → Apart ys
apart_right before [] ys e = (before, e)
apart_right before (x ∷ xs) ys e = apart_right (x.number ∷ before) xs ys (repeated_none before x (xs ++ ys) e).1

-- Of names at gate lines: a gate of this or a later line that is not defined before is not among the inputs.
not_early : (before gates : List ℕ) (names : List Name) → naming_gates gates (without before names) ≡ []
    → (x : ℕ) → mem x gates ≡ true → mem x before ≡ false → mem x (numbers_of names) ≡ false
unfolding naming_gates without numbers_of mem
not_early before gates [] e x m n = refl
not_early before gates (y ∷ ys) e x m n = go (look (mem y.number before)) (not_early before gates ys)
  where
    go : Is (mem y.number before)
        → (naming_gates gates (without before ys) ≡ [] → (x : ℕ) → mem x gates ≡ true → mem x before ≡ false → mem x (numbers_of ys) ≡ false)
        → (eqb x y.number || mem x (numbers_of ys)) ≡ false
    go (is_true b) rest =
        or_neither _ _ (differ (λ z. not (mem z before)) x y.number (ap not n) (ap not b))
        (rest (ap (naming_gates gates) (sym (pick_yes _ _ _ b)) ∙ e) x m n)
    go (is_false b) rest =
        let r = not_picked (mem y.number gates) y.position (naming_gates gates (without before ys)) (ap (naming_gates gates) (sym (pick_no _ _ _ b)) ∙ e) in
        or_neither _ _ (differ (λ z. mem z gates) x y.number m r.0) (rest r.1 x m n)

-- Gate lines after lines that define the names `before`, and numbers used after the lines: each defines a new name, used once
-- after it, and quantifies no variable twice; given R, its names are variable numbers.
pub data Lines (R : Type 0) (out : List ℕ) : List ℕ → List Gate → Type 0 where
  no_line : {before : List ℕ} → Lines R out before []
  line : {before : List ℕ} {g : Gate} {gs : List Gate} → mem (gate_name g).number before ≡ false
      → times (gate_name g).number (input_numbers gs ++ out) ≡ 1
      → distinct (numbers_of (gate_variables g)) ≡ true
      → (R → (x : ℕ) → mem x (numbers_of (line_names g)) ≡ true → is_number x ≡ true)
      → Lines R out ((gate_name g).number ∷ before) gs → Lines R out before (g ∷ gs)

module _ (R : Type 0) (out : List ℕ) where
  lines : (before : List ℕ) (gs : List Gate) → repeated before (gate_names gs) ≡ [] → early_uses before gs ≡ [] → repeated_in_gates gs ≡ []
      → ((x : ℕ) → mem x (numbers_of (gate_names gs)) ≡ true → times x (input_numbers gs ++ out) ≡ 1)
      → (R → (x : ℕ) → mem x (numbers_of (lines_names gs)) ≡ true → is_number x ≡ true)
      → Lines R out before gs
  unfolding gate_names early_uses repeated_in_gates input_numbers lines_names numbers_of mem
  lines before [] r e d once ranged = no_line
  lines before (g ∷ gs) r e d once ranged =
      let inputs : List Name = names_of (gate_inputs g) in
      let new = repeated_none before (gate_name g) (gate_names gs) r in
      let early : naming_gates (numbers_of (gate_names (g ∷ gs))) (without before inputs) ≡ [] = empty_left _ _ e in
      let unused : (x : ℕ) → mem x (numbers_of (gate_names (g ∷ gs))) ≡ true → times x (numbers_of inputs) ≡ 0 =
      λ x m. times_zero x _ (not_early before (numbers_of (gate_names (g ∷ gs))) inputs early x m (repeated_new before (gate_names (g ∷ gs)) r x m)) in
      let later : (x : ℕ) → mem x (numbers_of (gate_names (g ∷ gs))) ≡ true → times x (input_numbers gs ++ out) ≡ 1 =
      λ x m. omega (arith, once x m, unused x m, times_append x (numbers_of inputs) (input_numbers gs), times_append x (numbers_of inputs ++ input_numbers gs) out, times_append x (input_numbers gs) out) in
      line new.0 (later (gate_name g).number (mem_head (gate_name g).number (numbers_of (gate_names gs))))
      (repeated_distinct [] (gate_variables g) (empty_left _ _ d))
      (λ h x m. ranged h x (rw (numbers_append (line_names g) (lines_names gs)) (mem_left x (numbers_of (line_names g)) (numbers_of (lines_names gs)) m)))
      (lines ((gate_name g).number ∷ before) gs new.1
      (empty_right (naming_gates (numbers_of (gate_names (g ∷ gs))) (without before inputs)) _ e)
      (empty_right (repeated [] (gate_variables g)) _ d)
      (λ x m. later x (or_right (eqb x (gate_name g).number) (mem x (numbers_of (gate_names gs))) m))
      (λ h x m. ranged h x (rw (numbers_append (line_names g) (lines_names gs)) (mem_right x (numbers_of (line_names g)) (numbers_of (lines_names gs)) m))))

-- The prefix lines: none has a name twice; given R, their names are variable numbers.
pub data Prefix (R : Type 0) : List Line → Type 0 where
  no_prefix : Prefix R []
  prefix_line : {l : Line} {ls : List Line} → distinct (numbers_of (line_variables l)) ≡ true
      → (R → (x : ℕ) → mem x (numbers_of (line_variables l)) ≡ true → is_number x ≡ true) → Prefix R ls → Prefix R (l ∷ ls)

prefix_lines_lem : (R : Type 0) (ls : List Line) → Apart (prefix_variables ls)
    → (R → (x : ℕ) → mem x (numbers_of (prefix_variables ls)) ≡ true → is_number x ≡ true) → Prefix R ls
unfolding prefix_variables
prefix_lines_lem R [] d ranged = no_prefix
prefix_lines_lem R (l ∷ ls) d ranged =
    prefix_line (repeated_distinct d.0 (line_variables l) (apart_left d.0 (line_variables l) (prefix_variables ls) d.1))
    (λ h x m. ranged h x (rw (numbers_append (line_variables l) (prefix_variables ls)) (mem_left x (numbers_of (line_variables l)) (numbers_of (prefix_variables ls)) m)))
    (prefix_lines_lem R ls (apart_right d.0 (line_variables l) (prefix_variables ls) d.1)
    (λ h x m. ranged h x (rw (numbers_append (line_variables l) (prefix_variables ls)) (mem_right x (numbers_of (line_variables l)) (numbers_of (prefix_variables ls)) m))))

-- A file whose names are not refused.
module _ (f : File) (placed : misplaced f ≡ []) where
  gates_once : repeated [] (gate_names f.gates) ≡ []
  unfolding misplaced
  gates_once = empty_left _ _ placed

  after_first : gates_listed (gate_names f.gates) (outer_names f ++ quantified_names f.gates) ++ (early_uses [] f.gates ++ (repeated [] (outer_names f) ++ repeated_in_gates f.gates)) ≡ []
  unfolding misplaced
  after_first = empty_right (repeated [] (gate_names f.gates)) _ placed

  after_second : early_uses [] f.gates ++ (repeated [] (outer_names f) ++ repeated_in_gates f.gates) ≡ []
  after_second = empty_right (gates_listed (gate_names f.gates) (outer_names f ++ quantified_names f.gates)) _ after_first

  after_third : repeated [] (outer_names f) ++ repeated_in_gates f.gates ≡ []
  after_third = empty_right (early_uses [] f.gates) _ after_second

  -- the numbers of the outer names, of the output and of the gate lines
  all_numbers_lem : all_numbers f ≡ numbers_of (outer_names f) ++ (f.output.name.number ∷ numbers_of (lines_names f.gates))
  unfolding all_numbers numbers_of
  all_numbers_lem = numbers_append (outer_names f) (f.output.name ∷ lines_names f.gates)

  once_used : not_used_once f ≡ [] → (x : ℕ) → mem x (numbers_of (gate_names f.gates)) ≡ true
      → times x (input_numbers f.gates ++ (f.output.name.number ∷ [])) ≡ 1
  unfolding not_used_once used_numbers times
  once_used used x m =
      let e : times x (f.output.name.number ∷ input_numbers f.gates) ≡ 1 = eqb-true _ _ (not-false _ (keep_none _ _ used x m)) in
      omega (arith, times_append x (input_numbers f.gates) (f.output.name.number ∷ []))

  pub gate_lines : not_used_once f ≡ [] → Lines (Ranged f) (f.output.name.number ∷ []) [] f.gates
  gate_lines used =
      lines (Ranged f) (f.output.name.number ∷ []) [] f.gates gates_once
      (empty_left _ _ after_second)
      (empty_right (repeated [] (outer_names f)) _ after_third)
      (once_used used)
      (λ r x m. r.ranged x (rw all_numbers_lem (mem_right x (numbers_of (outer_names f)) _ (mem_tail x f.output.name.number _ m))))

  pub prefix_proper : Prefix (Ranged f) f.prefix
  unfolding outer_names
  prefix_proper =
      prefix_lines_lem (Ranged f) f.prefix
      (apart_right [] f.free (prefix_variables f.prefix) (empty_left _ _ after_third))
      (λ r x m. r.ranged x (rw all_numbers_lem (mem_left x (numbers_of (f.free ++ prefix_variables f.prefix)) _
      (rw (numbers_append f.free (prefix_variables f.prefix)) (mem_right x (numbers_of f.free) _ m)))))

  pub output_ranged : Ranged f → is_number f.output.name.number ≡ true
  output_ranged r = r.ranged _ (rw all_numbers_lem (mem_right _ (numbers_of (outer_names f)) _ (mem_head _ _)))
