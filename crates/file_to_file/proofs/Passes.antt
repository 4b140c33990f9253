-- The prenex form of a table passes the form check.
-- Assumes nothing.
use mathlib.Core.Path.{◌≡◌, refl, sym, ◌∙◌, ap}
use mathlib.Core.Bool.{true, ◌||◌}
use mathlib.Core.List.{List, ◌++◌, flat_map}
use Prim.Native.Nat.{ℕ, zero, suc, ◌+◌, ◌*◌, ◌-◌, ◌/◌, ◌<◌, ◌≤◌}
use native.Mathlib.Omega.{arith}
use lib.Dec.{eqb, leb}
use lib.ListN.{length, get_or, take, drop}
use lib.Seq.{take-add, drop-drop, take_all}
use borrow.Author.Tests.{leb-true, le-leb, eq-eqb, eqb-false}
use Rattle.lists.specs.Choice.{Is, is_true, is_false, look, and_left, and_right, and_both, or_left, or_right}
use Rattle.lists.specs.Parts.{sum}
use Rattle.lists.proofs.Members.{all_mem, all_intro}
use Rattle.lists.proofs.Parts.{sum_grows}
use Rattle.formula.specs.Node.{Table}
use Rattle.formula.specs.Words.{is_block_kind, range}
use Rattle.formula.specs.Form.{prefix_width, block_at, blocks_from, blocks_of}
use Rattle.acceptance.specs.Verdict.{is_number_to}
use Rattle.prenex_form.specs.Promise.{highest_name, PrenexOf}
use Rattle.prenex_form.proofs.Theorem.{matrix_accepted}
use Rattle.form_check.specs.Accepted.{AcceptedForm, prefix_names}
use Rattle.form_check.proofs.Accepted.{holds_form}
use Rattle.file_to_file.specs.FileToFile.{LiftPasses}

-- A range in two parts.
range_append : (xs : List ℕ) (s a b : ℕ) → range xs s (a + b) ≡ range xs s a ++ range xs (s + a) b
unfolding range
range_append xs s a b = take-add a b (drop s xs) ∙ ap (λ (ys : List ℕ). take a (drop s xs) ++ take b ys) (drop-drop a s xs)

-- The first list entry and the count of block j.
unfoldable first_at : List ℕ → ℕ → ℕ
first_at ps j = get_or ps (prefix_width * j + 1) 0

unfoldable count_at : List ℕ → ℕ → ℕ
count_at ps j = get_or ps (prefix_width * j + 2) 0

sum_next : (f : ℕ → ℕ) (n : ℕ) → sum f (suc n) ≡ sum f n + f n
unfolding sum
sum_next f n = refl

block_names : (ps xs : List ℕ) (j s : ℕ) → first_at ps j ≡ s → (block_at ps xs j).variables ≡ range xs s (count_at ps j)
unfolding block_at first_at count_at
block_names ps xs j s h = ap (λ (k : ℕ). range xs k (get_or ps (prefix_width * j + 2) 0)) h

-- Where ranges follow one another, the blocks' names are the list's entries, one range after the other.
names_follow : (ps xs : List ℕ) (m j : ℕ) → ((k : ℕ) → k < j + m → first_at ps k ≡ sum (count_at ps) k)
    → (r : ℕ) → sum (count_at ps) j + r ≡ sum (count_at ps) (j + m)
    → prefix_names (blocks_from ps xs j m) ≡ range xs (sum (count_at ps) j) r
unfolding blocks_from prefix_names flat_map range
names_follow ps xs zero j follow r e =
    let z : r ≡ 0 = omega (arith, e, ap (sum (count_at ps)) (let w : j + 0 ≡ j = omega arith in w)) in
    rw z
names_follow ps xs (suc m) j follow r e =
    let c = count_at ps j in
    let s = sum (count_at ps) j in
    let next : sum (count_at ps) (suc j) ≡ s + c = sum_next (count_at ps) j in
    let move : j + suc m ≡ suc j + m = omega arith in
    let grows : sum (count_at ps) (suc j) ≤ sum (count_at ps) (suc j + m) = sum_grows (count_at ps) (suc j) (suc j + m) (omega arith) in
    let far : s + r ≡ sum (count_at ps) (suc j + m) = e ∙ ap (sum (count_at ps)) move in
    let split : c + (r - c) ≡ r = omega (arith, next, grows, far) in
    let rest : sum (count_at ps) (suc j) + (r - c) ≡ sum (count_at ps) (suc j + m) = omega (arith, next, grows, far) in
    let later = names_follow ps xs m (suc j) (λ k h. follow k (omega arith)) (r - c) rest in
    let here : (block_at ps xs j).variables ≡ range xs s c = block_names ps xs j s (follow j (omega arith)) in
    ap (λ (ys : List ℕ). ys ++ prefix_names (blocks_from ps xs (suc j) m)) here
    ∙ (ap (λ (ys : List ℕ). range xs s c ++ ys) (later ∙ ap (λ (k : ℕ). range xs k (r - c)) next)
    ∙ (sym (range_append xs s c (r - c)) ∙ ap (range xs s) split))

-- They are all of the list, where the ranges fill it.
names_fill : (ps xs : List ℕ) → ((k : ℕ) → k < length ps / prefix_width → first_at ps k ≡ sum (count_at ps) k)
    → sum (count_at ps) (length ps / prefix_width) ≡ length xs → prefix_names (blocks_of ps xs) ≡ xs
unfolding blocks_of range sum
names_fill ps xs follow fill =
    let m = length ps / prefix_width in
    let e : 0 + m ≡ m = omega arith in
    names_follow ps xs m 0 (λ k h. follow k (omega (arith, h, e))) (length xs) (let z : sum (count_at ps) (0 + m) ≡ length xs = ap (sum (count_at ps)) e ∙ fill in omega (arith, z))
    ∙ take_all (length xs) xs (omega arith)

kind_between : (k : ℕ) → 5 ≤ k → k ≤ 6 → is_block_kind k ≡ true
unfolding is_block_kind
kind_between k l h = go (look (eqb k 5))
  where
    go : Is (eqb k 5) → (eqb k 5 || eqb k 6) ≡ true
    go (is_true e) = or_left (eqb k 5) (eqb k 6) e
    go (is_false e) = or_right (eqb k 5) (eqb k 6) (eq-eqb k 6 (let ne : k ≡ 5 → ⊥ = eqb-false k 5 e in omega (arith, l, h, ne)))

number_to : (m k x : ℕ) → m ≤ k → is_number_to m x ≡ true → is_number_to k x ≡ true
unfolding is_number_to
number_to m k x l h =
    and_both (leb 1 x) (leb x k) (and_left (leb 1 x) (leb x m) h) (le-leb x k (let top : x ≤ m = leb-true x m (and_right (leb 1 x) (leb x m) h) in omega (arith, top, l)))

module _ (t : Table) (ns ps xs : List ℕ) (p : PrenexOf t ns ps xs) where
  names_all : prefix_names (blocks_of ps xs) ≡ xs
  unfolding first_at count_at
  names_all = names_fill ps xs p.ranges_follow p.ranges_fill

  ranges_fit : (j : ℕ) → j < length ps / prefix_width → first_at ps j + count_at ps j ≤ length xs
  unfolding first_at count_at
  ranges_fit j h =
      let c = count_at ps in
      let grows : sum c (suc j) ≤ sum c (length ps / prefix_width) = sum_grows c (suc j) (length ps / prefix_width) (omega arith) in
      omega (arith, p.ranges_follow j h, sum_next c j, grows, p.ranges_fill)

  form_accepted : AcceptedForm ns ps xs
  unfolding first_at count_at
  form_accepted =
      record {
        matrix = matrix_accepted t ns ps xs p;
        whole = p.whole_blocks;
        kinds = λ j h. kind_between _ (p.block_kinds_from j h) (p.block_kinds_to j h);
        fits = ranges_fit;
        numbered = rw names_all (all_intro _ xs (λ x m. number_to (highest_name t) 77823 x p.names_limit (all_mem _ xs x p.prefix_names_lem m)));
        apart = rw names_all p.bound_once;
      }

pub lift_passes : LiftPasses
lift_passes t ns ps xs p = holds_form _ ns ps xs (form_accepted t ns ps xs p)
