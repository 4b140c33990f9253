-- The names of a prefix, block by block: where each stands for the first time.
-- Assumes nothing.
use mathlib.Core.Path.{◌≡◌, refl, sym, ◌∙◌, ap}
use mathlib.Core.Bool.{Bool, true, false, not, ◌&&◌, ◌||◌, and-true}
use mathlib.Core.List.{List, [], ◌∷◌, ◌++◌, flat_map, append_assoc, append-nil}
use Prim.Native.Nat.{ℕ, zero, suc, ◌+◌, ◌/◌, ◌<◌, ◌≤◌}
use native.Mathlib.Nat.{not-suc-le-zero}
use native.Mathlib.Omega.{arith}
use lib.Dec.{eqb, ltb}
use lib.ListN.{length}
use borrow.Author.Tests.{ltb-true, ltb-false, not-true}
use Rattle.lists.specs.Choice.{Is, is_true, is_false, look, and_left, and_right, and_both}
use Rattle.lists.specs.Members.{mem, all, distinct}
use Rattle.lists.specs.Parts.{up_to}
use Rattle.lists.proofs.Members.{mem_append, eqb_swap, all_mem, all_intro}
use Rattle.lists.proofs.Parts.{mem-up_to, mem_up_to_from}
use Rattle.formula.specs.Form.{prefix_width, block_at, blocks_from, blocks_of}
use Rattle.form_check.specs.Verdict.{repeats, names_before}
use Rattle.form_check.specs.Accepted.{prefix_names}

-- An element may be put first: that changes nothing in whether all are distinct.

shuffle : (p q r m d : Bool) → (not (p || (q || r)) && (not m && d)) ≡ (not (q || m) && (not (p || r) && d))
shuffle true true r m d = refl
shuffle true false r true d = refl
shuffle true false r false d = refl
shuffle false true r m d = refl
shuffle false false true true d = refl
shuffle false false true false d = refl
shuffle false false false true d = refl
shuffle false false false false d = refl

distinct_middle : (bs : List ℕ) (x : ℕ) (xs : List ℕ) → distinct (bs ++ (x ∷ xs)) ≡ distinct (x ∷ (bs ++ xs))
unfolding distinct mem
distinct_middle [] x xs = refl
distinct_middle (b ∷ bs) x xs =
    rw (mem_append b bs (x ∷ xs), distinct_middle bs x xs, eqb_swap x b, mem_append b bs xs)
    (shuffle (mem b bs) (eqb b x) (mem b xs) (mem x (bs ++ xs)) (distinct (bs ++ xs)))

-- An element stands earlier exactly where the elements before the list and its own are not all distinct, if those before it are.

regroup : (m d r : Bool) → ((not m && d) && not r) ≡ (d && not (m || r))
regroup true true r = refl
regroup true false r = refl
regroup false true r = refl
regroup false false r = refl

pub repeats_distinct : (before xs : List ℕ) → distinct (before ++ xs) ≡ (distinct before && not (repeats before xs))
unfolding repeats distinct
repeats_distinct before [] = ap distinct (append-nil before) ∙ sym (and-true (distinct before))
repeats_distinct before (x ∷ xs) =
    distinct_middle before x xs ∙ repeats_distinct (x ∷ before) xs ∙ regroup (mem x before) (distinct before) (repeats (x ∷ before) xs)

-- The names of all blocks, and those of the blocks below one.
module _ (ps xs : List ℕ) where
  abbrev names_at : ℕ → List ℕ
  names_at j = (block_at ps xs j).variables

  pub names_none : names_before ps xs 0 ≡ []
  unfolding names_before up_to
  names_none = refl

  pub names_next : (j : ℕ) → names_before ps xs (suc j) ≡ names_before ps xs j ++ names_at j
  unfolding names_before up_to
  names_next j = refl

  names_from : (m j : ℕ) → names_before ps xs j ++ prefix_names (blocks_from ps xs j m) ≡ names_before ps xs (m + j)
  unfolding prefix_names blocks_from flat_map
  names_from zero j = let s : j ≡ 0 + j = omega arith in append-nil (names_before ps xs j) ∙ ap (names_before ps xs) s
  names_from (suc m) j =
      let rest = prefix_names (blocks_from ps xs (suc j) m) in
      let s : m + suc j ≡ suc m + j = omega arith in
      sym (append_assoc (names_before ps xs j) (names_at j) rest)
      ∙ ap (λ (ys : List ℕ). ys ++ rest) (sym (names_next j))
      ∙ names_from m (suc j)
      ∙ ap (names_before ps xs) s

  pub names_are : prefix_names (blocks_of ps xs) ≡ names_before ps xs (length ps / prefix_width)
  unfolding blocks_of
  names_are =
      let s : length ps / prefix_width + 0 ≡ length ps / prefix_width = omega arith in
      rw names_none at (names_from (length ps / prefix_width) 0) ∙ ap (names_before ps xs) s

  -- a test that they pass
  pub names_pass_lem : (p : ℕ → Bool) (m : ℕ) → ((j : ℕ) → j < m → all p (names_at j) ≡ true) → all p (names_before ps xs m) ≡ true
  unfolding names_before
  names_pass_lem p m h =
      all_intro p _ (λ x i. let r = mem_up_to_from names_at m x i in all_mem p (names_at r.0) x (h r.0 r.1) r.2)

  pub pass_names : (p : ℕ → Bool) (m j : ℕ) → j < m → all p (names_before ps xs m) ≡ true → all p (names_at j) ≡ true
  unfolding names_before
  pass_names p m j l h = all_intro p (names_at j) (λ x i. all_mem p (up_to names_at m) x h (mem-up_to names_at m j x l i))

  -- none stands twice
  pub names_distinct : (m : ℕ) → ((j : ℕ) → j < m → repeats (names_before ps xs j) (names_at j) ≡ false) → distinct (names_before ps xs m) ≡ true
  unfolding names_before up_to distinct
  names_distinct zero h = refl
  names_distinct (suc m) h =
      repeats_distinct (names_before ps xs m) (names_at m)
      ∙ and_both _ _ (names_distinct m (λ j l. h j (omega arith))) (ap not (h m (omega arith)))

  pub distinct_names : (m : ℕ) → distinct (names_before ps xs m) ≡ true → (j : ℕ) → j < m → repeats (names_before ps xs j) (names_at j) ≡ false
  distinct_names zero d j l = absurd (not-suc-le-zero l)
  distinct_names (suc m) d j l = go (look (ltb j m)) (distinct_names m)
    where
      both : (distinct (names_before ps xs m) && not (repeats (names_before ps xs m) (names_at m))) ≡ true
      both = sym (repeats_distinct (names_before ps xs m) (names_at m)) ∙ ap distinct (sym (names_next m)) ∙ d

      go : Is (ltb j m) → (distinct (names_before ps xs m) ≡ true → (k : ℕ) → k < m → repeats (names_before ps xs k) (names_at k) ≡ false)
          → repeats (names_before ps xs j) (names_at j) ≡ false
      go (is_true t) below = below (and_left (distinct (names_before ps xs m)) _ both) j (ltb-true j m t)
      go (is_false t) below =
          let h : m ≤ j = ltb-false j m t in
          let e : j ≡ m = omega arith in
          rw e (not-true _ (and_right (distinct (names_before ps xs m)) _ both))
