-- Laws of refusal 15's steps: the flags of names, a block's tests, and the verdict on the prefix by its pass.
-- Assumes nothing.
use mathlib.Core.Path.{◌≡◌, refl, sym, ◌∙◌, ap}
use mathlib.Core.Bool.{Bool, true, false, not, ◌&&◌, ◌||◌}
use mathlib.Core.List.{List, [], ◌∷◌, ◌++◌, append-nil}
use Prim.Native.Nat.{ℕ, ◌+◌, ◌-◌, ◌/◌, ◌%◌, ◌≤◌, ◌<◌, max}
use native.Mathlib.Numerals.{add-one}
use native.Mathlib.Omega.{arith}
use lib.Dec.{eqb, leb, ltb}
use lib.ListN.{length, get_or, set, take, drop, drop_of_length-le, length-set}
use lib.Seq.{drop-cons}
use borrow.Author.Tests.{eq-eqb, ne_eqb, ltb-false, lt-ltb, le-ltb, leb-true, not-true}
use Rattle.std.specs.Prelude.{Result, IfOk}
use Rattle.std.proofs.lemmas.Result.{IfOk-weaker}
use Rattle.lists.specs.Choice.{pick_yes, pick_no, Is, is_true, is_false, look, and_right, and_off_left}
use Rattle.lists.specs.Search.{lowest}
use Rattle.lists.specs.Members.{mem, all, maximum}
use Rattle.lists.proofs.Search.{lowest_none}
use Rattle.lists.proofs.Stores.{set_cases}
use Rattle.formula.specs.Words.{is_block_kind, range, block_words}
use Rattle.formula.specs.Form.{Block, prefix_width, block_at, blocks_of, binds}
use Rattle.formula.specs.Truth.{digit}
use Rattle.formula.proofs.Prefix.{binds_mem}
use Rattle.refusals.specs.Verdict.{refusal, accepted}
use Rattle.acceptance.specs.Verdict.{is_number_to, range_past_end}
use Rattle.form_check.specs.Verdict.{form_limits, repeats, names_before, bad_block, prefix_verdict}
use Rattle.form_check.specs.Accepted.{prefix_names}
use Rattle.form_check.specs.declared.BlockWords.{BlockWords}
use Rattle.form_check.specs.declared.Malformed.{Malformed}
use Rattle.form_check.specs.Steps.{NamesFlagged, new_name, new_names, pushed, block_words_at, fitting_block}
use Rattle.form_check.proofs.Names.{names_next, names_are}

-- Names pushed one by one are those of both lists.

push_middle : (x : ℕ) (before : List ℕ) (y : ℕ) (ys : List ℕ) → mem x ((y ∷ before) ++ ys) ≡ mem x (before ++ (y ∷ ys))
unfolding mem
push_middle x [] y ys = refl
push_middle x (b ∷ before) y ys = swap (eqb x y) (eqb x b) _ _ (push_middle x before y ys)
  where
    swap : (p q r s : Bool) → (p || r) ≡ s → (p || (q || r)) ≡ (q || s)
    swap true true r s h = refl
    swap true false r s h = h
    swap false q r s h = ap (λ t. q || t) h

mem_pushed : (x : ℕ) (before xs : List ℕ) → mem x (pushed before xs) ≡ mem x (before ++ xs)
unfolding pushed
mem_pushed x before [] = ap (mem x) (sym (append-nil before))
mem_pushed x before (y ∷ ys) = mem_pushed x (y ∷ before) ys ∙ push_middle x before y ys

maximum_middle : (before : List ℕ) (y : ℕ) (ys : List ℕ) → maximum ((y ∷ before) ++ ys) ≡ maximum (before ++ (y ∷ ys))
unfolding maximum
maximum_middle [] y ys = refl
maximum_middle (b ∷ before) y ys = omega (arith, maximum_middle before y ys)

maximum_pushed : (before xs : List ℕ) → maximum (pushed before xs) ≡ maximum (before ++ xs)
unfolding pushed
maximum_pushed before [] = ap maximum (sym (append-nil before))
maximum_pushed before (y ∷ ys) = maximum_pushed (y ∷ before) ys ∙ maximum_middle before y ys

pub flagged_pushed : (before xs bound : List ℕ) (highest : ℕ) → NamesFlagged (pushed before xs) bound highest → NamesFlagged (before ++ xs) bound highest
flagged_pushed before xs bound highest f =
    record {
      wide = f.wide;
      flag_is = λ x. f.flag_is x ∙ ap digit (mem_pushed x before xs);
      highest_is = f.highest_is ∙ maximum_pushed before xs;
    }

pub flagged_none : (bound : List ℕ) → length bound ≡ 77824 → ((x : ℕ) → get_or bound x 0 ≡ 0) → NamesFlagged [] bound 0
unfolding mem digit maximum
flagged_none bound w z = record { wide = w; flag_is = z; highest_is = refl }

-- One name.
module _ (names bound : List ℕ) (highest : ℕ) (f : NamesFlagged names bound highest) (x : ℕ) where
  pub no_name : is_number_to 77823 x ≡ false → false ≡ new_name names x
  unfolding new_name
  no_name n = rw n refl

  pub flag_set : (get_or bound x 0 ≡ 0 → ⊥) → mem x names ≡ true
  unfolding digit
  flag_set n = go (look (mem x names))
    where
      go : Is (mem x names) → mem x names ≡ true
      go (is_true m) = m
      go (is_false m) = absurd (n (f.flag_is x ∙ ap digit m))

  pub flag_clear : get_or bound x 0 ≡ 0 → mem x names ≡ false
  unfolding digit
  flag_clear z = go (look (mem x names))
    where
      go : Is (mem x names) → mem x names ≡ false
      go (is_true m) = let e : get_or bound x 0 ≡ 1 = f.flag_is x ∙ ap digit m in absurd (omega arith)
      go (is_false m) = m

  pub name_again : is_number_to 77823 x ≡ true → (get_or bound x 0 ≡ 0 → ⊥) → false ≡ new_name names x
  unfolding new_name
  name_again n s = rw (n, flag_set s) refl

  pub name_new : is_number_to 77823 x ≡ true → get_or bound x 0 ≡ 0 → true ≡ new_name names x
  unfolding new_name
  name_new n z = rw (n, flag_clear z) refl

  pub flagged_next : x < 77824 → (h : ℕ) → h ≡ max x highest → NamesFlagged (x ∷ names) (set bound x 1) h
  unfolding mem digit maximum
  flagged_next l h e =
      record {
        wide = length-set bound x 1 ∙ f.wide;
        flag_is = λ y.
            set_cases bound x 1 0 (omega (arith, f.wide)) (λ v. v ≡ digit (eqb y x || mem y names)) y
            (λ q. rw (eq-eqb y x q) refl) (λ n. rw (ne_eqb y x n) (f.flag_is y));
        highest_is = e ∙ ap (max x) f.highest_is;
      }

pub name_below : (x : ℕ) → is_number_to 77823 x ≡ true → x < 77824
unfolding is_number_to
name_below x h = omega (arith, leb-true x 77823 (and_right (leb 1 x) _ h))

-- How far the names of a list are flagged: those before index k, after the names `before`. The answer for the whole list is the answer
-- from here.
pub record Reached (xs before bound : List ℕ) (highest k : ℕ) : Type 0 where
  pub so_far : List ℕ
  pub flagged : NamesFlagged so_far bound highest
  pub same_new : new_names before xs ≡ new_names so_far (drop k xs)
  pub same_pushed : pushed before xs ≡ pushed so_far (drop k xs)

pub reached_start : (xs before bound : List ℕ) (highest : ℕ) → NamesFlagged before bound highest → Reached xs before bound highest 0
reached_start xs before bound highest f =
    record { so_far = before; flagged = f; same_new = refl; same_pushed = refl }

module _ (xs before bound : List ℕ) (highest k : ℕ) (p : Reached xs before bound highest k) where
  next_is : k < length xs → drop k xs ≡ get_or xs k 0 ∷ drop (k + 1) xs
  next_is l = drop-cons xs k 0 l ∙ rw add-one refl

  pub reached_bad : k < length xs → new_name p.so_far (get_or xs k 0) ≡ false → false ≡ new_names before xs
  unfolding new_names
  reached_bad l n = sym (p.same_new ∙ ap (new_names p.so_far) (next_is l) ∙ and_off_left _ _ n)

  pub reached_next : k < length xs → new_name p.so_far (get_or xs k 0) ≡ true → (next : List ℕ) (top : ℕ)
      → NamesFlagged (get_or xs k 0 ∷ p.so_far) next top → Reached xs before next top (k + 1)
  unfolding new_names pushed
  reached_next l n next top f =
      record {
        so_far = get_or xs k 0 ∷ p.so_far;
        flagged = f;
        same_new = p.same_new ∙ ap (new_names p.so_far) (next_is l) ∙ ap (λ t. t && new_names (get_or xs k 0 ∷ p.so_far) (drop (k + 1) xs)) n;
        same_pushed = p.same_pushed ∙ ap (pushed p.so_far) (next_is l);
      }

  pub reached_new : length xs ≤ k → true ≡ new_names before xs
  unfolding new_names
  reached_new l = sym (p.same_new ∙ ap (new_names p.so_far) (drop_of_length-le xs l))

  pub reached_flagged : length xs ≤ k → NamesFlagged (pushed before xs) bound highest
  unfolding pushed
  reached_flagged l = rw (p.same_pushed, drop_of_length-le xs l) p.flagged

-- a block's names pass both tests exactly if they are new one by one
new_names_lem : (before xs : List ℕ) → new_names before xs ≡ (all (is_number_to 77823) xs && not (repeats before xs))
unfolding new_names new_name all repeats
new_names_lem before [] = refl
new_names_lem before (x ∷ xs) =
    regroup (is_number_to 77823 x) (mem x before) (all (is_number_to 77823) xs) (repeats (x ∷ before) xs) _ (new_names_lem (x ∷ before) xs)
  where
    regroup : (n m a r s : Bool) → s ≡ (a && not r) → ((n && not m) && s) ≡ ((n && a) && not (m || r))
    regroup false m a r s h = refl
    regroup true true true r s h = refl
    regroup true true false r s h = refl
    regroup true false a r s h = h

-- A block is without a fault exactly if it fits and its names are new.
pub good_is : (ps xs : List ℕ) (j : ℕ)
    → not (bad_block form_limits ps xs j)
    ≡ (fitting_block (block_words_at ps j) (length xs) && new_names (names_before ps xs j) (block_at ps xs j).variables)
unfolding bad_block fitting_block range_past_end block_words
good_is ps xs j =
    tests (is_block_kind _) (ltb (length xs) _) (all (is_number_to 77823) (block_at ps xs j).variables) (repeats (names_before ps xs j) (block_at ps xs j).variables) _
    (new_names_lem (names_before ps xs j) (block_at ps xs j).variables)
  where
    tests : (k l a r s : Bool) → s ≡ (a && not r) → not (not k || ((k && l) || (not a || r))) ≡ ((k && not l) && s)
    tests false l a r s h = refl
    tests true true a r s h = refl
    tests true false true r s h = sym h
    tests true false false r s h = sym h

pub fitting_le : (b : BlockWords) (entries : ℕ) → fitting_block b entries ≡ true → b.first + b.count ≤ entries
unfolding fitting_block
fitting_le b entries h = ltb-false _ _ (not-true _ (and_right (is_block_kind b.kind) _ h))

-- Block j, by its words.
module _ (ps xs : List ℕ) (j : ℕ) (b : BlockWords) (e : b ≡ block_words_at ps j) where
  -- the block's stretch of the list
  abbrev stretch : List ℕ
  stretch = take (b.first + b.count - b.first) (drop b.first xs)

  block_names : stretch ≡ (block_at ps xs j).variables
  unfolding block_at range
  block_names =
      let s : b.first + b.count - b.first ≡ b.count = omega arith in
      ap (range xs b.first) s ∙ ap (λ (b : BlockWords). range xs b.first b.count) e

  pub block_unfit : fitting_block b (length xs) ≡ false → false ≡ not (bad_block form_limits ps xs j)
  block_unfit h = sym (good_is ps xs j ∙ and_off_left _ _ (ap (λ b. fitting_block b (length xs)) (sym e) ∙ h))

  pub block_good : fitting_block b (length xs) ≡ true → (r : Bool)
      → r ≡ new_names (names_before ps xs j) stretch → r ≡ not (bad_block form_limits ps xs j)
  block_good h r n =
      n ∙ ap (new_names (names_before ps xs j)) block_names
      ∙ sym (good_is ps xs j ∙ ap (λ t. t && new_names (names_before ps xs j) (block_at ps xs j).variables) (ap (λ b. fitting_block b (length xs)) (sym e) ∙ h))

  -- the flags once the block's names are pushed
  pub block_flagged : (bound : List ℕ) (highest : ℕ)
      → NamesFlagged (pushed (names_before ps xs j) stretch) bound highest
      → NamesFlagged (names_before ps xs (j + 1)) bound highest
  block_flagged bound highest f =
      rw (add-one, names_next ps xs j)
      (flagged_pushed (names_before ps xs j) (block_at ps xs j).variables bound highest (rw block_names at f))

pub binds_names : (bs : List Block) (x : ℕ) → mem x (prefix_names bs) ≡ binds bs x
unfolding prefix_names
binds_names bs x = sym (binds_mem bs x)

-- which names the prefix binds, by the flags
pub flags_bind : (ps xs bound : List ℕ) (highest : ℕ) → NamesFlagged (prefix_names (blocks_of ps xs)) bound highest
    → (x : ℕ) → get_or bound x 0 ≡ digit (binds (blocks_of ps xs) x)
flags_bind ps xs bound highest f x = f.flag_is x ∙ ap digit (binds_names (blocks_of ps xs) x)

-- What the flags of an accepted prefix say, by the pass's answer.
module _ (ps xs bound : List ℕ) (r : Result ℕ Malformed) (f : IfOk r (NamesFlagged (prefix_names (blocks_of ps xs)) bound)) where
  pub passed_bind : IfOk r (λ _. (x : ℕ) → get_or bound x 0 ≡ digit (binds (blocks_of ps xs) x))
  passed_bind = IfOk-weaker r (NamesFlagged (prefix_names (blocks_of ps xs)) bound) _ (flags_bind ps xs bound) f

  pub passed_highest : IfOk r (λ highest. highest ≡ maximum (prefix_names (blocks_of ps xs)))
  passed_highest = IfOk-weaker r (NamesFlagged (prefix_names (blocks_of ps xs)) bound) _ (λ highest n. n.highest_is) f

-- The verdict on a prefix, by its pass.
module _ (ps xs : List ℕ) where
  abbrev ragged : Bool
  ragged = not (eqb (length ps % prefix_width) 0)

  pub prefix_ragged : ragged ≡ true → refusal 15 0 ≡ prefix_verdict form_limits ps xs
  unfolding prefix_verdict
  prefix_ragged t = sym (pick_yes _ _ _ t)

  pub prefix_bad : ragged ≡ false → (j : ℕ) → j < length ps / prefix_width → j ≡ lowest (bad_block form_limits ps xs) (length ps / prefix_width)
      → refusal 15 j ≡ prefix_verdict form_limits ps xs
  unfolding prefix_verdict
  prefix_bad whole j l first_is = rw first_is (sym (pick_no _ _ _ whole ∙ pick_yes _ _ _ (lt-ltb _ _ (rw first_is at l))))

  pub prefix_passed : ragged ≡ false → ((j : ℕ) → j < length ps / prefix_width → bad_block form_limits ps xs j ≡ false)
      → accepted ≡ prefix_verdict form_limits ps xs
  unfolding prefix_verdict
  prefix_passed whole good =
      sym (pick_no _ _ _ whole ∙ pick_no _ _ _ (le-ltb _ _ (omega (arith, lowest_none (bad_block form_limits ps xs) (length ps / prefix_width) good))))

  -- the names of all blocks are flagged
  pub prefix_flagged : (bound : List ℕ) (highest : ℕ) → NamesFlagged (names_before ps xs (length ps / prefix_width)) bound highest
      → NamesFlagged (prefix_names (blocks_of ps xs)) bound highest
  prefix_flagged bound highest f = rw (names_are ps xs) f
