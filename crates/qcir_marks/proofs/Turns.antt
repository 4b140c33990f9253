-- What has been found, turn by turn: where the pass begins, after a node, and at the end.
-- Assumes nothing.
use mathlib.Core.Path.{◌≡◌, refl, sym, ◌∙◌, ap, subst}
use mathlib.Core.Bool.{Bool, true, false, not, ◌&&◌, ◌||◌, or-false}
use mathlib.Core.List.{List}
use Prim.Native.Nat.{ℕ, suc, ◌-◌, ◌<◌}
use native.Mathlib.Omega.{arith}
use lib.Dec.{eqb}
use lib.ListN.{length, get_or, set}
use borrow.Author.Tests.{eqb-true, eq-eqb, ne_eqb}
use Rattle.lists.specs.Choice.{pick, pick_yes, pick_no, Is, is_true, is_false, look, clash, and_left, and_right, and_both, and_off_right}
use Rattle.lists.specs.Members.{mem}
use Rattle.lists.proofs.Stores.{set_cases}
use Rattle.formula.specs.Node.{Node, constant, variable, negation, operator, block, Table}
use Rattle.formula.specs.Truth.{digit}
use Rattle.formula.specs.Tree.{Tree}
use Rattle.formula.specs.FreeVariables.{stands_at, number_at}
use Rattle.qcir_form.specs.File.{used_operands, written, occurs}
use Rattle.name_flags.specs.Flags.{flag_with, Highest}
use Rattle.name_flags.proofs.Found.{flag_off, flag_more, highest_same, highest_none, highest_taken, highest_left}
use Rattle.qcir_marks.specs.Marks.{reached, root_mark, occurs_from, MarkedFrom, Marked, marks_after, flags_after, highest_after, NodeMarked, is_marked}
use Rattle.qcir_marks.proofs.Pass.{from_step, from_none, from_all, reached_written, reached_all, reached_step}

-- the root marked, where nothing was
pub root_marked : (t : Table) → 0 < t.size → (marks : List ℕ) → t.size - 1 < length marks → ((i : ℕ) → get_or marks i 0 ≡ 0) → (i : ℕ)
    → get_or (set marks (t.size - 1) 1) i 0 ≡ root_mark t i
unfolding root_mark digit
root_marked t pos marks h none i = set_cases marks (t.size - 1) 1 0 h (λ w. w ≡ root_mark t i) i yes no
  where
    yes : i ≡ t.size - 1 → 1 ≡ root_mark t i
    yes e = let s : suc i ≡ t.size = omega arith in sym (ap digit (eq-eqb (suc i) t.size s))

    no : (i ≡ t.size - 1 → ⊥) → get_or marks i 0 ≡ root_mark t i
    no d = none i ∙ sym (ap digit (ne_eqb (suc i) t.size (λ s. d (omega arith))))

-- Names at nodes from k up.
module _ (t : Table) where
  occurs_step : (k x : ℕ) → k < t.size → occurs_from t k x ≡ (occurs_from t (suc k) x || (written t k && stands_at x (t.node k)))
  unfolding occurs_from
  occurs_step k x h = from_step (λ i. written t i && stands_at x (t.node i)) k t.size h

  occurs_all : (x : ℕ) → occurs_from t 0 x ≡ occurs t x
  unfolding occurs_from occurs
  occurs_all x = from_all (λ i. written t i && stands_at x (t.node i)) t.size

  occurs_none : (x : ℕ) → occurs_from t t.size x ≡ false
  unfolding occurs_from
  occurs_none x = from_none (λ i. written t i && stands_at x (t.node i)) t.size

stands_number : (nd : Node) (x : ℕ) → stands_at x nd ≡ true → number_at nd ≡ x
unfolding stands_at number_at
stands_number (constant b) x h = clash h refl
stands_number (variable y) x h = sym (eqb-true x y h)
stands_number (negation a) x h = clash h refl
stands_number (operator f a b) x h = clash h refl
stands_number (block q xs a) x h = clash h refl

number_stands : (nd : Node) → 0 < number_at nd → stands_at (number_at nd) nd ≡ true
unfolding stands_at number_at
number_stands (constant b) h = absurd (omega arith)
number_stands (variable y) h = eq-eqb y y refl
number_stands (negation a) h = absurd (omega arith)
number_stands (operator f a b) h = absurd (omega arith)
number_stands (block q xs a) h = absurd (omega arith)

-- Marks.

marked_test : (b : Bool) → not (eqb (digit b) 0) ≡ b
unfolding digit
marked_test true = refl
marked_test false = refl

mark_more : (p q : Bool) → pick q 1 (digit p) ≡ digit (p || q)
unfolding digit pick
mark_more true true = refl
mark_more true false = refl
mark_more false true = refl
mark_more false false = refl

-- The highest name.
module _ (t : Table) (before : List ℕ) (k : ℕ) (low : k < t.size) (names : List ℕ)
    (fs : (x : ℕ) → get_or names x 0 ≡ flag_with (get_or before x 0) (occurs_from t (suc k) x))
    (h : ℕ) (old : Highest (λ x. eqb (get_or before x 0) 0 && occurs_from t (suc k) x) h) where
  abbrev here : ℕ → Bool
  here x = written t k && stands_at x (t.node k)

  only : (x : ℕ) → here x ≡ true → number_at (t.node k) ≡ x
  only x a = stands_number (t.node k) x (and_right (written t k) _ a)

  highest_here : Highest (λ x. eqb (get_or before x 0) 0 && (occurs_from t (suc k) x || here x)) (highest_after (written t k) (t.node k) names h)
  unfolding highest_after
  highest_here = go (look (written t k && eqb (get_or names (number_at (t.node k)) 0) 0))
    where
      go : Is (written t k && eqb (get_or names (number_at (t.node k)) 0) 0)
          → Highest (λ x. eqb (get_or before x 0) 0 && (occurs_from t (suc k) x || here x)) (highest_after (written t k) (t.node k) names h)
      go (is_true e) =
          subst (Highest _) (sym (pick_yes _ _ _ e))
          (highest_taken before names (occurs_from t (suc k)) here (number_at (t.node k)) h fs old only
          (λ p. and_both (written t k) _ (and_left (written t k) _ e) (number_stands (t.node k) p)) (eqb-true _ _ (and_right (written t k) _ e)))
      go (is_false e) =
          subst (Highest _) (sym (pick_no _ _ _ e))
          (highest_left before names (occurs_from t (suc k)) here (number_at (t.node k)) h fs old only
          (λ x a z. clash (and_both (written t k) _ (and_left (written t k) _ a) (eq-eqb _ _ (ap (λ y. get_or names y 0) (only x a) ∙ z))) e))

  highest_next : Highest (λ x. eqb (get_or before x 0) 0 && occurs_from t k x) (highest_after (written t k) (t.node k) names h)
  highest_next = highest_same _ _ _ (λ x. ap (λ b. eqb (get_or before x 0) 0 && b) (sym (occurs_step t k x low))) highest_here

module _ (t : Table) (tr : Tree t) (before : List ℕ) where
  pub marked_start : (marks : List ℕ) → ((i : ℕ) → get_or marks i 0 ≡ root_mark t i) → MarkedFrom t before t.size marks before 0
  unfolding root_mark reached
  marked_start marks ms =
      record {
        marked = λ i. ms i ∙ ap digit (sym (rw (from_none (λ j. written t j && mem i (used_operands (t.node j))) t.size) (or-false (eqb (suc i) t.size))));
        flagged = λ x. rw (occurs_none t x) (sym (flag_off (get_or before x 0)));
        highest_is = highest_none _ (λ x. and_off_right (eqb (get_or before x 0) 0) _ (occurs_none t x));
      }

  pub marked_next : (k : ℕ) → k < t.size → (marks names : List ℕ) (h : ℕ) (marks' names' : List ℕ) (h' : ℕ)
      → MarkedFrom t before (suc k) marks names h → NodeMarked (is_marked marks k) (t.node k) marks names h marks' names' h'
      → MarkedFrom t before k marks' names' h'
  unfolding marks_after flags_after is_marked
  marked_next k low marks names h marks' names' h' m n =
      record {
        marked = λ i. n.marks_are i ∙ rw (live, m.marked i, reached_step t tr k i low) (mark_more (reached t (suc k) i) (written t k && mem i (used_operands (t.node k))));
        flagged = λ x. n.flags_are x ∙ rw (live, m.flagged x, occurs_step t k x low) (flag_more (get_or before x 0) (occurs_from t (suc k) x) (written t k && stands_at x (t.node k)));
        highest_is = subst (Highest _) (sym (n.highest_is ∙ ap (λ b. highest_after b (t.node k) names h) live)) (highest_next t before k low names m.flagged h m.highest_is);
      }
    where
      live : is_marked marks k ≡ written t k
      live = ap (λ w. not (eqb w 0)) (m.marked k) ∙ marked_test (reached t (suc k) k) ∙ reached_written t tr (suc k) k low (omega arith)

  pub marked_end : (marks names : List ℕ) (h : ℕ) → MarkedFrom t before 0 marks names h → Marked t before marks names h
  marked_end marks names h m =
      record {
        marked = λ i. m.marked i ∙ ap digit (reached_all t tr i);
        flagged = λ x. m.flagged x ∙ ap (flag_with (get_or before x 0)) (occurs_all t x);
        highest_is = highest_same _ _ h (λ x. ap (λ q. eqb (get_or before x 0) 0 && q) (occurs_all t x)) m.highest_is;
      }
