-- The pass that flags names, one node after the other.
-- Assumes nothing.
use mathlib.Core.Path.{◌≡◌, refl, sym, ◌∙◌, ap, subst}
use mathlib.Core.Bool.{true, false, ◌&&◌, ◌||◌, or-false}
use mathlib.Core.List.{List, []}
use Prim.Native.Nat.{ℕ, suc, ◌<◌, ◌≤◌, max}
use native.Mathlib.Numerals.{add-one}
use lib.Dec.{eqb, leb}
use lib.ListN.{get_or}
use borrow.Author.Tests.{eqb-true, eqb-false, eq-eqb, leb-true}
use Rattle.lists.specs.Choice.{pick, pick_yes, pick_no, Is, is_true, is_false, look, and_right, and_off_right}
use Rattle.lists.specs.Search.{some_below}
use Rattle.lists.proofs.Search.{some_none, some_next}
use Rattle.formula.specs.Node.{variable, Table}
use Rattle.formula.specs.Words.{node_count, field, node_at, table_of}
use Rattle.formula.specs.FreeVariables.{stands_at}
use Rattle.formula.proofs.Nodes.{Kind, kind_of_lem, kind_constant, kind_variable, kind_negation, kind_operator, kind_exists, kind_for_all, kind_none, node_constant, node_variable, node_negation, node_operator, node_exists, node_for_all, node_none}
use Rattle.acceptance.specs.Limits.{matrix_within}
use Rattle.acceptance.specs.Verdict.{is_number_to}
use Rattle.acceptance.specs.Accepted.{AcceptedWithin}
use Rattle.acceptance.proofs.Matrix.{MatrixNode, matrix_node}
use Rattle.name_flags.specs.Flags.{flag_with, Highest}
use Rattle.name_flags.proofs.Found.{flag_off, flag_more, highest_same, highest_none, highest_taken, highest_left}
use Rattle.qdimacs_numbers.specs.Numbering.{stands_below, FlaggedBelow}

-- The name at a variable node is one that a matrix may have.
pub name_low : (nodes most : ℕ) (ns : List ℕ) → AcceptedWithin (matrix_within nodes most) ns [] → (i : ℕ) → i < node_count ns → field ns i 0 ≡ 2
    → field ns i 1 ≤ most
unfolding table_of is_number_to
name_low nodes most ns ok i h e =
    let n : is_number_to most (field ns i 1) ≡ true = subst (MatrixNode most) (node_variable ns [] i e) (matrix_node nodes most ns ok i h) in
    leb-true _ _ (and_right (leb 1 (field ns i 1)) _ n)

-- No name stands at a node of another kind.
pub no_name : (ns : List ℕ) (i : ℕ) → (field ns i 0 ≡ 2 → ⊥) → (x : ℕ) → stands_at x (node_at ns [] i) ≡ false
unfolding stands_at
no_name ns i n x = go (kind_of_lem (field ns i 0))
  where
    go : Kind (field ns i 0) → stands_at x (node_at ns [] i) ≡ false
    go (kind_constant e) = rw (node_constant ns [] i e)
    go (kind_variable e) = absurd (n e)
    go (kind_negation e) = rw (node_negation ns [] i e)
    go (kind_operator e) = rw (node_operator ns [] i e)
    go (kind_exists e) = rw (node_exists ns [] i e)
    go (kind_for_all e) = rw (node_for_all ns [] i e)
    go (kind_none e1 e2 e3 e4 e5 e6) = rw (node_none ns [] i e1 e2 e3 e4 e5 e6)

module _ (t : Table) (before : List ℕ) where
  stands_next : (k x : ℕ) → stands_below t (suc k) x ≡ (stands_below t k x || stands_at x (t.node k))
  unfolding stands_below
  stands_next k x =
      ap (some_below (λ i. stands_at x (t.node i))) (sym (add-one k)) ∙ some_next (λ i. stands_at x (t.node i)) k

  -- no node is done
  pub flags_start : FlaggedBelow t before 0 before 0
  unfolding stands_below
  flags_start =
      record {
        flagged = λ x. rw (some_none (λ i. stands_at x (t.node i))) (sym (flag_off (get_or before x 0)));
        highest_is = highest_none _ (λ x. and_off_right (eqb (get_or before x 0) 0) _ (some_none (λ i. stands_at x (t.node i))));
      }

  module _ (k : ℕ) (names : List ℕ) (h : ℕ) (done : FlaggedBelow t before k names h) where
    -- a node without a name
    pub flags_past : ((x : ℕ) → stands_at x (t.node k) ≡ false) → FlaggedBelow t before (suc k) names h
    flags_past none =
        record {
          flagged = λ x. done.flagged x ∙ ap (flag_with (get_or before x 0)) (sym (same x));
          highest_is = highest_same _ _ h (λ x. ap (λ b. eqb (get_or before x 0) 0 && b) (sym (same x))) done.highest_is;
        }
      where
        same : (x : ℕ) → stands_below t (suc k) x ≡ stands_below t k x
        same x = stands_next k x ∙ rw (none x) (or-false (stands_below t k x))

    -- a variable node
    module _ (y : ℕ) (is : t.node k ≡ variable y) where
      found_next : (x : ℕ) → stands_below t (suc k) x ≡ (stands_below t k x || eqb x y)
      unfolding stands_at
      found_next x = stands_next k x ∙ ap (λ nd. stands_below t k x || stands_at x nd) is

      highest_next : Highest (λ x. eqb (get_or before x 0) 0 && (stands_below t k x || eqb x y)) (pick (eqb (get_or names y 0) 0) (max h y) h)
      highest_next = go (look (eqb (get_or names y 0) 0))
        where
          only : (x : ℕ) → eqb x y ≡ true → y ≡ x
          only x e = sym (eqb-true x y e)

          go : Is (eqb (get_or names y 0) 0) → Highest (λ x. eqb (get_or before x 0) 0 && (stands_below t k x || eqb x y)) (pick (eqb (get_or names y 0) 0) (max h y) h)
          go (is_true e) =
              subst (Highest _) (sym (pick_yes _ _ _ e))
              (highest_taken before names (stands_below t k) (λ x. eqb x y) y h done.flagged done.highest_is only
              (λ p. eq-eqb y y refl) (eqb-true _ _ e))
          go (is_false e) =
              subst (Highest _) (sym (pick_no _ _ _ e))
              (highest_left before names (stands_below t k) (λ x. eqb x y) y h done.flagged done.highest_is only
              (λ x a z. eqb-false (get_or names y 0) 0 e (ap (λ j. get_or names j 0) (only x a) ∙ z)))

      pub flags_name : (names' : List ℕ) (h' : ℕ)
          → ((x : ℕ) → get_or names' x 0 ≡ pick (eqb x y) (flag_with (get_or names x 0) true) (get_or names x 0))
          → h' ≡ pick (eqb (get_or names y 0) 0) (max h y) h → FlaggedBelow t before (suc k) names' h'
      flags_name names' h' fs e =
          record {
            flagged = λ x.
                fs x ∙ rw (done.flagged x, found_next x) (flag_more (get_or before x 0) (stands_below t k x) (eqb x y));
            highest_is = highest_same _ _ h' (λ x. ap (λ b. eqb (get_or before x 0) 0 && b) (sym (found_next x)))
                (subst (Highest _) (sym e) highest_next);
          }
