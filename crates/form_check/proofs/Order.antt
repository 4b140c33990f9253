-- The verdict on a form is the first refusal that applies, and it carries no users.
-- Assumes nothing.
use mathlib.Core.Path.{◌≡◌, refl, sym, ◌∙◌, ap, subst}
use mathlib.Core.Bool.{true, false, not}
use mathlib.Core.List.{List, []}
use Prim.Native.Nat.{ℕ, ◌/◌, ◌%◌}
use native.Mathlib.Omega.{arith}
use lib.Dec.{eqb, ltb}
use lib.ListN.{length}
use borrow.Author.Tests.{eqb-true, eqb-false, eq-eqb, ltb-true, ltb-false}
use Rattle.lists.specs.Choice.{pick_yes, pick_no, Is, is_true, is_false, look, clash}
use Rattle.lists.specs.Search.{lowest}
use Rattle.lists.proofs.Search.{lowest_holds, lowest_before}
use Rattle.formula.specs.Form.{prefix_width}
use Rattle.refusals.specs.Verdict.{refusal, accepted, Plain}
use Rattle.refusals.specs.declared.Verdict.{Verdict}
use Rattle.refusals.proofs.Plain.{plain_refusal, plain_accepted}
use Rattle.acceptance.specs.Limits.{TableLimits}
use Rattle.acceptance.specs.Verdict.{verdict_within}
use Rattle.acceptance.proofs.Accepted.{within_zero}
use Rattle.form_check.specs.Verdict.{matrix_verdict, bad_block, prefix_verdict, form_verdict_within}
use Rattle.form_check.specs.Order.{WholeForm, FirstOfForm, matrix, ragged, bad, none}

accepted_zero : (v : Verdict) → v ≡ accepted → eqb v.number 0 ≡ true
unfolding accepted
accepted_zero v e = rw e

module _ (lim : TableLimits) (ns ps xs : List ℕ) where
  abbrev nodes : Verdict
  nodes = verdict_within lim ns []

  abbrev blocks : ℕ
  blocks = length ps / prefix_width

  abbrev first : ℕ
  first = lowest (bad_block lim ps xs) blocks

  is : (v : Verdict) → form_verdict_within lim ns ps xs ≡ v → FirstOfForm lim ns ps xs v → FirstOfForm lim ns ps xs (form_verdict_within lim ns ps xs)
  is v e f = subst (λ v. FirstOfForm lim ns ps xs v) (sym e) f

  -- the verdict on a form whose nodes are refused, and on one whose nodes are not
  nodes_refused : eqb nodes.number 0 ≡ false → form_verdict_within lim ns ps xs ≡ refusal 14 nodes.position
  unfolding form_verdict_within matrix_verdict refusal
  nodes_refused t = rw (pick_no (eqb nodes.number 0) accepted (refusal 14 nodes.position) t) (pick_no _ _ _ refl)

  nodes_passed : nodes ≡ accepted → form_verdict_within lim ns ps xs ≡ prefix_verdict lim ps xs
  unfolding form_verdict_within matrix_verdict
  nodes_passed e = pick_yes _ _ _ (accepted_zero _ (pick_yes _ _ _ (accepted_zero _ e)))

  -- the verdict by what is known of the nodes'
  pub form_refused : (p : ℕ) → eqb nodes.number 0 ≡ false → p ≡ nodes.position → refusal 14 p ≡ form_verdict_within lim ns ps xs
  form_refused p t e = rw e (sym (nodes_refused t))

  pub form_passed : nodes ≡ accepted → prefix_verdict lim ps xs ≡ form_verdict_within lim ns ps xs
  form_passed e = sym (nodes_passed e)

  by_blocks : (w : WholeForm lim ns ps) → Is (ltb first blocks) → FirstOfForm lim ns ps xs (form_verdict_within lim ns ps xs)
  unfolding prefix_verdict
  by_blocks w (is_true t) =
      is _ (nodes_passed w.matrix ∙ pick_no _ _ _ (ap not (eq-eqb _ 0 w.whole)) ∙ pick_yes _ _ _ t)
      (bad w first (ltb-true _ _ t) (lowest_holds _ _ (ltb-true _ _ t)) (λ k h. lowest_before _ blocks k h))
  by_blocks w (is_false t) =
      is _ (nodes_passed w.matrix ∙ pick_no _ _ _ (ap not (eq-eqb _ 0 w.whole)) ∙ pick_no _ _ _ t)
      (none w (λ k h. lowest_before (bad_block lim ps xs) blocks k (omega (arith, ltb-false first blocks t))))

  by_length : nodes ≡ accepted → Is (eqb (length ps % prefix_width) 0) → FirstOfForm lim ns ps xs (form_verdict_within lim ns ps xs)
  unfolding prefix_verdict
  by_length e (is_true t) = by_blocks (record { matrix = e; whole = eqb-true _ 0 t }) (look (ltb first blocks))
  by_length e (is_false t) = is _ (nodes_passed e ∙ pick_yes _ _ _ (ap not t)) (ragged e (eqb-false _ 0 t))

  by_nodes : Is (eqb nodes.number 0) → FirstOfForm lim ns ps xs (form_verdict_within lim ns ps xs)
  by_nodes (is_true t) = by_length (within_zero lim ns [] (eqb-true _ 0 t)) (look (eqb (length ps % prefix_width) 0))
  by_nodes (is_false t) = is _ (nodes_refused t) (matrix (λ e. clash (accepted_zero nodes e) t))

  pub form_order : FirstOfForm lim ns ps xs (form_verdict_within lim ns ps xs)
  form_order = by_nodes (look (eqb nodes.number 0))

  plain_by : (v : Verdict) → FirstOfForm lim ns ps xs v → Plain v
  plain_by _ (matrix f) = plain_refusal 14 _
  plain_by _ (ragged e f) = plain_refusal 15 0
  plain_by _ (bad w j h b before) = plain_refusal 15 j
  plain_by _ (none w b) = plain_accepted

  -- 14 and 15 carry no users
  pub form_plain : Plain (form_verdict_within lim ns ps xs)
  form_plain = plain_by _ form_order
