-- The answer and the buffer at each return, and what stands in the buffer of a removal that is done.
-- Assumes nothing.
use mathlib.Core.Path.{◌≡◌, sym, ◌∙◌, ap, subst}
use mathlib.Core.Bool.{false}
use mathlib.Core.List.{List}
use Prim.Native.Nat.{ℕ, ◌+◌, ◌*◌, ◌<◌, ◌≤◌}
use native.Mathlib.Nat.{zero-add}
use native.Mathlib.Omega.{arith}
use lib.Dec.{ltb}
use lib.ListN.{length, take}
use borrow.Author.Tests.{ltb-false, lt-ltb, le-ltb}
use Rattle.lists.specs.Parts.{overwrite}
use Rattle.lists.proofs.Overwrite.{take_overwrite}
use Rattle.formula.specs.Words.{width, node_count}
use Rattle.refusals.specs.Verdict.{refusal, accepted}
use Rattle.refusals.specs.Outcome.{Outcome, refused, done}
use Rattle.refusals.specs.declared.Verdict.{Verdict}
use Rattle.refusals.proofs.Outcome.{call_next, call_refused, call_room, call_short, call_passed, call_fits}
use Rattle.acceptance.specs.Limits.{stored_limits}
use Rattle.acceptance.specs.Verdict.{stored_verdict}
use Rattle.acceptance.proofs.Accepted.{within_holds, within_lower, within_zero}
use Rattle.empty_blocks.specs.Removal.{without_empty_blocks}
use Rattle.empty_blocks.specs.Promise.{RemovalOf}
use Rattle.empty_blocks.proofs.Left.{length_left}
use Rattle.empty_blocks.proofs.Theorem.{removal}
use Rattle.remove_empty_blocks.specs.Outcome.{after, storing, removed, TableLeft}
use Rattle.remove_empty_blocks.specs.Steps.{SmallTable}

module _ (v : Verdict) (nodes left : List ℕ) where
  pub storing_short : v ≡ refusal 9 0 → length nodes < length left → after (record { verdict = v; nodes = 0 }) nodes ≡ storing nodes left
  unfolding after storing refused
  storing_short e h = rw e (sym (call_short _ _ _ _ (lt-ltb _ _ h)))

  pub storing_done : v ≡ accepted → length left ≤ length nodes
      → (count : ℕ) → count ≡ node_count left → (next : List ℕ) → next ≡ overwrite nodes 0 left
      → after (record { verdict = v; nodes = count }) next ≡ storing nodes left
  unfolding after storing done
  storing_done e h count c next w = rw (e, c, w) (sym (call_room _ _ _ _ (le-ltb _ _ h)))

-- the words left are whole nodes
pub whole_left : (ws : List ℕ) → width * node_count (without_empty_blocks ws) ≡ length (without_empty_blocks ws)
unfolding without_empty_blocks
whole_left ws = omega (arith, length_left ws (node_count ws))

pub small : (ws ls : List ℕ) → (stored_verdict ws ls).number ≡ 0 → SmallTable ws
small ws ls z =
    let a = within_holds stored_limits ws ls (within_zero stored_limits ws ls z) in
    record { few = a.nodes_limit; lower = within_lower stored_limits ws ls a }

module _ (ws ls nodes : List ℕ) where
  pub removed_refused : (v : Verdict) → v ≡ stored_verdict ws ls → (v.number ≡ 0 → ⊥)
      → after (record { verdict = v; nodes = 0 }) nodes ≡ removed ws ls nodes
  unfolding after removed refused
  removed_refused v e n = rw (← e) (sym (call_refused _ _ _ v n))

  pub removed_accepted : (stored_verdict ws ls).number ≡ 0 → storing nodes (without_empty_blocks ws) ≡ removed ws ls nodes
  unfolding removed
  removed_accepted z = sym (call_next _ _ _ _ z)

  module _ (o : Outcome ℕ (List ℕ)) (e : o ≡ removed ws ls nodes) (d : o.answer.verdict.number ≡ 0) where
    done_zero : (stored_verdict ws ls).number ≡ 0
    unfolding removed
    done_zero =
        call_passed 0 nodes (storing nodes (without_empty_blocks ws)) _
        (ap (λ (p : Outcome ℕ (List ℕ)). p.answer.verdict.number) (sym e) ∙ d)

    stored : o ≡ storing nodes (without_empty_blocks ws)
    stored = e ∙ sym (removed_accepted done_zero)

    done_fits : ltb (length nodes) (length (without_empty_blocks ws)) ≡ false
    unfolding storing
    done_fits = call_fits 0 nodes _ _ (ap (λ (p : Outcome ℕ (List ℕ)). p.answer.verdict.number) (sym stored) ∙ d)

    written : o ≡ record { answer = done (node_count (without_empty_blocks ws)); buffers = overwrite nodes 0 (without_empty_blocks ws) }
    unfolding storing
    written = stored ∙ call_room _ _ _ _ done_fits

    -- as far as the size says, the buffer holds what was written
    read_back : take (width * o.answer.sizes) o.buffers ≡ without_empty_blocks ws
    unfolding done
    read_back =
        let left = without_empty_blocks ws in
        let fits : 0 + length left ≤ length nodes = omega (arith, ltb-false (length nodes) (length left) done_fits) in
        ap (λ (p : Outcome ℕ (List ℕ)). take (width * p.answer.sizes) p.buffers) written
        ∙ rw (whole_left ws, ← zero-add (length left)) (take_overwrite nodes 0 left fits)

    pub removal_written : RemovalOf ws ls (take (width * o.answer.sizes) o.buffers)
    removal_written = subst (RemovalOf ws ls) (sym read_back) (removal ws ls (within_zero stored_limits ws ls done_zero))

  pub table_left : (o : Outcome ℕ (List ℕ)) → o ≡ removed ws ls nodes → TableLeft ws ls o
  unfolding TableLeft
  table_left o e d = removal_written o e d
