-- A block of an accepted table by its words: its entries, and the chains as they come and go.
-- Assumes nothing.
use mathlib.Core.Path.{◌≡◌, sym, ◌∙◌, ap, subst}
use mathlib.Core.Bool.{true}
use mathlib.Core.List.{List}
use Prim.Native.Nat.{ℕ, suc, ◌+◌, ◌≤◌, ◌<◌}
use native.Mathlib.Omega.{arith}
use native.Mathlib.Numerals.{add-one}
use lib.ListN.{length, get_or, set}
use Rattle.lists.proofs.Members.{mem-get_or}
use Rattle.formula.specs.Node.{Table, is_block, bound}
use Rattle.formula.specs.Words.{node_count, field, range, words_at, node_at, table_of}
use Rattle.formula.specs.declared.NodeWords.{NodeWords}
use Rattle.formula.specs.Tree.{Tree, count, bound_below}
use Rattle.formula.proofs.Nodes.{block_kind, node_block}
use Rattle.formula.proofs.Ranges.{range_length, range_at}
use Rattle.refusals.specs.Verdict.{accepted}
use Rattle.acceptance.specs.Limits.{limit}
use Rattle.acceptance.specs.Verdict.{verdict}
use Rattle.acceptance.specs.Accepted.{Accepted}
use Rattle.acceptance.proofs.Accepted.{accepted_holds}
use Rattle.prenex_form.specs.Names.{highest_number, bound_count}
use Rattle.prenex_form.proofs.NameLaws.{bound_le}
use Rattle.prenex_form.proofs.Limits.{bound_limit}
use Rattle.arrays.specs.Held.{enclosing, entries}
use Rattle.arrays.proofs.Entries.{bound_below_next, entries_at}
use Rattle.binders.specs.Scope.{in_scope, Open}
use Rattle.binders.proofs.Tables.{in_table}
use Rattle.binders.proofs.Scope.{EntryOf, entry_of_within, scope_own, scope_start, scope_end}
use Rattle.binders.proofs.Opened.{open_moved, open_put, open_take}

-- Block i of an accepted table: where its entries start, where its range does, and how many there are.
pub record BlockAt (ws ls : List ℕ) (i start first n : ℕ) : Type 0 where
  pub accepts : verdict ws ls ≡ accepted
  pub inside : i < node_count ws
  pub is_block_lem : is_block (node_at ws ls i) ≡ true
  pub start_is : start ≡ bound_below (table_of ws ls) i
  pub first_is : first ≡ field ws i 1
  pub count_is : n ≡ field ws i 2

-- the same of the words that have been read
pub block_at : {ws ls : List ℕ} {i start : ℕ} {w : NodeWords} → verdict ws ls ≡ accepted → (i < node_count ws) × (is_block (node_at ws ls i) ≡ true)
    → start ≡ bound_below (table_of ws ls) i → w ≡ words_at ws i → BlockAt ws ls i start w.a w.b
block_at v h s e =
    record {
      accepts = v;
      inside = h.0;
      is_block_lem = h.1;
      start_is = s;
      first_is = ap (λ (w : NodeWords). w.a) e;
      count_is = ap (λ (w : NodeWords). w.b) e;
    }

module _ {ws ls : List ℕ} {i start first n : ℕ} (b : BlockAt ws ls i start first n) where
  abbrev t : Table
  t = table_of ws ls

  holds : Accepted ws ls
  holds = accepted_holds ws ls b.accepts

  tree : Tree t
  tree = holds.proper.tree

  inner : i < t.size
  inner = in_table ws ls i b.inside

  few : bound_count t ≤ limit
  few = bound_limit ws ls holds

  fits : first + n ≤ length ls
  fits = omega (arith, holds.fits i b.inside (block_kind ws ls i b.is_block_lem), b.first_is, b.count_is)

  bound_by : bound (t.node i) ≡ range ls first n
  unfolding table_of bound
  bound_by = rw (b.first_is, b.count_is) (ap bound (node_block ws ls i b.is_block_lem))

  pub counted : count t i ≡ n
  unfolding count
  counted = ap length bound_by ∙ range_length ls first n fits

  ends : bound_below t (suc i) ≡ start + n
  ends = omega (arith, bound_below_next t i, counted, b.start_is)

  -- its entry k
  module _ (k : ℕ) (l : k < n) where
    entry_of : EntryOf t (start + k) i
    entry_of = record { lt = inner; from = omega (arith, b.start_is); below = omega (arith, ends) }

    below : start + k < bound_count t
    below = entry_of_within t (start + k) i entry_of

    pub entry_lt : start + k < limit
    entry_lt = omega (arith, below, few)

    pub range_lt : first + k < length ls
    range_lt = omega (arith, fits)

    in_bound : get_or (bound (t.node i)) k 0 ≡ get_or ls (first + k) 0
    in_bound = ap (λ xs. get_or xs k 0) bound_by ∙ range_at ls first n k 0 l

    number : get_or (entries t) (start + k) 0 ≡ get_or ls (first + k) 0
    number = rw b.start_is (entries_at t i k inner (omega (arith, counted)) ∙ in_bound)

    number_le : get_or ls (first + k) 0 ≤ highest_number t
    unfolding count
    number_le = bound_le t i _ inner (rw in_bound at (mem-get_or (bound (t.node i)) k 0 (omega (arith, counted))))

    -- its number has a head
    pub entry_head : {e : ℕ} {heads nexts : List ℕ} → Open t i e heads nexts → get_or ls (first + k) 0 < length heads
    entry_head o = omega (arith, number_le, o.heads_wide)

    in_scope_lem : in_scope t i (start + k) ≡ true
    in_scope_lem = scope_own t tree (start + k) below i entry_of

    module _ {heads nexts : List ℕ} (next : ℕ) (q : suc (start + k) ≡ next) where
      pub entry_put : Open t i next heads nexts
          → Open t i (start + k) (set heads (get_or ls (first + k) 0) (suc (start + k))) (set nexts (suc (start + k)) (get_or heads (get_or ls (first + k) 0) 0))
      entry_put o =
          let p : Open t i (suc (start + k)) heads nexts = rw q o in
          open_put t i (start + k) _ few number_le below in_scope_lem number p

      pub entry_taken : Open t i (start + k) heads nexts
          → Open t i next (set heads (get_or ls (first + k) 0) (get_or nexts (start + k + 1) 0)) nexts
      entry_taken o =
          rw (add-one (start + k))
          (subst (λ e. Open t i e (set heads (get_or ls (first + k) 0) (get_or nexts (suc (start + k)) 0)) nexts) q
          (open_take t i (start + k) _ few number_le below in_scope_lem number o))

  module _ {heads nexts : List ℕ} where
    -- before it is entered, and after
    pub enter_start : Open t (enclosing t i) 0 heads nexts → Open t i (start + n) heads nexts
    enter_start o =
        let p : Open t i (bound_below t (suc i)) heads nexts = open_moved t (enclosing t i) 0 i (bound_below t (suc i)) (λ e h. scope_end t tree e h i inner) o in
        rw ends at p

    pub enter_end : (k : ℕ) → k ≡ 0 → Open t i (start + k) heads nexts → Open t i 0 heads nexts
    enter_end k z o =
        let s : start + k ≡ bound_below t i = omega (arith, b.start_is) in
        open_moved t i (bound_below t i) i 0 (λ e h. scope_start t tree e h i inner) (rw s at o)

    -- the same of leaving it
    pub leave_start : Open t i 0 heads nexts → Open t i (start + 0) heads nexts
    leave_start o =
        let s : start + 0 ≡ bound_below t i = omega (arith, b.start_is) in
        rw s (open_moved t i 0 i (bound_below t i) (λ e h. sym (scope_start t tree e h i inner)) o)

    pub leave_end : (k : ℕ) → k ≡ n → Open t i (start + k) heads nexts → Open t (enclosing t i) 0 heads nexts
    leave_end k z o =
        let s : start + k ≡ bound_below t (suc i) = omega (arith, ends) in
        open_moved t i (bound_below t (suc i)) (enclosing t i) 0 (λ e h. sym (scope_end t tree e h i inner)) (rw s at o)
