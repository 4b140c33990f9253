-- Laws of what the blocks taken off come to: one block more, and bounds.
-- Assumes nothing.
use mathlib.Core.Path.{◌≡◌, refl, sym, ◌∙◌, ap, subst}
use mathlib.Core.Bool.{Bool, true, false}
use mathlib.Core.List.{List, [], ◌∷◌, ◌++◌, flat_map}
use Prim.Native.Nat.{ℕ, zero, suc, ◌+◌, ◌-◌, ◌*◌, ◌≤◌, ◌<◌}
use native.Mathlib.Numerals.{add-one}
use native.Mathlib.Omega.{arith}
use lib.Dec.{eqb, ltb}
use lib.ListN.{length, length-append}
use mir.Val.{bool_byte}
use borrow.Author.Tests.{eqb-true, eqb-false, lt-ltb, le-ltb}
use Rattle.lists.specs.Choice.{pick, Is, is_true, is_false, look}
use Rattle.kept_prefix.specs.Blocks.{keep, prefix_names, filled_blocks}
use Rattle.lists.specs.Parts.{up_to}
use Rattle.kept_prefix.proofs.Keep.{length_keep, keep_append}
use Rattle.lists.proofs.Parts.{term_le, length_each}
use Rattle.formula.specs.Node.{Node, Table, bound}
use Rattle.formula.specs.Words.{node_count, table_of}
use Rattle.formula.specs.Tree.{count, bound_below}
use Rattle.acceptance.specs.Accepted.{Accepted}
use Rattle.kept_prefix.specs.Leading.{block_of, from_root, outermost}
use Rattle.kept_prefix.specs.Kept.{stands, kept_block, front_blocks}
use Rattle.kept_prefix.proofs.Leading.{names_next}
use Rattle.kept_prefix.proofs.Kept.{front_next, front_kept, front_few}
use Rattle.leading_blocks.specs.Front.{FrontTo}
use Rattle.leading_blocks.specs.declared.Front.{Front}

-- One block, with those of its names that pass the test, is left unless none does.
module _ (p : ℕ → Bool) (nd : Node) where
  one_block : length (filled_blocks (kept_block p (block_of nd) ∷ [])) ≡ bool_byte (ltb 0 (length (keep p (bound nd))))
  unfolding filled_blocks kept_block block_of pick
  one_block = go (look (eqb (length (keep p (bound nd))) 0))
    where
      go : Is (eqb (length (keep p (bound nd))) 0) → length (filled_blocks (kept_block p (block_of nd) ∷ [])) ≡ bool_byte (ltb 0 (length (keep p (bound nd))))
      go (is_true e) = let z : length (keep p (bound nd)) ≡ 0 = eqb-true _ _ e in rw (e, le-ltb 0 (length (keep p (bound nd))) (omega arith))
      go (is_false e) = let n : length (keep p (bound nd)) ≡ 0 → ⊥ = eqb-false _ _ e in rw (e, lt-ltb 0 (length (keep p (bound nd))) (omega arith))

module _ (t : Table) where
  -- the names of node k that stand at a variable node
  abbrev kept_at : ℕ → List ℕ
  kept_at k = keep (stands t) (bound (from_root t k))

  bound_next : (k : ℕ) → length (prefix_names (outermost t (suc k))) ≡ length (prefix_names (outermost t k)) + length (bound (from_root t k))
  bound_next k = ap length (names_next t k) ∙ length-append (prefix_names (outermost t k)) (bound (from_root t k))

  blocks_next : (k : ℕ) → length (front_blocks t (outermost t (suc k))) ≡ length (front_blocks t (outermost t k)) + bool_byte (ltb 0 (length (kept_at k)))
  unfolding front_blocks
  blocks_next k =
      omega (arith, ap length (front_next t k), length-append (front_blocks t (outermost t k)) (filled_blocks (kept_block (stands t) (block_of (from_root t k)) ∷ [])), one_block (stands t) (from_root t k))

  kept_next : (k : ℕ) → length (prefix_names (front_blocks t (outermost t (suc k)))) ≡ length (prefix_names (front_blocks t (outermost t k))) + length (kept_at k)
  kept_next k =
      let xs : List ℕ = prefix_names (outermost t k) in
      let e : keep (stands t) (prefix_names (outermost t (suc k))) ≡ keep (stands t) xs ++ kept_at k =
      ap (keep (stands t)) (names_next t k) ∙ keep_append (stands t) xs (bound (from_root t k)) in
      omega (arith, ap length (front_kept t (outermost t (suc k))), ap length e, length-append (keep (stands t) xs) (kept_at k), ap length (front_kept t (outermost t k)))

  pub front_none : FrontTo t 0 (record { taken = 0; bound = 0; blocks = 0; names = 0 })
  unfolding outermost up_to prefix_names flat_map front_blocks filled_blocks
  front_none = record { taken_is = refl; bound_is = refl; blocks_are = refl; names_are = refl }

  -- one block more
  pub front_more : (k n m : ℕ) (f : Front) → FrontTo t k f → n ≡ length (bound (from_root t k)) → m ≡ length (kept_at k)
      → FrontTo t (k + 1) (record { taken = f.taken + 1; bound = f.bound + n; blocks = f.blocks + bool_byte (ltb 0 m); names = f.names + m })
  front_more k n m f r e d =
      let s : suc k ≡ k + 1 = sym (add-one k) in
      subst (λ j. FrontTo t j (record { taken = f.taken + 1; bound = f.bound + n; blocks = f.blocks + bool_byte (ltb 0 m); names = f.names + m })) s
      (record {
        taken_is = omega (arith, r.taken_is);
        bound_is = omega (arith, r.bound_is, bound_next k);
        blocks_are = omega (arith, r.blocks_are, blocks_next k, ap (λ j. bool_byte (ltb 0 j)) d);
        names_are = omega (arith, r.names_are, kept_next k);
      })

pub byte_low : (b : Bool) → bool_byte b ≤ 1
byte_low true = omega arith
byte_low false = omega arith

-- Each count is low enough to be added to.
pub record Low (f : Front) : Type 0 where
  pub taken_low : f.taken ≤ 4096
  pub bound_low : f.bound ≤ 16777216
  pub blocks_low : f.blocks ≤ 4096
  pub names_low : f.names ≤ 16777216

module _ (ws ls : List ℕ) (a : Accepted ws ls) where
  names_few : (k : ℕ) → k < node_count ws → length (bound (from_root (table_of ws ls) k)) ≤ 4096
  unfolding bound_below count from_root table_of
  names_few k h =
      let i : ℕ = node_count ws - suc k in
      let l : i < node_count ws = omega arith in
      omega (arith, a.counts_limit, term_le (count (table_of ws ls)) (node_count ws) i l)

  bound_few : (k : ℕ) → k ≤ node_count ws → length (prefix_names (outermost (table_of ws ls) k)) ≤ 4096 * k
  unfolding outermost up_to prefix_names flat_map
  bound_few zero h = omega arith
  bound_few (suc k) h = omega (arith, bound_few k (omega arith), bound_next (table_of ws ls) k, names_few k (omega arith))

  pub front_low : (k : ℕ) (f : Front) → k ≤ node_count ws → FrontTo (table_of ws ls) k f → Low f
  unfolding outermost
  front_low k f h r =
      let t = table_of ws ls in
      let bs = outermost t k in
      let few : length (prefix_names bs) ≤ 4096 * k = bound_few k h in
      record {
        taken_low = omega (arith, r.taken_is, a.nodes_limit);
        bound_low = omega (arith, r.bound_is, a.nodes_limit);
        blocks_low = omega (arith, r.blocks_are, front_few t bs, length_each (λ j. block_of (from_root t j)) k, a.nodes_limit);
        names_low = omega (arith, r.names_are, ap length (front_kept t bs), length_keep (stands t) (prefix_names bs), a.nodes_limit);
      }
