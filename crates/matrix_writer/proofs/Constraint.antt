-- A block's constraint as it is written: its definition, its equations, its guard.
-- Assumes nothing.
use mathlib.Core.Path.{◌≡◌, refl, sym, ◌∙◌, ap}
use mathlib.Core.List.{List, ◌++◌}
use Prim.Native.Nat.{ℕ, ◌+◌, ◌-◌, ◌*◌, ◌≤◌, ◌<◌}
use native.Mathlib.Omega.{arith}
use lib.ListN.{length, get_or, length-append}
use Rattle.lists.specs.Parts.{up_to}
use Rattle.formula.specs.Node.{Node, Table}
use Rattle.formula.specs.Words.{width, node_count, field, words_at}
use Rattle.formula.specs.declared.NodeWords.{NodeWords}
use Rattle.formula.specs.Form.{quantifier_of}
use Rattle.formula.specs.Tree.{count}
use Rattle.acceptance.specs.Limits.{limit}
use Rattle.acceptance.specs.Accepted.{Accepted}
use Rattle.acceptance.proofs.Accepted.{accepted_holds}
use Rattle.prenex_form.specs.Names.{highest_number, bound_count, definition_variable}
use Rattle.prenex_form.specs.Levels.{quantifier_at}
use Rattle.prenex_form.specs.Matrix.{body_of, equation, guard, constraint}
use Rattle.prenex_form.proofs.Quantifiers.{quantifier_is}
use Rattle.prenex_form.proofs.Limits.{highest_limit, bound_limit}
use Rattle.prenex_form.proofs.Written.{length_constraint}
use Rattle.matrix_writer.specs.Buffer.{with_nodes, Wrote}
use Rattle.matrix_writer.specs.Entries.{entries_nodes, definition_nodes, guard_nodes}
use Rattle.arrays.specs.Chains.{InnerBlock}
use Rattle.arrays.specs.declared.Blocks.{Blocks}
use Rattle.arrays.specs.Blocks.{table}
use Rattle.matrix_writer.proofs.Buffer.{wrote, with_then}
use Rattle.matrix_writer.proofs.Entries.{length_entries}
use Rattle.matrix_writer.proofs.Blocks.{size_is, body_is, count_is, count_some, entries_within, start_at, entries_are}

same_parts : {a a' b b' d d' : List Node} → a ≡ a' → b ≡ b' → d ≡ d' → a ++ (b ++ d) ≡ a' ++ (b' ++ d')
same_parts p q r = rw (p, q, r)

module _ (t : Table) (i s : ℕ) where
  abbrev defining : List Node
  defining = definition_nodes s (definition_variable t i) (body_of (t.node i))

  abbrev guarding : List Node
  guarding = guard_nodes (s + 2 + (4 * count t i - 1)) (definition_variable t i) (guard (quantifier_at (t.node i))) (s + 1)

  constraint_parts : 0 < count t i → constraint t i s ≡ defining ++ (up_to (equation t i (s + 2)) (count t i) ++ guarding)
  unfolding constraint
  constraint_parts some =
      let a : s + 2 + (4 * count t i - 1) ≡ s + 4 * count t i + 1 = omega arith in
      let b : s + 4 * count t i + 1 - 1 ≡ s + 4 * count t i = omega arith in
      let d : s + 4 * count t i + 1 + 1 ≡ s + 4 * count t i + 2 = omega arith in
      rw (a, b, d)

module _ (d : Blocks) {i : ℕ} (b : InnerBlock (table d) i) (s : ℕ) where
  ok : Accepted d.words.now d.list.now
  ok = accepted_holds d.words.now d.list.now d.started.checked

  size_of : count (table d) i ≡ field d.words.now i 2
  size_of = count_is d.words.now d.list.now ok i b

  binds_some : 0 < field d.words.now i 2
  binds_some = omega (arith, count_some d.words.now d.list.now ok i b, size_of)

  -- the three parts as the arrays and the block's words have them
  abbrev definition_part : List Node
  definition_part = definition_nodes s (get_or d.definitions.now i 0) (field d.words.now i 3)

  abbrev equations_part : List Node
  equations_part = entries_nodes (d.names + get_or d.starts.now i 0) (d.copies + get_or d.starts.now i 0) (s + 2) (field d.words.now i 2)

  abbrev guard_part : ℕ → List Node
  guard_part at = guard_nodes at (get_or d.definitions.now i 0) (guard (quantifier_of (field d.words.now i 0))) (s + 1)

  definition_is : definition_part ≡ defining (table d) i s
  definition_is = rw (d.named.defined.definition_is i b.below b.is_inner, body_is d.words.now d.list.now ok i b)

  equations_are : equations_part ≡ up_to (equation (table d) i (s + 2)) (count (table d) i)
  equations_are = rw (← size_of, d.named.names_first, d.named.copies_first) (entries_are d.words.now d.list.now ok i b d.started.started (s + 2))

  guard_is : guard_part (s + 2 + (4 * field d.words.now i 2 - 1)) ≡ guarding (table d) i s
  guard_is = rw (d.named.defined.definition_is i b.below b.is_inner, quantifier_is d.words.now d.list.now i, size_of)

  constraint_is : constraint (table d) i s ≡ definition_part ++ (equations_part ++ guard_part (s + 2 + (4 * field d.words.now i 2 - 1)))
  constraint_is =
      constraint_parts (table d) i s (count_some d.words.now d.list.now ok i b) ∙ same_parts (sym definition_is) (sym equations_are) (sym guard_is)

  length_equations : length equations_part ≡ 4 * field d.words.now i 2 - 1
  length_equations = length_entries (d.names + get_or d.starts.now i 0) (d.copies + get_or d.starts.now i 0) (s + 2) (field d.words.now i 2)

  constraint_length : length (constraint (table d) i s) ≡ 4 * field d.words.now i 2 + 4
  constraint_length = omega (arith, length_constraint (table d) i s (count_some d.words.now d.list.now ok i b), size_of)

  wrote_words : (out m n last : List ℕ) (next : ℕ)
      → m ≡ with_nodes out s definition_part → Wrote m (s + 2) equations_part n next → last ≡ with_nodes n next (guard_part next)
      → width * (s + length (constraint (table d) i s)) ≤ length out
      → Wrote out s (constraint (table d) i s) last (next + 3)
  wrote_words out m n last next p q r fits =
      let l = length_equations in
      let k = constraint_length in
      let some = binds_some in
      let e : next ≡ s + 2 + (4 * field d.words.now i 2 - 1) = omega (arith, q.next_is) in
      let both : n ≡ with_nodes out s (definition_part ++ equations_part) = with_then out m n s (s + 2) definition_part equations_part p q.nodes_are refl (omega arith) in
      wrote (definition_part ++ (equations_part ++ guard_part next)) (constraint_is ∙ ap (λ at. definition_part ++ (equations_part ++ guard_part at)) (sym e))
      (with_then out n last s next (definition_part ++ equations_part) (guard_part next) both r (omega arith) (omega arith))
      (simp length-append (omega arith))

  -- what the code has of the block are its words
  pub wrote_constraint : (out m n last : List ℕ) (next truths : ℕ) {w : NodeWords}
      → w ≡ words_at d.words.now i → truths ≡ guard (quantifier_of w.kind)
      → m ≡ with_nodes out s (definition_nodes s (get_or d.definitions.now i 0) w.c)
      → Wrote m (s + 2) (entries_nodes (d.names + get_or d.starts.now i 0) (d.copies + get_or d.starts.now i 0) (s + 2) w.b) n next
      → last ≡ with_nodes n next (guard_nodes next (get_or d.definitions.now i 0) truths (s + 1))
      → width * (s + length (constraint (table d) i s)) ≤ length out
      → Wrote out s (constraint (table d) i s) last (next + 3)
  wrote_constraint out m n last next truths e v p q r fits =
      wrote_words out m n last next (rw e at p) (rw e at q) (rw (v, e) at r) fits

-- what the code's indices, lengths and d.names are bounded by, at block i
pub record BlockFacts (d : Blocks) (i at : ℕ) : Type 0 where
  pub whole : width * i + width ≤ length d.words.now
  pub few : i < limit
  pub names_small : d.names + get_or d.starts.now i 0 + field d.words.now i 2 ≤ 4294967295
  pub copies_small : d.copies + get_or d.starts.now i 0 + field d.words.now i 2 ≤ 4294967295
  pub binds : 0 < field d.words.now i 2
  pub length_is : length (constraint (table d) i at) ≡ 4 * field d.words.now i 2 + 4

pub block_facts : (d : Blocks) {i : ℕ} (at : ℕ) → InnerBlock (table d) i → BlockFacts d i at
block_facts d {i} at b =
    let a = ok d b at in
    let below : i < node_count d.words.now = rw (size_is d.words.now d.list.now) at b.below in
    let last : get_or d.starts.now i 0 + field d.words.now i 2 ≤ bound_count (table d) =
    omega (arith, entries_within d.words.now d.list.now a i b, size_of d b at, start_at d.words.now d.list.now a i b d.started.started) in
    let q : bound_count (table d) ≤ limit = bound_limit d.words.now d.list.now a in
    let h : highest_number (table d) ≤ 65535 = highest_limit d.words.now d.list.now a in
    record {
      whole = omega (arith, a.whole);
      few = omega (arith, a.nodes_limit);
      names_small = omega (arith, d.named.names_first);
      copies_small = omega (arith, d.named.copies_first);
      binds = binds_some d b at;
      length_is = constraint_length d b at;
    }
