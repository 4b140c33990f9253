-- The nodes of a prenex form after its first ones, and the whole form.
-- Assumes nothing.
use mathlib.Core.Path.{◌≡◌, refl, sym, ◌∙◌, ap}
use mathlib.Core.List.{List, ◌++◌, flat_map, append_assoc, append-nil}
use Prim.Native.Nat.{ℕ, zero, suc, ◌+◌, ◌*◌, ◌≤◌}
use native.Mathlib.Omega.{arith}
use lib.Dec.{leb}
use lib.ListN.{length, length-append}
use borrow.Author.Tests.{leb-true, leb-false}
use Rattle.lists.specs.Choice.{Is, is_true, is_false, look}
use Rattle.lists.specs.Parts.{overwrite}
use Rattle.formula.specs.Node.{Node, Table}
use Rattle.formula.specs.Words.{width, node_words}
use Rattle.prenex_form.specs.Levels.{levels}
use Rattle.prenex_form.specs.Matrix.{kept, first_nodes, level_nodes, nodes_to, prenex_nodes, written_nodes}
use Rattle.prenex_form.proofs.Written.{length-first_nodes}
use Rattle.matrix_writer.specs.Added.{added_nodes}
use Rattle.matrix_writer.specs.Buffer.{longest_form, with_nodes, Room}
use Rattle.matrix_writer.proofs.Buffer.{with_then}

-- the form's nodes are the first ones and those added
pub nodes_to_lem : (t : Table) (l : ℕ) → nodes_to t l ≡ first_nodes t ++ added_nodes t l
unfolding nodes_to added_nodes
nodes_to_lem t zero = sym (append-nil (first_nodes t))
nodes_to_lem t (suc j) =
    let e : nodes_to t j ≡ first_nodes t ++ added_nodes t j = nodes_to_lem t j in
    let n : length (first_nodes t ++ added_nodes t j) ≡ kept t + length (added_nodes t j) = length-append (first_nodes t) (added_nodes t j) ∙ omega (arith, length-first_nodes t) in
    rw (e, n) (append_assoc (first_nodes t) (added_nodes t j) (level_nodes t j (kept t + length (added_nodes t j))))

pub length_added : (t : Table) (j : ℕ) → length (added_nodes t (suc j)) ≡ length (added_nodes t j) + length (level_nodes t j (kept t + length (added_nodes t j)))
unfolding added_nodes
length_added t j = length-append (added_nodes t j) (level_nodes t j (kept t + length (added_nodes t j)))

pub added_grows : (t : Table) (j l : ℕ) → j ≤ l → length (added_nodes t j) ≤ length (added_nodes t l)
added_grows t j zero h = let e : j ≡ 0 = omega arith in rw e (omega arith)
added_grows t j (suc l) h = go (look (leb j l)) (added_grows t j l)
  where
    go : Is (leb j l) → (j ≤ l → length (added_nodes t j) ≤ length (added_nodes t l)) → length (added_nodes t j) ≤ length (added_nodes t (suc l))
    go (is_true e) next = omega (arith, next (leb-true j l e), length_added t l)
    go (is_false e) next = let k : j ≡ suc l = omega (arith, leb-false j l e) in rw k (omega arith)

-- how many nodes there are, with the first ones
pub length_nodes : (t : Table) → length (prenex_nodes t) ≡ kept t + length (added_nodes t (levels t))
unfolding prenex_nodes
length_nodes t =
    ap (λ (ns : List Node). length ns) (nodes_to_lem t (levels t))
    ∙ length-append (first_nodes t) (added_nodes t (levels t))
    ∙ ap (λ k. k + length (added_nodes t (levels t))) (length-first_nodes t)

-- the room that a buffer for the whole form has for what is added
pub room_for_added : (t : Table) (out : List ℕ) → width * length (prenex_nodes t) ≤ length out → length (prenex_nodes t) ≤ longest_form
    → Room out (kept t) (length (added_nodes t (levels t)))
room_for_added t out h k =
    let e = length_nodes t in record { fits = omega arith; small = omega arith }

-- the first nodes written, and then those added: the whole form
pub whole_form : (t : Table) (out : List ℕ) → width * length (prenex_nodes t) ≤ length out
    → overwrite (overwrite out 0 (flat_map node_words (first_nodes t))) (width * kept t) (flat_map node_words (added_nodes t (levels t)))
    ≡ overwrite out 0 (written_nodes t)
unfolding with_nodes written_nodes prenex_nodes
whole_form t out h =
    let ns = added_nodes t (levels t) in
    let k : kept t ≡ 0 + length (first_nodes t) = omega (arith, length-first_nodes t) in
    let w : with_nodes (with_nodes out 0 (first_nodes t)) (kept t) ns ≡ with_nodes out 0 (first_nodes t ++ ns) =
    with_then out (with_nodes out 0 (first_nodes t)) _ 0 (kept t) (first_nodes t) ns refl refl k (omega (arith, length_nodes t)) in
    w ∙ ap (λ (ms : List Node). overwrite out 0 (flat_map node_words ms)) (sym (nodes_to_lem t (levels t)))
