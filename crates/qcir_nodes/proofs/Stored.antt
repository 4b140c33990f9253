-- What is added is what the definition of the table stores.
-- Assumes nothing.
use mathlib.Core.Bool.{Bool, true, false}
use mathlib.Core.List.{List, [], ◌++◌, append_assoc, append-nil}
use Rattle.std.specs.Prelude.{Option, Some, None}
use mathlib.Core.Path.{◌≡◌, ◌∙◌, ap}
use Prim.Native.Nat.{ℕ, ◌-◌, ◌*◌}
use native.Mathlib.Omega.{arith}
use lib.Dec.{eqb}
use lib.ListN.{length, length-append}
use Rattle.lists.specs.Choice.{pick}
use Rattle.formula.specs.Node.{variable, negation, operator}
use Rattle.formula.specs.Words.{width, node_count, words_of}
use Rattle.formula.specs.declared.NodeWords.{NodeWords}
use Rattle.qcir.specs.File.{Literal}
use Rattle.qcir.specs.Table.{Draft, Stored, store, store_name, store_literal}
use Rattle.qcir_nodes.specs.declared.Progress.{Progress}
use Rattle.qcir_nodes.specs.Nodes.{Added, moved, with_inputs, add_node, and_then, add_name, add_minus, add_literal, join_table, add_join, add_input}
use Rattle.qcir_nodes.proofs.Nodes.{Follows, follows_name, follows_literal}

-- A draft with what is added to it.
abbrev pub with_added : Draft → Added → Stored
with_added d a = record { draft = record { words = d.words ++ a.words; entries = d.entries; gate = d.gate }; node = a.progress.node }

pub node_count_lem : (ws : List ℕ) (n : ℕ) → length ws ≡ width * n → node_count ws ≡ n
node_count_lem ws n e = omega arith

-- The draft has as many nodes as the progress says.
abbrev pub Aligned : Draft → Progress → Type 0
Aligned d p = length d.words ≡ width * p.next

pub aligned_after : (d : Draft) (p : Progress) (a : Added) → Aligned d p → Follows p a → Aligned (with_added d a).draft a.progress
aligned_after d p a h f = simp length-append (omega (arith, f.counted))

pub with_node_lem : (d : Draft) (p : Progress) (w : NodeWords) → Aligned d p → with_added d (add_node p w) ≡ store d w
unfolding store
with_node_lem d p w h = rw (node_count_lem d.words p.next h)

pub with_none : (d : Draft) (p : Progress) → with_added d (record { words = []; progress = p }) ≡ record { draft = d; node = p.node }
with_none d p = rw append-nil

with_pick : (t : Bool) (d : Draft) (a b : Added) (r s : Stored) → with_added d a ≡ r → with_added d b ≡ s → with_added d (pick t a b) ≡ pick t r s
unfolding pick
with_pick true d a b r s e f = e
with_pick false d a b r s e f = f

pub with_then : (d : Draft) (a : Added) (f : Progress → Added) → with_added d (and_then a f) ≡ with_added (with_added d a).draft (f a.progress)
unfolding and_then
with_then d a f = rw append_assoc

pub with_name : (d : Draft) (p : Progress) (x : ℕ) → Aligned d p → with_added d (add_name p (d.gate x) x) ≡ store_name d x
unfolding add_name store_name
with_name d p x h = with_pick (eqb (d.gate x) 0) d _ _ _ _ (with_node_lem d p (words_of (variable x)) h) (with_none d (moved p p.next (d.gate x - 1)))

with_minus : (d : Draft) (p : Progress) (minus : Bool) → Aligned d p → with_added d (add_minus minus p) ≡ pick minus (store d (words_of (negation p.node))) (record { draft = d; node = p.node })
unfolding add_minus
with_minus d p minus h = with_pick minus d _ _ _ _ (with_node_lem d p (words_of (negation p.node)) h) (with_none d p)

pub with_literal : (d : Draft) (p : Progress) (l : Literal) → Aligned d p
    → with_added d (add_literal p (d.gate l.name.number) l.name.number l.minus) ≡ store_literal d l
unfolding add_literal store_literal
with_literal d p l h =
    let x = l.name.number in
    let a = add_name p (d.gate x) x in
    with_then d a (add_minus l.minus)
    ∙ with_minus (with_added d a).draft a.progress l.minus (aligned_after d p a h (follows_name p (d.gate x) x))
    ∙ ap (λ s. pick l.minus (store s.draft (words_of (negation s.node))) s) (with_name d p x h)

-- The operator of truth table t over the inputs so far, of node `left`, and what was stored last; that alone where it is the first input.
unfoldable pub join_stored : Option ℕ → ℕ → Stored → Stored
join_stored (Some left) t r = store r.draft (words_of (operator t left r.node))
join_stored None t r = r

-- The same with the input that follows.
abbrev pub store_joined : Option ℕ → ℕ → Draft → Literal → Stored
store_joined left t d l = join_stored left t (store_literal d l)

with_join : (left : Option ℕ) (d : Draft) (p : Progress) → Aligned d p → with_added d (add_join left p) ≡ join_stored left (join_table p.kind) (record { draft = d; node = p.node })
unfolding add_join join_stored
with_join (Some left) d p h = with_node_lem d p (words_of (operator (join_table p.kind) left p.node)) h
with_join None d p h = with_none d (with_inputs p)

pub with_input : (d : Draft) (p : Progress) (l : Literal) → Aligned d p
    → with_added d (add_input p (d.gate l.name.number) l.name.number l.minus) ≡ store_joined p.inputs (join_table p.kind) d l
unfolding add_input
with_input d p l h =
    let x = l.name.number in
    let a = add_literal p (d.gate x) x l.minus in
    let f = follows_literal p (d.gate x) x l.minus in
    with_then d a (add_join p.inputs)
    ∙ with_join p.inputs (with_added d a).draft a.progress (aligned_after d p a h f)
    ∙ ap (λ k. join_stored p.inputs (join_table k) (with_added d a)) f.kind_kept
    ∙ ap (join_stored p.inputs (join_table p.kind)) (with_literal d p l h)
