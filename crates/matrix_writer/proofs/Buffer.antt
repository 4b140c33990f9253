-- Laws of nodes in a lent buffer.
-- Assumes nothing.
use mathlib.Core.Path.{◌≡◌, refl, ◌∙◌}
use mathlib.Core.List.{List, [], ◌∷◌, ◌++◌, flat_map, append-nil}
use Prim.Native.Nat.{ℕ, ◌+◌, ◌*◌, ◌≤◌}
use native.Mathlib.Omega.{arith}
use lib.ListN.{length, length-append}
use Rattle.lists.specs.Parts.{overwrite}
use Rattle.lists.proofs.Parts.{flat_map_append}
use Rattle.lists.proofs.Overwrite.{overwrite_nil, overwrite_append}
use Rattle.formula.specs.Node.{Node}
use Rattle.formula.specs.Words.{width, words_of, word_list, node_words}
use Rattle.formula.specs.declared.NodeWords.{NodeWords}
use Rattle.prenex_form.proofs.NodeLists.{length_words}
use Rattle.matrix_writer.specs.Buffer.{with_nodes, Wrote}

-- one node, by its words
pub with_one : (out last : List ℕ) (at : ℕ) (n : Node) {w : NodeWords} → w ≡ words_of n → last ≡ overwrite out (width * at) (word_list w)
    → last ≡ with_nodes out at (n ∷ [])
unfolding with_nodes flat_map node_words
with_one out last at n e p = rw append-nil (rw e at p)

pub with_none : (out : List ℕ) (at : ℕ) → with_nodes out at [] ≡ out
unfolding with_nodes flat_map
with_none out at = overwrite_nil out (width * at)

-- two writes in a row are one
pub with_append : (out : List ℕ) (at : ℕ) (a b : List Node) → width * (at + length a + length b) ≤ length out
    → with_nodes (with_nodes out at a) (at + length a) b ≡ with_nodes out at (a ++ b)
unfolding with_nodes
with_append out at a b fits =
    let la : length (flat_map node_words a) ≡ width * length a = length_words a in
    let lb : length (flat_map node_words b) ≡ width * length b = length_words b in
    let e : width * (at + length a) ≡ width * at + length (flat_map node_words a) = omega arith in
    rw (e, flat_map_append) (overwrite_append out (width * at) (flat_map node_words a) (flat_map node_words b) (omega arith))

-- the same of a writer's steps
pub with_then : (out mid last : List ℕ) (at next : ℕ) (a b : List Node) → mid ≡ with_nodes out at a → last ≡ with_nodes mid next b
    → next ≡ at + length a → width * (at + length a + length b) ≤ length out → last ≡ with_nodes out at (a ++ b)
with_then out mid last at next a b p q e fits = q ∙ rw (p, e) (with_append out at a b fits)

-- what a writer leaves, where the nodes written are those of a definition
pub wrote : {before after : List ℕ} {at next : ℕ} {ns : List Node} (ms : List Node) → ns ≡ ms → after ≡ with_nodes before at ms → next ≡ at + length ms → Wrote before at ns after next
wrote ms e p q = rw e (record { nodes_are = p; next_is = q })

pub wrote_then : {out mid last : List ℕ} {at next after : ℕ} {a b : List Node} → Wrote out at a mid next → Wrote mid next b last after
    → width * after ≤ length out → Wrote out at (a ++ b) last after
wrote_then {out} {mid} {last} {at} {next} {after} {a} {b} p q fits =
    let e = p.next_is in
    let f = q.next_is in
    record {
      nodes_are = with_then out mid last at next a b p.nodes_are q.nodes_are e (omega arith);
      next_is = simp length-append (omega arith);
    }

-- single nodes written one after the other
pub with_two : (out m last : List ℕ) (at : ℕ) (a b : Node) → m ≡ with_nodes out at (a ∷ []) → last ≡ with_nodes m (at + 1) (b ∷ [])
    → width * (at + 2) ≤ length out → last ≡ with_nodes out at (a ∷ b ∷ [])
with_two out m last at a b p q h = with_then out m last at (at + 1) (a ∷ []) (b ∷ []) p q refl (omega arith)

pub with_three : (out m n last : List ℕ) (at : ℕ) (a b d : Node) → m ≡ with_nodes out at (a ∷ []) → n ≡ with_nodes m (at + 1) (b ∷ [])
    → last ≡ with_nodes n (at + 2) (d ∷ []) → width * (at + 3) ≤ length out → last ≡ with_nodes out at (a ∷ b ∷ d ∷ [])
with_three out m n last at a b d p q r h =
    with_then out n last at (at + 2) (a ∷ b ∷ []) (d ∷ []) (with_two out m n at a b p q (omega arith)) r refl (omega arith)

pub with_four : (out m n o last : List ℕ) (at : ℕ) (a b d e : Node) → m ≡ with_nodes out at (a ∷ []) → n ≡ with_nodes m (at + 1) (b ∷ [])
    → o ≡ with_nodes n (at + 2) (d ∷ []) → last ≡ with_nodes o (at + 3) (e ∷ []) → width * (at + 4) ≤ length out
    → last ≡ with_nodes out at (a ∷ b ∷ d ∷ e ∷ [])
with_four out m n o last at a b d e p q r s h =
    with_then out o last at (at + 3) (a ∷ b ∷ d ∷ []) (e ∷ []) (with_three out m n o at a b d p q r (omega arith)) s refl (omega arith)
