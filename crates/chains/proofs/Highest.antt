-- The highest number of a table, one entry and one node at a time.
-- Assumes nothing.
use mathlib.Core.Path.{◌≡◌, refl, sym, ◌∙◌, ap}
use mathlib.Core.Bool.{true, false}
use mathlib.Core.List.{List, [], ◌∷◌, ◌++◌}
use Prim.Native.Nat.{ℕ, max, ◌+◌, ◌-◌, ◌<◌, ◌≤◌}
use native.Mathlib.Omega.{arith}
use native.Mathlib.Numerals.{add-one}
use lib.ListN.{length, get_or, take, drop}
use lib.Seq.{take-suc}
use Rattle.std.proofs.lemmas.List.{take_all}
use Rattle.lists.specs.Choice.{clash}
use Rattle.lists.specs.Members.{maximum}
use Rattle.lists.specs.Parts.{highest}
use Rattle.formula.specs.Node.{Node, constant, variable, negation, operator, block, is_block}
use Rattle.formula.specs.declared.NodeWords.{NodeWords}
use Rattle.formula.specs.Words.{range, words_at, node_at}
use Rattle.formula.proofs.Nodes.{node_block}
use Rattle.prenex_form.specs.Names.{highest_at}
use Rattle.arrays.specs.Held.{is_member}

maximum_snoc : (xs : List ℕ) (y : ℕ) → maximum (xs ++ (y ∷ [])) ≡ max (maximum xs) y
unfolding maximum
maximum_snoc [] y = omega arith
maximum_snoc (x ∷ xs) y = omega (arith, maximum_snoc xs y)

-- one entry more
pub maximum_next : (xs : List ℕ) (k : ℕ) {x y : ℕ} → k < length xs → x ≡ maximum (take k xs) → y ≡ max x (get_or xs k 0) → y ≡ maximum (take (k + 1) xs)
maximum_next xs k h e f = f ∙ rw (e, add-one, take-suc xs k 0) (sym (maximum_snoc (take k xs) (get_or xs k 0)))

-- all entries of a range
pub maximum_all : (ls : List ℕ) (first n k : ℕ) {x : ℕ} → length (take (first + n - first) (drop first ls)) ≤ k
    → x ≡ maximum (take k (take (first + n - first) (drop first ls))) → x ≡ maximum (range ls first n)
unfolding range
maximum_all ls first n k h e =
    let q : first + n - first ≡ n = omega arith in
    e ∙ ap maximum (take_all k _ h ∙ ap (λ m. take m (drop first ls)) q)

pub highest_next : (f : ℕ → ℕ) (i : ℕ) → highest f (i + 1) ≡ max (highest f i) (f i)
unfolding highest
highest_next f i = rw add-one

pub plain_highest : (nd : Node) → is_member nd ≡ false → highest_at nd ≡ 0
unfolding is_member highest_at
plain_highest (constant b) h = refl
plain_highest (variable x) h = clash refl h
plain_highest (negation a) h = refl
plain_highest (operator f a b) h = refl
plain_highest (block q xs a) h = clash refl h

pub block_highest : (ws ls : List ℕ) (i : ℕ) (w : NodeWords) → w ≡ words_at ws i → is_block (node_at ws ls i) ≡ true
    → highest_at (node_at ws ls i) ≡ maximum (range ls w.a w.b)
unfolding highest_at
block_highest ws ls i w r e = ap highest_at (node_block ws ls i e) ∙ ap (λ (v : NodeWords). maximum (range ls v.a v.b)) (sym r)
