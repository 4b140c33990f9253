-- The words of a prefix read back as its blocks, and which numbers blocks bind.
-- Assumes nothing.
use mathlib.Core.Path.{◌≡◌, refl, sym, ◌∙◌, ap}
use mathlib.Core.Bool.{◌||◌}
use mathlib.Core.List.{List, [], ◌∷◌, ◌++◌, flat_map, append_assoc}
use Prim.Native.Nat.{ℕ, suc, ◌+◌, ◌*◌, ◌/◌}
use native.Mathlib.Omega.{arith}
use native.Mathlib.Nat.{mul-div_cancel_left}
use lib.ListN.{length, get_or, take, drop, length-append}
use lib.Seq.{drop_at, take_at, get_or-append-add}
use Rattle.lists.specs.Choice.{pick}
use Rattle.lists.specs.Members.{mem}
use Rattle.lists.proofs.Members.{mem_append}
use Rattle.formula.specs.Node.{Quantifier, exists, for_all}
use Rattle.formula.specs.Words.{range}
use Rattle.formula.specs.Form.{Block, quantifier_of, kind_of, block_at, blocks_from, blocks_of, prefix_words, binds}

-- the kind says which quantifier it is
pub quantifier_read : (q : Quantifier) → quantifier_of (kind_of q) ≡ q
unfolding quantifier_of kind_of pick
quantifier_read exists = refl
quantifier_read for_all = refl

unfoldable variables_of : List Block → List ℕ
variables_of bs = flat_map (λ (b : Block). b.variables) bs

pub length-prefix_words : (s : ℕ) (bs : List Block) → length (prefix_words s bs) ≡ 3 * length bs
unfolding prefix_words
length-prefix_words s [] = refl
length-prefix_words s (b ∷ bs) = omega (arith, length-prefix_words (s + length b.variables) bs)

-- what three words and a stretch read as
block_read : (b : Block) (ps ws xs ys : List ℕ) (s j : ℕ) → length ps ≡ 3 * j → length xs ≡ s
    → block_at (ps ++ (kind_of b.quantifier ∷ s ∷ length b.variables ∷ ws)) (xs ++ (b.variables ++ ys)) j ≡ b
unfolding block_at range
block_read b ps ws xs ys s j e f =
    let k = kind_of b.quantifier in
    let vs = b.variables in
    let zs = k ∷ s ∷ length vs ∷ ws in
    let g : (n : ℕ) → get_or (ps ++ zs) (3 * j + n) 0 ≡ get_or zs n 0 = λ n. ap (λ m. get_or (ps ++ zs) (m + n) 0) (sym e) ∙ get_or-append-add ps zs n 0 in
    let g0 : get_or (ps ++ zs) (3 * j) 0 ≡ k = ap (λ m. get_or (ps ++ zs) m 0) (omega arith) ∙ g 0 in
    let g1 : get_or (ps ++ zs) (3 * j + 1) 0 ≡ s = g 1 in
    let g2 : get_or (ps ++ zs) (3 * j + 2) 0 ≡ length vs = g 2 in
    let r : take (length vs) (drop s (xs ++ (vs ++ ys))) ≡ vs = ap (take (length vs)) (drop_at xs (vs ++ ys) s f) ∙ take_at vs ys (length vs) refl in
    rw (g0, g1, g2, r, quantifier_read b.quantifier)

blocks_read : (bs : List Block) (ps xs : List ℕ) (s j : ℕ) → length ps ≡ 3 * j → length xs ≡ s
    → blocks_from (ps ++ prefix_words s bs) (xs ++ variables_of bs) j (length bs) ≡ bs
unfolding blocks_from prefix_words variables_of flat_map
blocks_read [] ps xs s j e f = refl
blocks_read (b ∷ bs) ps xs s j e f =
    let k = kind_of b.quantifier in
    let vs = b.variables in
    let ws = prefix_words (s + length vs) bs in
    let ys = variables_of bs in
    let p : ps ++ (k ∷ s ∷ length vs ∷ ws) ≡ (ps ++ (k ∷ s ∷ length vs ∷ [])) ++ ws = sym (append_assoc ps (k ∷ s ∷ length vs ∷ []) ws) in
    let q : xs ++ (vs ++ ys) ≡ (xs ++ vs) ++ ys = sym (append_assoc xs vs ys) in
    let next = blocks_read bs (ps ++ (k ∷ s ∷ length vs ∷ [])) (xs ++ vs) (s + length vs) (suc j)
    (length-append ps (k ∷ s ∷ length vs ∷ []) ∙ omega arith) (length-append xs vs ∙ omega arith) in
    ap (λ (c : Block). c ∷ blocks_from (ps ++ (k ∷ s ∷ length vs ∷ ws)) (xs ++ (vs ++ ys)) (suc j) (length bs)) (block_read b ps ws xs ys s j e f)
    ∙ ap (λ (cs : List Block). b ∷ cs) (rw (p, q) next)

pub words_read : (bs : List Block) → blocks_of (prefix_words 0 bs) (flat_map (λ (b : Block). b.variables) bs) ≡ bs
unfolding blocks_of variables_of
words_read bs =
    let e : length (prefix_words 0 bs) / 3 ≡ length bs = rw (length-prefix_words 0 bs) (mul-div_cancel_left (length bs) (omega arith)) in
    rw e (blocks_read bs [] [] 0 0 refl refl)

-- Blocks bind the numbers in their lists.
pub binds_mem : (bs : List Block) (x : ℕ) → binds bs x ≡ mem x (flat_map (λ (b : Block). b.variables) bs)
unfolding binds flat_map mem
binds_mem [] x = refl
binds_mem (b ∷ bs) x = ap (◌||◌ (mem x b.variables)) (binds_mem bs x) ∙ sym (mem_append x b.variables _)
