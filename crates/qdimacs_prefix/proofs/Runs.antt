-- The quantifier lines put block by block are the lines of the blocks without empty ones and with neighbours of one kind joined.
-- Assumes nothing.
use mathlib.Core.Path.{◌≡◌, refl, sym, ◌∙◌, ap}
use mathlib.Core.List.{List, [], ◌∷◌, ◌++◌, flat_map, append_assoc, append-nil}
use Prim.Native.Nat.{ℕ}
use native.Mathlib.Omega.{arith}
use lib.Dec.{eqb}
use lib.ListN.{length}
use borrow.Author.Tests.{eq-eqb, ne_eqb, eqb-true, eqb-false}
use Rattle.lists.specs.Choice.{pick, pick_yes, pick_no}
use Rattle.lists.proofs.Parts.{flat_map_append}
use Rattle.formula.specs.Node.{Quantifier, exists, for_all}
use Rattle.formula.specs.Form.{Block, kind_of}
use Rattle.formula.proofs.Prefix.{quantifier_read}
use Rattle.texts.specs.Numerals.{digits}
use Rattle.qdimacs.specs.Spelling.{quantifier_word}
use Rattle.qdimacs.proofs.Lines.{block_text_lem}
use Rattle.qdimacs_form.specs.Clauses.{filled_blocks, same_kind, joined_to, joined_blocks}
use Rattle.qdimacs_form.proofs.Sound.{pick_cases}
use Rattle.qdimacs_prefix.specs.Lines.{blocks_text, names_text, end_text, start_text, turn_text, added_text, kind_after, run_text, run_kind}

-- Names one after the other.
pub names_append : (xs ys : List ℕ) → names_text (xs ++ ys) ≡ names_text xs ++ names_text ys
unfolding names_text
names_append xs ys = flat_map_append (λ (x : ℕ). digits x ++ (32 ∷ [])) xs ys

-- The end of a line: none if no line has begun, else 0 and LF; every block's line has one.
pub end_none : end_text 0 ≡ []
unfolding end_text pick
end_none = refl

pub end_some : (k : ℕ) → (k ≡ 0 → ⊥) → end_text k ≡ 48 ∷ 10 ∷ []
unfolding end_text
end_some k n = pick_no (eqb k 0) _ _ (ne_eqb k 0 n)

end_line_lem : (q : Quantifier) → end_text (kind_of q) ≡ 48 ∷ 10 ∷ []
unfolding end_text kind_of pick
end_line_lem exists = refl
end_line_lem for_all = refl

-- No turn to the same kind, and the bytes of one to another.
pub turn_same : (k m : ℕ) → k ≡ m → turn_text k m ≡ []
unfolding turn_text
turn_same k m e = pick_yes (eqb k m) _ _ (eq-eqb k m e)

pub turn_other : (k m : ℕ) → (k ≡ m → ⊥) → turn_text k m ≡ end_text k ++ start_text m
unfolding turn_text
turn_other k m n = pick_no (eqb k m) _ _ (ne_eqb k m n)

-- A block without names adds nothing, one with names turns the line and puts them.
pub added_none : (k m : ℕ) (xs : List ℕ) → length xs ≡ 0 → added_text k m xs ≡ []
unfolding added_text
added_none k m [] e = refl
added_none k m (x ∷ xs) e = absurd (omega arith)

pub added_some : (k m : ℕ) (xs : List ℕ) → (length xs ≡ 0 → ⊥) → added_text k m xs ≡ turn_text k m ++ names_text xs
unfolding added_text
added_some k m [] n = absurd (n refl)
added_some k m (x ∷ xs) n = refl

pub after_none : (k m : ℕ) (xs : List ℕ) → length xs ≡ 0 → kind_after k m xs ≡ k
unfolding kind_after
after_none k m [] e = refl
after_none k m (x ∷ xs) e = absurd (omega arith)

pub after_some : (k m : ℕ) (xs : List ℕ) → (length xs ≡ 0 → ⊥) → kind_after k m xs ≡ m
unfolding kind_after
after_some k m [] n = absurd (n refl)
after_some k m (x ∷ xs) n = refl

-- Names are added at once or in two parts.
added_same : (m : ℕ) (ys : List ℕ) → added_text m m ys ≡ names_text ys
unfolding added_text names_text flat_map
added_same m [] = refl
added_same m (y ∷ ys) = ap (λ t. t ++ names_text (y ∷ ys)) (turn_same m m refl)

pub added_append : (k m : ℕ) (xs ys : List ℕ) → added_text k m (xs ++ ys) ≡ added_text k m xs ++ added_text (kind_after k m xs) m ys
unfolding added_text kind_after
added_append k m [] ys = refl
added_append k m (x ∷ xs) ys =
    ap (λ t. turn_text k m ++ t) (names_append (x ∷ xs) ys)
    ∙ sym (append_assoc (turn_text k m) (names_text (x ∷ xs)) (names_text ys))
    ∙ ap (λ t. (turn_text k m ++ names_text (x ∷ xs)) ++ t) (sym (added_same m ys))

pub after_append : (k m : ℕ) (xs ys : List ℕ) → kind_after k m (xs ++ ys) ≡ kind_after (kind_after k m xs) m ys
unfolding kind_after
after_append k m [] ys = refl
after_append k m (x ∷ xs) [] = refl
after_append k m (x ∷ xs) (y ∷ ys) = refl

-- One block, and blocks after others.
pub run_one : (k : ℕ) (b : Block) → run_text k (b ∷ []) ≡ added_text k (kind_of b.quantifier) b.variables
unfolding run_text
run_one k b = append-nil _

pub run_append : (k : ℕ) (bs cs : List Block) → run_text k (bs ++ cs) ≡ run_text k bs ++ run_text (run_kind k bs) cs
unfolding run_text run_kind
run_append k [] cs = refl
run_append k (b ∷ bs) cs =
    let added = added_text k (kind_of b.quantifier) b.variables in
    let next = kind_after k (kind_of b.quantifier) b.variables in
    ap (λ t. added ++ t) (run_append next bs cs) ∙ sym (append_assoc added (run_text next bs) (run_text (run_kind next bs) cs))

pub run_kind-append : (k : ℕ) (bs cs : List Block) → run_kind k (bs ++ cs) ≡ run_kind (run_kind k bs) cs
unfolding run_kind
run_kind-append k [] cs = refl
run_kind-append k (b ∷ bs) cs = run_kind-append (kind_after k (kind_of b.quantifier) b.variables) bs cs

-- What follows in a line of kind k if these blocks are to come, none of them empty and no neighbours of one kind.
unfoldable rest_text : ℕ → List Block → List ℕ
rest_text k [] = end_text k
rest_text k (b ∷ bs) = turn_text k (kind_of b.quantifier) ++ (names_text b.variables ++ (48 ∷ 10 ∷ blocks_text bs))

-- The lines of blocks are the first one's and the others'.
blocks_first : (b : Block) (bs : List Block)
    → blocks_text (b ∷ bs) ≡ quantifier_word b.quantifier ++ (32 ∷ (names_text b.variables ++ (48 ∷ 10 ∷ blocks_text bs)))
unfolding blocks_text names_text flat_map
blocks_first b bs =
    let word = quantifier_word b.quantifier in
    let names = names_text b.variables in
    ap (λ t. t ++ blocks_text bs) (block_text_lem b)
    ∙ append_assoc word (32 ∷ (names ++ (48 ∷ 10 ∷ []))) (blocks_text bs)
    ∙ ap (λ t. word ++ (32 ∷ t)) (append_assoc names (48 ∷ 10 ∷ []) (blocks_text bs))

-- After a turn, that is the end of the line before and the lines of the blocks;
rest_turned : (k : ℕ) (b : Block) (bs : List Block) → (k ≡ kind_of b.quantifier → ⊥) → rest_text k (b ∷ bs) ≡ end_text k ++ blocks_text (b ∷ bs)
unfolding rest_text start_text
rest_turned k b bs n =
    let word = quantifier_word b.quantifier in
    let tail = names_text b.variables ++ (48 ∷ 10 ∷ blocks_text bs) in
    ap (λ t. t ++ tail) (turn_other k _ n)
    ∙ append_assoc (end_text k) _ tail
    ∙ ap (λ q. end_text k ++ ((quantifier_word q ++ (32 ∷ [])) ++ tail)) (quantifier_read b.quantifier)
    ∙ ap (λ t. end_text k ++ t) (append_assoc word (32 ∷ []) tail ∙ sym (blocks_first b bs))

not_zero : (q : Quantifier) → 0 ≡ kind_of q → ⊥
unfolding kind_of
not_zero exists e = omega arith
not_zero for_all e = omega arith

-- so at the start, where no line has begun, the lines are all there is.
rest_start : (bs : List Block) → rest_text 0 bs ≡ blocks_text bs
unfolding rest_text blocks_text flat_map
rest_start [] = end_none
rest_start (b ∷ bs) = rest_turned 0 b bs (not_zero b.quantifier) ∙ ap (λ t. t ++ blocks_text (b ∷ bs)) end_none

-- A block in front of others: its names go on in the line of the first of them if that is of its kind, else their lines follow.
rest_same : (k : ℕ) (b c : Block) (cs : List Block) → kind_of b.quantifier ≡ kind_of c.quantifier
    → turn_text k (kind_of b.quantifier) ++ (names_text b.variables ++ rest_text (kind_of b.quantifier) (c ∷ cs))
    ≡ rest_text k (record { quantifier = b.quantifier; variables = b.variables ++ c.variables } ∷ cs)
unfolding rest_text
rest_same k b c cs e =
    let tail : List ℕ = 48 ∷ 10 ∷ blocks_text cs in
    ap (λ t. turn_text k (kind_of b.quantifier) ++ t)
    (ap (λ t. names_text b.variables ++ (t ++ (names_text c.variables ++ tail))) (turn_same _ _ e)
    ∙ sym (append_assoc (names_text b.variables) (names_text c.variables) tail)
    ∙ ap (λ t. t ++ tail) (sym (names_append b.variables c.variables)))

rest_other : (k : ℕ) (b c : Block) (cs : List Block) → (kind_of b.quantifier ≡ kind_of c.quantifier → ⊥)
    → turn_text k (kind_of b.quantifier) ++ (names_text b.variables ++ rest_text (kind_of b.quantifier) (c ∷ cs))
    ≡ rest_text k (b ∷ c ∷ cs)
unfolding rest_text
rest_other k b c cs n =
    ap (λ t. turn_text k (kind_of b.quantifier) ++ (names_text b.variables ++ t))
    (rest_turned (kind_of b.quantifier) c cs n ∙ ap (λ t. t ++ blocks_text (c ∷ cs)) (end_line_lem b.quantifier))

rest_joined : (k : ℕ) (b : Block) (bs : List Block)
    → turn_text k (kind_of b.quantifier) ++ (names_text b.variables ++ rest_text (kind_of b.quantifier) bs) ≡ rest_text k (joined_to b bs)
unfolding rest_text joined_to blocks_text flat_map same_kind
rest_joined k b [] = ap (λ t. turn_text k (kind_of b.quantifier) ++ (names_text b.variables ++ t)) (end_line_lem b.quantifier)
rest_joined k b (c ∷ cs) =
    pick_cases (λ ds. turn_text k (kind_of b.quantifier) ++ (names_text b.variables ++ rest_text (kind_of b.quantifier) (c ∷ cs)) ≡ rest_text k ds)
    (same_kind b c) _ _ (λ e. rest_same k b c cs (eqb-true _ _ e)) (λ e. rest_other k b c cs (eqb-false _ _ e))

-- A block without names is passed over, one with names turns the line and puts them.
run_none : (k : ℕ) (b : Block) (bs : List Block) → length b.variables ≡ 0
    → run_text k (b ∷ bs) ++ end_text (run_kind k (b ∷ bs)) ≡ run_text k bs ++ end_text (run_kind k bs)
unfolding run_text run_kind
run_none k b bs e = rw (added_none k (kind_of b.quantifier) b.variables e, after_none k (kind_of b.quantifier) b.variables e)

run_some : (k : ℕ) (b : Block) (bs : List Block) → (length b.variables ≡ 0 → ⊥)
    → run_text k (b ∷ bs) ++ end_text (run_kind k (b ∷ bs))
    ≡ turn_text k (kind_of b.quantifier) ++ (names_text b.variables ++ (run_text (kind_of b.quantifier) bs ++ end_text (run_kind (kind_of b.quantifier) bs)))
unfolding run_text run_kind
run_some k b bs n =
    let kind = kind_of b.quantifier in
    rw (added_some k kind b.variables n, after_some k kind b.variables n)
    (append_assoc (turn_text k kind ++ names_text b.variables) (run_text kind bs) (end_text (run_kind kind bs))
    ∙ append_assoc (turn_text k kind) (names_text b.variables) (run_text kind bs ++ end_text (run_kind kind bs)))

-- So the lines of blocks put one after the other are, from a line of any kind, those of the blocks as they are joined,
run_rest : (k : ℕ) (bs : List Block) → run_text k bs ++ end_text (run_kind k bs) ≡ rest_text k (joined_blocks (filled_blocks bs))
unfolding run_text run_kind joined_blocks filled_blocks rest_text
run_rest k [] = refl
run_rest k (b ∷ bs) =
    pick_cases (λ ds. run_text k (b ∷ bs) ++ end_text (run_kind k (b ∷ bs)) ≡ rest_text k (joined_blocks ds))
    (eqb (length b.variables) 0) _ _
    (λ e. run_none k b bs (eqb-true _ _ e) ∙ run_rest k bs)
    (λ e. run_some k b bs (eqb-false _ _ e)
    ∙ ap (λ t. turn_text k (kind_of b.quantifier) ++ (names_text b.variables ++ t)) (run_rest (kind_of b.quantifier) bs)
    ∙ rest_joined k b (joined_blocks (filled_blocks bs)))

-- and so from the start.
pub run_text_lem : (bs : List Block) → run_text 0 bs ++ end_text (run_kind 0 bs) ≡ blocks_text (joined_blocks (filled_blocks bs))
run_text_lem bs = run_rest 0 bs ∙ rest_start (joined_blocks (filled_blocks bs))
