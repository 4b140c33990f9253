-- The quantifier lines as a whole: the free names, the prefix blocks, the gates and the end of the last line.
-- Assumes nothing.
use mathlib.Core.Path.{sym, ◌∙◌, ap}
use mathlib.Core.List.{List, [], ◌∷◌, ◌++◌}
use Prim.Native.Nat.{ℕ}
use Rattle.formula.specs.Form.{Block, kind_of}
use Rattle.qdimacs_form.specs.Clauses.{exists_block, closed_blocks, filled_blocks, joined_blocks}
use Rattle.qdimacs_words.specs.Words.{Loose}
use Rattle.qdimacs_words.proofs.Loose.{loose_then, loose_as}
use Rattle.std.specs.Prelude.{None}
use Rattle.qdimacs_prefix.specs.declared.Line.{Line}
use Rattle.qdimacs_prefix.specs.Lines.{line_kind, blocks_text, end_text, added_text, kind_after, run_text, run_kind, Goes}
use Rattle.qdimacs_prefix.proofs.Runs.{run_text_lem}
use Rattle.qdimacs_prefix.proofs.Steps.{goes_run, goes_block}

-- Names in an exists block.
exists_put : {before after : List ℕ} {l n : Line} (k : ℕ) (xs : List ℕ) → Goes before l (added_text k 5 xs) (kind_after k 5 xs) after n
    → Goes before l (run_text k (exists_block xs ∷ [])) (run_kind k (exists_block xs ∷ [])) after n
unfolding exists_block kind_of
exists_put k xs a = goes_block k (exists_block xs) a

pub lines_put : {text t1 t2 t3 t4 : List ℕ} {l m n : Line} {r : ℕ} (at : ℕ) (free gates : List ℕ) (bs : List Block)
    → Goes text (record { at = at; quantifier = None }) (added_text 0 5 free) (kind_after 0 5 free) t1 l
    → Goes t1 l (run_text (line_kind l) bs) (run_kind (line_kind l) bs) t2 m
    → Goes t2 m (added_text (line_kind m) 5 gates) (kind_after (line_kind m) 5 gates) t3 n
    → Loose t3 n.at (end_text (line_kind n)) t4 r
    → Loose text at (blocks_text (joined_blocks (filled_blocks (closed_blocks free bs gates)))) t4 r
unfolding closed_blocks
lines_put {l = l} {m = m} at free gates bs a b c e =
    let last = goes_run (line_kind l) bs (exists_block gates ∷ []) b (exists_put (line_kind m) gates c) in
    let all = goes_run 0 (exists_block free ∷ []) (bs ++ (exists_block gates ∷ [])) (exists_put 0 free a) last in
    loose_as
    (sym (run_text_lem (closed_blocks free bs gates)) ∙ ap (λ k. run_text 0 (closed_blocks free bs gates) ++ end_text k) (sym all.kind_is))
    (loose_then all.put e)
