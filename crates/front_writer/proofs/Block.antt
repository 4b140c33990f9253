-- One block of an accepted table as its words give it: its names, their flags and its kind.
-- Assumes nothing.
use mathlib.Core.Path.{◌≡◌, sym, ◌∙◌, ap}
use mathlib.Core.Bool.{Bool, true, false}
use mathlib.Core.List.{List}
use Prim.Native.Nat.{ℕ, ◌+◌, ◌-◌, ◌≤◌, ◌<◌}
use native.Mathlib.Omega.{arith}
use lib.Dec.{eqb}
use lib.ListN.{length, get_or}
use borrow.Author.Tests.{eqb-true}
use Rattle.lists.specs.Choice.{pick, or_cases}
use Rattle.kept_prefix.specs.Blocks.{keep, prefix_names}
use Rattle.kept_prefix.proofs.Keep.{keep_cong, length_keep}
use Rattle.formula.specs.Node.{is_block}
use Rattle.formula.specs.Words.{node_count, is_block_kind, words_at, node_at, table_of}
use Rattle.formula.specs.declared.NodeWords.{NodeWords}
use Rattle.formula.specs.Form.{quantifier_of, kind_of}
use Rattle.formula.proofs.Nodes.{node_block, block_kind}
use Rattle.refusals.specs.Verdict.{accepted}
use Rattle.acceptance.specs.Verdict.{verdict}
use Rattle.acceptance.proofs.Accepted.{accepted_holds}
use Rattle.prenex_form.specs.Levels.{quantifier_at}
use Rattle.prenex_form.proofs.Limits.{bound_limit}
use Rattle.kept_prefix.specs.Leading.{from_root, outermost}
use Rattle.kept_prefix.specs.Kept.{stands}
use Rattle.kept_prefix.specs.Promise.{AllBlocks}
use Rattle.kept_prefix.proofs.Below.{blocks_below}
use Rattle.kept_prefix.proofs.Kept.{front_kept}
use Rattle.leading_blocks.specs.Flags.{Flags}
use Rattle.leading_blocks.specs.Front.{Numbered}
use Rattle.leading_blocks.proofs.Taking.{lent, part_fits, part_is, part_numbered}
use Rattle.front_writer.specs.Written.{front_names}
use Rattle.front_writer.proofs.Laws.{kept_names}

-- A block's kind is that of its quantifier.
kind_read : (k : ℕ) → is_block_kind k ≡ true → kind_of (quantifier_of k) ≡ k
unfolding is_block_kind kind_of quantifier_of pick
kind_read k h = or_cases (eqb k 5) (eqb k 6) h (λ e. rw (eqb-true k 5 e)) (λ e. rw (eqb-true k 6 e))

module _ (ws ls : List ℕ) (ok : verdict ws ls ≡ accepted) (k : ℕ) (h : k < node_count ws) (bs : AllBlocks (table_of ws ls) (k + 1)) where
  here : from_root (table_of ws ls) k ≡ node_at ws ls (node_count ws - 1 - k)
  unfolding from_root table_of
  here = ap (node_at ws ls) (omega arith)

  is_block_lem : is_block (node_at ws ls (node_count ws - 1 - k)) ≡ true
  is_block_lem = ap is_block (sym here) ∙ bs k (omega arith)

  -- no more names stand in front than a table may bind
  pub names_few : length (front_names (table_of ws ls) (k + 1)) ≤ 4096
  unfolding front_names
  names_few =
      let t = table_of ws ls in
      omega (
        arith,
        ap length (front_kept t (outermost t (k + 1))),
        length_keep (stands t) (prefix_names (outermost t (k + 1))),
        (blocks_below ws ls (k + 1) ok (omega arith) bs).bound_less,
        bound_limit ws ls (accepted_holds ws ls ok),
      )

  module _ {w : NodeWords} (read : w ≡ words_at ws (node_count ws - 1 - k)) where
    has_kind : is_block_kind w.kind ≡ true
    has_kind = ap (λ (v : NodeWords). is_block_kind v.kind) read ∙ block_kind ws ls (node_count ws - 1 - k) is_block_lem

    pub kind_is : w.kind ≡ kind_of (quantifier_at (from_root (table_of ws ls) k))
    unfolding quantifier_at
    kind_is =
        let e : quantifier_at (from_root (table_of ws ls) k) ≡ quantifier_of w.kind =
        ap quantifier_at (here ∙ node_block ws ls (node_count ws - 1 - k) is_block_lem) ∙ ap (λ (v : NodeWords). quantifier_of v.kind) (sym read) in
        sym (ap kind_of e ∙ kind_read w.kind has_kind)

    pub lent_end : w.a + w.b ≤ length ls
    lent_end = part_fits ws ls (accepted_holds ws ls ok) k h w read has_kind

    pub lent_numbered : Numbered (lent ls w)
    lent_numbered = part_numbered ws ls (accepted_holds ws ls ok) k h w read has_kind

    pub lent_kept : (standing : List Bool) → Flags (stands (table_of ws ls)) standing
        → keep (λ x. get_or standing x false) (lent ls w) ≡ kept_names (table_of ws ls) k
    lent_kept standing f =
        keep_cong _ _ (lent ls w) f.flag_is ∙ ap (keep (stands (table_of ws ls))) (part_is ws ls (accepted_holds ws ls ok) k h w read has_kind)
