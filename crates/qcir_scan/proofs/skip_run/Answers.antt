-- `qcir_scan::skip_run` meets its contract.
-- Assumes nothing.
use mathlib.Core.Bool.{true, ◌&&◌}
use mathlib.Core.Path.{◌≡◌}
use Prim.Native.Nat.{ℕ}
use lib.Dec.{leb, ltb}
use borrow.Author.Tests.{leb-true, ltb-true}
use Rattle.lists.specs.Choice.{and_left, and_right}
use Rattle.qcir_scan.specs.Held.{Between, InComment}
use Rattle.qcir_scan.proofs.skip_run.Goals as goal

between_is : (i : ℕ) → (leb 4 i && ltb i 50) ≡ true → Between i
between_is i t =
    record { first = leb-true 4 i (and_left (leb 4 i) _ t); last = ltb-true i 50 (and_right (leb 4 i) _ t) }

comment-is : (i : ℕ) → (leb 65 i && ltb i 68) ≡ true → InComment i
comment-is i t =
    record { first = leb-true 65 i (and_left (leb 65 i) _ t); last = ltb-true i 68 (and_right (leb 65 i) _ t) }

pub skip_spaces-requires : goal.skip_spaces-requires
skip_spaces-requires c =
    record {
      text_len_bound = c.requires.text_len_bound;
      between = (between_is c.args.q.place c.if-q.true, c.requires.at_in_bounds);
    }

pub skip_comment-requires : goal.skip_comment-requires
skip_comment-requires c =
    record {
      text_len_bound = c.requires.text_len_bound;
      in_comment = (comment-is c.args.q.place c.if-q-2.true, c.requires.at_in_bounds);
    }
