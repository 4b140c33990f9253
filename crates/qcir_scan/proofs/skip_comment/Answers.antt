-- `qcir_scan::skip_comment` meets its contract.
-- Assumes nothing.
use mathlib.Core.Path.{◌∙◌}
use Prim.Native.Nat.{◌+◌}
use native.Mathlib.Omega.{arith}
use lib.ListN.{get_or}
use borrow.Author.Tests.{ne_eqb}
use Rattle.qcir_scan.proofs.Rule.{passed_comment}
use Rattle.qcir_scan.proofs.Steps.{behind_length, behind_at, passes_run}
use Rattle.qcir_scan.proofs.skip_comment.Goals as goal

pub returns : goal.returns
returns c =
    let text = c.args.text.now in
    let q = c.args.q in
    let place = c.requires.in_comment.0 in
    let r = c.bytes_before_end-bytes.ensures in (
      omega arith,
      λ rs ns ps h. passes_run text rs ns ps q c.requires.text_len_bound (λ k. omega (arith, c.type_inv.text k)) (omega (arith, place.first)) c.bytes_before_end-bytes.result
          (omega (arith, r.within, behind_length text q.at))
          (λ k l. passed_comment q.place (get_or text (q.at + k) 0) place (ne_eqb _ _ (λ e. r.no_end k l (behind_at text q.at k c.requires.in_comment.1 ∙ e))))
          h,
    )
