-- `binders::put_entry` meets its contract.
-- Assumes nothing.
use mathlib.Core.Path.{ap}
use native.Mathlib.Numerals.{add-one}
use lib.ListN.{get_or, set}
use Rattle.binders.proofs.put_entry.Goals as goal

pub returns : goal.returns
returns c =
    let s = c.args in
    let n = add-one s.e in record {
      heads_after = ap (λ v. set s.heads.now s.x v) n;
      entry_nexts_after = ap (λ v. set s.entry_nexts.now v (get_or s.heads.now s.x 0)) n;
    }
