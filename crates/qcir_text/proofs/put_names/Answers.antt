-- `qcir_text::put_names` meets its contract.
-- Assumes nothing.
use mathlib.Core.Path.{◌≡◌, ap, ◌∙◌}
use mathlib.Core.List.{List}
use Prim.Native.Nat.{ℕ, ◌+◌, ◌-◌, ◌<◌}
use native.Mathlib.Omega.{arith}
use lib.ListN.{length, get_or, take, drop, length-take, length-drop}
use lib.Seq.{get_or-take, get_or-drop}
use Rattle.qcir_text.proofs.Lines.{put_no_further, put_further, put_all_names}
use Rattle.qcir_text.proofs.put_names.Goals as goal

-- the names after the first
module _ (names : List ℕ) where
  abbrev tail : List ℕ
  tail = take (length names - 1) (drop 1 names)

  tail_length : length tail ≡ length names - 1
  tail_length = omega (arith, length-take (length names - 1) (drop 1 names), length-drop 1 names)

  tail_at : (k : ℕ) → k < length tail → get_or tail k 0 ≡ get_or names (k + 1) 0
  tail_at k h =
      let next : 1 + k ≡ k + 1 = omega arith in
      get_or-take (length names - 1) (drop 1 names) k 0 (omega (arith, tail_length)) ∙ get_or-drop 1 names k 0 ∙ ap (λ i. get_or names i 0) next

pub put_number-next-requires : goal.put_number-next-requires
put_number-next-requires c = (omega arith, c.requires.3 0 (omega arith))

pub loop-x-init : goal.loop-x-init
loop-x-init c = (omega arith, put_no_further _ _ _)

pub put_next_name-next-requires : goal.put_next_name-next-requires
put_next_name-next-requires c =
    let names = c.args.names.now in
    let more : c.loop-x.x-index < length names - 1 = omega (arith, tail_length names, c.loop-x-test.true) in
    (omega arith, rw (tail_at names c.loop-x.x-index c.loop-x-test.true) (c.requires.3 _ (omega arith)))

pub loop-x-preserved : goal.loop-x-preserved
loop-x-preserved c =
    let i = c.loop-x.invariant in
    let this = tail_at c.args.names.now c.loop-x.x-index c.loop-x-test.true in
    (omega arith, put_further _ (c.loop-x.x-index + 1) (omega arith) i.1 (rw this at c.put_next_name-next.ensures.put))

pub returns : goal.returns
returns c =
    let names = c.args.names.now in
    let i = c.loop-x.invariant in
    let end : c.loop-x.x-index + 1 ≡ length names = omega (arith, tail_length names) in record {
      put = put_all_names _ (c.loop-x.x-index + 1) (omega arith) end c.put_number-next.ensures.put i.1;
      upper_bound = omega arith;
    }
