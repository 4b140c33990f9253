-- `qcir_table::output_index` meets its contract. The loop's invariant: the tokens before token i are outer ones.
-- Assumes nothing.
use mathlib.Core.Path.{◌≡◌, sym, ◌∙◌, ap}
use mathlib.Core.Bool.{not}
use Prim.Native.Nat.{◌<◌}
use native.Mathlib.Omega.{arith}
use borrow.Author.Count.{below_more}
use lib.Seq.{get_or-take, length-take-le}
use Rattle.lists.proofs.Search.{lowest_is, lowest_none}
use Rattle.qcir_tokens.specs.Tokens.{is_outer}
use Rattle.qcir_table.specs.Passes.{output_index}
use Rattle.qcir_table.proofs.output_index.Goals as goal

pub returns-then-not-is_outer : goal.returns-then-not-is_outer
unfolding output_index
returns-then-not-is_outer c =
    let roles = c.args.tokens.now.roles.now in
    let v = c.loop-i in
    let low : v.i < c.args.tokens.now.count = omega (arith, length-take-le c.args.tokens.now.count roles c.args.tokens.now.room.roles_hold) in
    let role = get_or-take c.args.tokens.now.count roles v.i 0 low in
    sym (lowest_is _ _ _ low (ap (λ r. not (is_outer r)) (sym role) ∙ ap not (sym c.is_outer.ensures ∙ c.if-not-is_outer.true)) v.invariant)

pub loop-i-preserved : goal.loop-i-preserved
loop-i-preserved c =
    let roles = c.args.tokens.now.roles.now in
    let v = c.loop-i in
    let low : v.i < c.args.tokens.now.count = omega (arith, length-take-le c.args.tokens.now.count roles c.args.tokens.now.room.roles_hold) in
    let role = get_or-take c.args.tokens.now.count roles v.i 0 low in
    below_more _ _ v.invariant (ap (λ r. not (is_outer r)) (sym role) ∙ ap not (sym c.is_outer.ensures ∙ c.if-not-is_outer.false))

pub returns : goal.returns
unfolding output_index
returns c =
    let v = c.loop-i in
    let n = length-take-le c.args.tokens.now.count c.args.tokens.now.roles.now c.args.tokens.now.room.roles_hold in
    let e : v.i ≡ c.args.tokens.now.count = omega arith in
    sym (lowest_none _ _ (rw e at v.invariant))
