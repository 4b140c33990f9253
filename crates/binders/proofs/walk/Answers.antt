-- `binders::walk` meets its contract. The loop's invariant: `Walking`, and the steps taken and those left are those of the
-- whole walk. The measure is the steps left.
-- Assumes nothing.
use mathlib.Core.Path.{◌≡◌, refl, ◌∙◌}
use mathlib.Core.Logic.{inl, inr}
use Prim.Native.Nat.{ℕ, ◌<◌}
use native.Mathlib.Omega.{arith}
use Rattle.binders.specs.Walk.{Unfinished}
use Rattle.binders.proofs.Walked.{nodes_few, begun, begun_steps, ended, ended_steps, steps_linear}
use Rattle.binders.proofs.walk.Goals.{then-place-ne0, else-place-ne0+then-place-size}
use Rattle.binders.proofs.walk.Goals as goal

pub offset_bounds-scopes-size : goal.offset_bounds-scopes-size
offset_bounds-scopes-size c = omega (arith, nodes_few c.args.scopes.now.held)

pub bounds-scopes-size : goal.bounds-scopes-size
bounds-scopes-size c = omega (arith, nodes_few c.args.scopes.now.held, c.args.scopes.now.held.firsts_length)

pub loop-place-init : goal.loop-place-init
loop-place-init c = (begun c.args.scopes.now.held _ _ c.requires.bindings_len c.requires.fact refl refl, begun_steps c.args.scopes.now.held _ refl refl refl)

-- the loop's test
goes_on : (link : ℕ) → (link ≡ 0 → ⊥) → 0 < link
goes_on link n = omega arith

pub step-place-requires : goal.step-place-requires
step-place-requires c =
    let go : Unfinished c.args.scopes.now.words.now c.args.scopes.now.list.now c.loop-place.place = elim c.if-place-ne0.branch [ then-place-ne0 w ↦ inr (goes_on _ w.if-place-ne0.true) | else-place-ne0+then-place-size w ↦ inl (omega (arith, w.if-place-size.true)) ] in record {
      walking = c.loop-place.invariant.0;
      unfinished = go;
      place_value = c.loop-place.invariant.1;
    }

pub loop-place-smaller : goal.loop-place-smaller
loop-place-smaller c = let d = c.step-place.ensures in omega (arith, d.result_value, d.steps_lt_steps)

pub loop-place-preserved : goal.loop-place-preserved
loop-place-preserved c =
    let v = c.loop-place.invariant in
    (c.step-place.ensures.walking_2, c.step-place.ensures.result_value ∙ v.1)

pub returns : goal.returns
returns c =
    let s = c.args.scopes.now.held in
    let v = c.loop-place.invariant in
    let z = c.if-place-ne0.false in
    let h = c.if-place-size.false in
    let n = ended_steps s v.0 h z v.1 in record {
      bindings = ended s v.0 h z;
      steps = n;
      linear = omega (arith, steps_linear s);
    }
