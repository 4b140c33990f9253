-- Laws of runs: how far the machine lives, byte after byte.
-- Assumes nothing.
use mathlib.Core.Bool.{true, false}
use mathlib.Core.List.{List, [], ◌∷◌}
use mathlib.Core.Path.{◌≡◌, sym, ◌∙◌, ap}
use Prim.Native.Nat.{ℕ, suc, ◌+◌, ◌≤◌, ◌<◌}
use native.Mathlib.Numerals.{add-one}
use lib.ListN.{length, get_or, take, drop, take-append-drop, drop_of_length-le}
use lib.Seq.{take-suc, drop-cons}
use Rattle.lists.specs.Choice.{pick_yes, pick_no}
use Rattle.qcir_spelling.specs.Machine.{dead, State, start, step, run, is_dead, is_done, alive, accepts}
use Rattle.qcir_spelling.proofs.Runs.{run_append, is_dead_lem, dead_step, dead_run}

module _ (most : ℕ) (text : List ℕ) where
  -- dead after some of the bytes: the text is no file
  pub dead_refused : (at : ℕ) → is_dead (run most start (take at text)).place ≡ true → accepts most text ≡ false
  unfolding accepts is_done
  dead_refused at h =
      let d = is_dead_lem _ h in
      let whole : run most start text ≡ run most (run most start (take at text)) (drop at text) = ap (run most start) (sym (take-append-drop at text)) ∙ run_append most start (take at text) (drop at text) in
      let e : (step most (run most start text) 10).place ≡ dead = dead_step most (run most start text) 10 (ap (λ s. s.place) whole ∙ dead_run most (run most start (take at text)) (drop at text) d) in
      ap is_done e

  module _ (at : ℕ) (l : at < length text) where
    pub next_run : run most start (take (at + 1) text) ≡ step most (run most start (take at text)) (get_or text at 0)
    unfolding run
    next_run =
        rw (add-one, take-suc text at 0 l) (run_append most start (take at text) (get_or text at 0 ∷ []))

    next_alive : alive most (run most start (take at text)) (drop at text) ≡ alive most (run most start (take at text)) (get_or text at 0 ∷ drop (suc at) text)
    next_alive = ap (alive most (run most start (take at text))) (drop-cons text at 0 l)

    -- how far it lives, one byte further or dead
    pub alive_dead : is_dead (run most start (take (at + 1) text)).place ≡ true → alive most (run most start (take at text)) (drop at text) ≡ 0
    unfolding alive
    alive_dead h = next_alive ∙ pick_yes _ _ _ (ap (λ s. is_dead s.place) (sym next_run) ∙ h)

    pub alive_next : is_dead (run most start (take (at + 1) text)).place ≡ false → alive most (run most start (take at text)) (drop at text) ≡ suc (alive most (run most start (take (at + 1) text)) (drop (at + 1) text))
    unfolding alive
    alive_next h =
        next_alive ∙ pick_no _ _ _ (ap (λ s. is_dead s.place) (sym next_run) ∙ h)
        ∙ rw (next_run, add-one)

  pub alive_end : (s : State) (at : ℕ) → length text ≤ at → alive most s (drop at text) ≡ 0
  unfolding alive
  alive_end s at h = ap (alive most s) (drop_of_length-le text h)
