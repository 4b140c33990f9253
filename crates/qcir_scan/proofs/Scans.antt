-- A scan as a whole: its start, and what it answers.
-- Assumes nothing.
use mathlib.Core.Bool.{true, false}
use mathlib.Core.List.{List}
use mathlib.Core.Path.{◌≡◌, sym, ◌∙◌, ap}
use Prim.Native.Nat.{ℕ, suc, ◌+◌, ◌-◌, ◌/◌, ◌%◌, ◌≤◌, ◌<◌}
use native.Mathlib.Omega.{arith}
use lib.Dec.{eqb}
use lib.ListN.{length, take, drop}
use lib.Seq.{take_all}
use borrow.Author.Tests.{eq-eqb}
use Rattle.lists.specs.Choice.{pick_yes}
use Rattle.qcir_tokens.specs.Held.{tokens_from}
use Rattle.qcir_spelling.specs.Machine.{start, emit, step, run, alive, accepts, tokens_of, is_dead, is_done}
use Rattle.qcir_scan.specs.declared.Progress.{Progress}
use Rattle.qcir_header.specs.Header.{header_end}
use Rattle.qcir_scan.specs.Places.{places, place_of, spare_of, spare}
use Rattle.qcir_scan.specs.Tables.{entry_at}
use Rattle.qcir_scan.specs.Held.{highest, state_of, Wide, Lives, Holds, Spelled, Misspelled}
use Rattle.qcir_scan.proofs.Effects.{apply, step_effect}
use Rattle.qcir_scan.proofs.Rule.{effect_of, entry_effect, next_low, at_line_end, done_number}
use Rattle.qcir_scan.proofs.Runs.{dead_refused, alive_dead, alive_next, alive_end}
use Rattle.qcir_scan.proofs.Headers.{at_header, header_within, header_run, header_alive, short_position, short_spelled}
use Rattle.qcir_scan.proofs.Steps.{place_dead, lives_here}

module _ (text rs ns ps : List ℕ) (at : ℕ) (is : at ≡ header_end text 0) where
  -- where the header is wrong, or cut short
  pub headless : at < 9 → Misspelled text at
  headless l = record { refused = short_spelled highest text at is l; position_is = short_position highest text at is l }

  -- the header is taken
  module _ (l : 9 ≤ at) where
    headed_state : run highest start (take at text) ≡ state_of (record { at = at; place = 1; number = 0; begin = 0; count = 0 }) rs ns ps
    unfolding state_of place_of places tokens_from
    headed_state =
        let z : at ≡ 9 = at_header highest text at is l in rw z (header_run highest text at is l)

    headed_lives : Lives text (at - 1)
    unfolding is_dead state_of place_of places
    headed_lives =
        let z : at ≡ 9 = at_header highest text at is l in
        let w = header_within highest text at is l in
        let k : at - 1 + 1 ≡ at = omega arith in
        let on : is_dead (run highest start (take at text)).place ≡ false = ap (λ s. is_dead s.place) headed_state in
        let lives : Lives text at = rw z (header_alive highest text at is l) in
        let a = alive_next highest text (at - 1) (omega arith) (rw k on) in
        let b : alive highest (run highest start (take (at - 1) text)) (drop (at - 1) text) ≡ suc (alive highest (run highest start (take at text)) (drop at text)) = rw k at a in
        omega arith

    pub holds_start : Wide rs ns ps → Holds text rs ns ps (record { at = at; place = 1; number = 0; begin = 0; count = 0 })
    unfolding spare spare_of place_of places
    holds_start w =
        record { state = headed_state; lives = headed_lives; within = header_within highest text at is l; place_low = omega arith; number_low = omega arith; begin_low = omega arith; room = omega arith; wide = w }

module _ (text rs ns ps : List ℕ) (q : Progress) (h : Holds text rs ns ps q) (short : length text ≤ 65536) where
  -- where no file goes on
  pub dead_misspelled : 0 < q.at → q.place ≡ 0 → Misspelled text (q.at - 1)
  dead_misspelled l d =
      let w = h.within in
      let k : q.at - 1 + 1 ≡ q.at = omega arith in
      let gone : is_dead (run highest start (take q.at text)).place ≡ true = place_dead text rs ns ps q h ∙ eq-eqb q.place 0 d in
      let z = alive_dead highest text (q.at - 1) (omega arith) (rw k gone) in
      let lives = h.lives in
      record { refused = dead_refused highest text q.at gone; position_is = omega arith }

  -- at the text's end
  module _ (going : 0 < q.place) (end : length text ≤ q.at) where
    whole : run highest start text ≡ state_of q rs ns ps
    whole = ap (run highest start) (sym (take_all q.at text end)) ∙ h.state

    last_step : (step highest (state_of q rs ns ps) 10).place ≡ place_of (entry_at q.place 10 % 256)
    unfolding step state_of apply effect_of emit
    last_step =
        let low : entry_at q.place 10 / 256 ≤ 24 = at_line_end q.place h.place_low in
        ap (λ s. s.place)
        (step_effect highest (state_of q rs ns ps) 10 (place_of q.place)
        ∙ ap (apply highest (state_of q rs ns ps) 10) (entry_effect q.place h.place_low 10 (omega arith))
        ∙ pick_yes _ _ _ (eq-eqb (entry_at q.place 10 / 256 - 24) 0 (omega arith)))

    accepts_end : accepts highest text ≡ eqb (entry_at q.place 10 % 256) 27
    unfolding accepts
    accepts_end =
        ap (λ s. is_done (step highest s 10).place) whole
        ∙ ap is_done last_step
        ∙ done_number (entry_at q.place 10 % 256) (next_low q.place h.place_low 10 (omega arith))

    pub end_spelled : eqb (entry_at q.place 10 % 256) 27 ≡ true → Spelled text rs ns ps q.count
    unfolding tokens_of state_of
    end_spelled t =
        let w = h.within in
        let room = h.room in
        let z = alive_end highest text (run highest start (take q.at text)) q.at end in
        let lives = lives_here text rs ns ps q h going in
        record { accepted = accepts_end ∙ t; position_is = omega arith; tokens_are = ap (λ s. s.tokens) (sym whole); few = omega arith }

    pub end_misspelled : eqb (entry_at q.place 10 % 256) 27 ≡ false → Misspelled text q.at
    end_misspelled t =
        let z = alive_end highest text (run highest start (take q.at text)) q.at end in
        let lives = lives_here text rs ns ps q h going in
        record { refused = accepts_end ∙ t; position_is = omega arith }
