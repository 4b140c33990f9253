-- The verdict accepts a form exactly where `AcceptedFormWithin` holds of it.
-- Assumes nothing.
use mathlib.Core.Path.{◌≡◌, refl, sym, ◌∙◌, ap}
use mathlib.Core.Bool.{Bool, true, false, not, ◌||◌}
use mathlib.Core.List.{List, []}
use Prim.Native.Nat.{ℕ, ◌+◌, ◌*◌, ◌/◌, ◌<◌, ◌≤◌}
use native.Mathlib.Omega.{arith}
use lib.Dec.{ltb}
use lib.ListN.{length, get_or}
use borrow.Author.Tests.{ltb-false, le-ltb, not-false}
use Rattle.lists.specs.Choice.{clash, or_neither_left, or_neither_right, or_neither}
use Rattle.lists.specs.Members.{all}
use Rattle.formula.specs.Words.{is_block_kind, block_words}
use Rattle.formula.specs.Form.{prefix_width, block_at}
use Rattle.refusals.specs.Verdict.{refusal, accepted}
use Rattle.refusals.specs.declared.Verdict.{Verdict}
use Rattle.acceptance.specs.Limits.{TableLimits}
use Rattle.acceptance.specs.Verdict.{is_number_to, range_past_end}
use Rattle.acceptance.proofs.Accepted.{within_holds, holds_within}
use Rattle.form_check.specs.Verdict.{repeats, names_before, bad_block, form_verdict_within}
use Rattle.form_check.specs.Order.{WholeForm, FirstOfForm, matrix, ragged, bad, none}
use Rattle.form_check.specs.Accepted.{AcceptedFormWithin}
use Rattle.form_check.proofs.Order.{form_order}
use Rattle.form_check.proofs.Names.{names_are, names_pass_lem, pass_names, names_distinct, distinct_names}

-- A block that refusal 15 does not speak of.
pub record GoodBlock (lim : TableLimits) (ps xs : List ℕ) (j : ℕ) : Type 0 where
  pub kind : is_block_kind (get_or ps (prefix_width * j) 0) ≡ true
  pub fits : get_or ps (prefix_width * j + 1) 0 + get_or ps (prefix_width * j + 2) 0 ≤ length xs
  pub numbered : all (is_number_to lim.highest) (block_at ps xs j).variables ≡ true
  pub apart : repeats (names_before ps xs j) (block_at ps xs j).variables ≡ false

past_none : (xs : List ℕ) (k a b : ℕ) → is_block_kind k ≡ true → range_past_end xs (block_words k a b 0) ≡ ltb (length xs) (a + b)
unfolding range_past_end block_words
past_none xs k a b e = rw e

module _ (lim : TableLimits) (ps xs : List ℕ) (j : ℕ) where
  abbrev numbered_at : Bool
  numbered_at = all (is_number_to lim.highest) (block_at ps xs j).variables

  abbrev past_at : Bool
  past_at = range_past_end xs (block_words (get_or ps (prefix_width * j) 0) (get_or ps (prefix_width * j + 1) 0) (get_or ps (prefix_width * j + 2) 0) 0)

  abbrev repeats_at : Bool
  repeats_at = repeats (names_before ps xs j) (block_at ps xs j).variables

  pub not_bad : bad_block lim ps xs j ≡ false → GoodBlock lim ps xs j
  unfolding bad_block
  not_bad e =
      let kind = not-false _ (or_neither_left _ _ e) in
      let r1 = or_neither_right (not (is_block_kind (get_or ps (prefix_width * j) 0))) (past_at || (not numbered_at || repeats_at)) e in
      let r2 = or_neither_right past_at (not numbered_at || repeats_at) r1 in
      record {
        kind = kind;
        fits = ltb-false _ _ (sym (past_none xs _ _ _ kind) ∙ or_neither_left past_at _ r1);
        numbered = not-false _ (or_neither_left (not numbered_at) repeats_at r2);
        apart = or_neither_right (not numbered_at) repeats_at r2;
      }

  pub good_block : GoodBlock lim ps xs j → bad_block lim ps xs j ≡ false
  unfolding bad_block
  good_block g =
      or_neither _ _ (ap not g.kind)
      (or_neither _ _ (past_none xs _ _ _ g.kind ∙ le-ltb _ _ g.fits) (or_neither _ _ (ap not g.numbered) g.apart))

module _ (lim : TableLimits) (ns ps xs : List ℕ) where
  -- the number 0 is an accepted form's alone
  zero_by : (v : Verdict) → FirstOfForm lim ns ps xs v → v.number ≡ 0
      → (v ≡ accepted) × WholeForm lim ns ps × ((k : ℕ) → k < length ps / prefix_width → bad_block lim ps xs k ≡ false)
  unfolding refusal
  zero_by _ (matrix f) z = absurd (omega arith)
  zero_by _ (ragged e f) z = absurd (omega arith)
  zero_by _ (bad w j h b before) z = absurd (omega arith)
  zero_by _ (none w b) z = (refl, w, b)

  pub number_zero : (form_verdict_within lim ns ps xs).number ≡ 0 → form_verdict_within lim ns ps xs ≡ accepted
  number_zero z = (zero_by _ (form_order lim ns ps xs) z).0

  pub form_holds : form_verdict_within lim ns ps xs ≡ accepted → AcceptedFormWithin lim ns ps xs
  unfolding accepted
  form_holds e =
      let r = zero_by _ (form_order lim ns ps xs) (ap (λ v. v.number) e) in
      let good : (j : ℕ) → j < length ps / prefix_width → GoodBlock lim ps xs j = λ j h. not_bad lim ps xs j (r.2 j h) in
      record {
        matrix = within_holds lim ns [] r.1.matrix;
        whole = omega (arith, r.1.whole);
        kinds = λ j h. (good j h).kind;
        fits = λ j h. (good j h).fits;
        numbered = rw (names_are ps xs) (names_pass_lem ps xs _ _ (λ j h. (good j h).numbered));
        apart = rw (names_are ps xs) (names_distinct ps xs _ (λ j h. (good j h).apart));
      }

  accepted_by : AcceptedFormWithin lim ns ps xs → (v : Verdict) → FirstOfForm lim ns ps xs v → v ≡ accepted
  accepted_by r _ (matrix f) = absurd (f (holds_within lim ns [] r.matrix))
  accepted_by r _ (ragged e f) = absurd (f (omega (arith, r.whole)))
  accepted_by r _ (bad w j h b before) =
      clash b
      (good_block lim ps xs j
      record {
        kind = r.kinds j h;
        fits = r.fits j h;
        numbered = pass_names ps xs _ _ j h (rw (← names_are ps xs) r.numbered);
        apart = distinct_names ps xs _ (rw (← names_are ps xs) r.apart) j h;
      })
  accepted_by r _ (none w b) = refl

  pub holds_form : AcceptedFormWithin lim ns ps xs → form_verdict_within lim ns ps xs ≡ accepted
  holds_form r = accepted_by r _ (form_order lim ns ps xs)
