-- When a prenex form is refused (request S-5), refusals 14 and 15, within any limits.
-- Assumes nothing.
use Rattle.std.specs.Prelude.{Bool, false, not, ◌||◌, List, [], ◌∷◌, ◌≡◌, ℕ, ◌+◌, ◌*◌, ◌/◌, ◌%◌, eqb, ltb, length, get_or}
use Rattle.lists.specs.Choice.{pick}
use Rattle.lists.specs.Search.{lowest}
use Rattle.lists.specs.Members.{mem, all}
use Rattle.lists.specs.Parts.{up_to}
use Rattle.formula.specs.Words.{is_block_kind, block_words}
use Rattle.formula.specs.Form.{prefix_width, block_at}
use Rattle.refusals.specs.Verdict.{refusal, accepted}
use Rattle.refusals.specs.declared.Verdict.{Verdict}
use Rattle.acceptance.specs.Limits.{TableLimits, matrix_within, matrix_limits}
use Rattle.acceptance.specs.Verdict.{is_number_to, range_past_end, verdict_within}

-- "up to 40,960 nodes and names up to 77,823 being allowed"
abbrev pub form_limits : TableLimits
form_limits = matrix_limits 77823

-- Refusal 14: "a matrix with faults 1, 3, 4 or 8, in document 01's order of testing, a block node being 3, .., at the node, 0 for
-- length": the table checker's own verdict on the nodes as a table without a list, within limits that allow no block. Over the most
-- nodes is length.
unfoldable pub matrix_verdict : TableLimits → List ℕ → Verdict
matrix_verdict lim ns = let v = verdict_within lim ns [] in pick (eqb v.number 0) accepted (refusal 14 v.position)

-- An element stands earlier: among those before the list, or before it in the list.
unfoldable pub repeats : List ℕ → List ℕ → Bool
repeats before [] = false
repeats before (x ∷ xs) = mem x before || repeats (x ∷ before) xs

-- The names of the blocks below block j.
unfoldable pub names_before : List ℕ → List ℕ → ℕ → List ℕ
names_before ps xs j = up_to (λ k. (block_at ps xs k).variables) j

-- What refusal 15 refuses of block j:
unfoldable pub bad_block : TableLimits → List ℕ → List ℕ → ℕ → Bool
bad_block lim ps xs j =
    let kind = get_or ps (prefix_width * j) 0 in
    let first = get_or ps (prefix_width * j + 1) 0 in
    let count = get_or ps (prefix_width * j + 2) 0 in
    let names = (block_at ps xs j).variables in
    -- not "of kind 5 or 6",
    not (is_block_kind kind)
    -- "a stretch outside the list", by the checker's own test,
    || (range_past_end xs (block_words kind first count 0)
    -- "or a name outside 1 to 77,823"
    || (not (all (is_number_to lim.highest) names)
    -- "or earlier in the prefix"
    || repeats (names_before ps xs j) names))

-- Refusal 15: "a prefix not in whole blocks of kind 5 or 6, a stretch outside the list, or a name outside 1 to 77,823 or earlier in the
-- prefix, at the first such block, 0 for length".
unfoldable pub prefix_verdict : TableLimits → List ℕ → List ℕ → Verdict
prefix_verdict lim ps xs =
    let m = length ps / prefix_width in
    let j = lowest (bad_block lim ps xs) m in
    pick (not (eqb (length ps % prefix_width) 0)) (refusal 15 0)
    (pick (ltb j m) (refusal 15 j)
    accepted)

-- "Refused: 14 ..; 15 ..; 9, in that order": what comes before 9.
unfoldable pub form_verdict_within : TableLimits → List ℕ → List ℕ → List ℕ → Verdict
form_verdict_within lim ns ps xs =
    let v = matrix_verdict lim ns in
    pick (eqb v.number 0) (prefix_verdict lim ps xs) v

abbrev pub form_verdict : List ℕ → List ℕ → List ℕ → Verdict
form_verdict = form_verdict_within form_limits

-- The form passes both tests without a limit on nodes and names: some limits are high enough.
pub record PassesUnbounded (ns ps xs : List ℕ) : Type 0 where
  pub nodes : ℕ
  pub highest : ℕ
  pub passes : form_verdict_within (matrix_within nodes highest) ns ps xs ≡ accepted
