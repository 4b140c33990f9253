-- What a call answers and leaves that begins with a QCIR text (request S-1), whatever comes of the file's table.
-- Assumes nothing.
use Rattle.std.specs.Prelude.{List, [], ◌∷◌, ◌≡◌, ℕ, ◌<◌, ◌≤◌, eqb, ltb, length}
use Rattle.lists.specs.Choice.{pick}
use Rattle.lists.specs.Search.{lowest}
use Rattle.formula.specs.Words.{node_count}
use Rattle.refusals.specs.Verdict.{refusal, accepted}
use Rattle.refusals.specs.Outcome.{Outcome, refused, unless_refused}
use Rattle.refusals.specs.declared.Verdict.{Verdict}
use Rattle.acceptance.specs.Limits.{limit}
use Rattle.acceptance.specs.Verdict.{too_many_variables}
use Rattle.qcir.specs.File.{File}
use Rattle.qcir.specs.Spelling.{Spells, SpellingFault}
use Rattle.qcir.specs.Refusals.{least, misplaced, not_used_once, unbound}
use Rattle.qcir.specs.Table.{table_words, table_list}

-- The limits on a file's bytes, on names, and on the nodes and the sum of counts of its table.
pub record Limits : Type 0 where
  pub bytes : ℕ
  pub names : ℕ
  pub nodes : ℕ
  pub variables : ℕ

-- "names are decimal 1 to 65,535 .., at most 65,536 bytes", and the table's limits.
unfoldable pub limits : Limits
limits = record { bytes = 65536; names = 65535; nodes = limit; variables = limit }

-- The next verdict where no number is at fault; else this refusal, at the lowest.
unfoldable pub unless_any : List ℕ → ℕ → Verdict → Verdict
unless_any faults number next = pick (eqb (length faults) 0) next (refusal number (least faults))

-- "then 11 ..", at the lowest place; "Then 13 .., 12 .., the lowest such name being the place of each".
unfoldable pub name_verdict : File → Verdict
name_verdict f = unless_any (misplaced f) 11 (unless_any (not_used_once f) 13 (unless_any (unbound f) 12 accepted))

-- "then 2 for nodes only, 6 ..": of the file's table.
unfoldable pub size_verdict : Limits → List ℕ → Verdict
size_verdict lim ws =
    let n = node_count ws in
    let i = lowest (too_many_variables lim.variables ws) n in
    pick (ltb lim.nodes n) (refusal 2 0)
    (pick (ltb i n) (refusal 6 i)
    accepted)

-- The numbers by which texts are refused, in the order of the tests.
unfoldable pub text_refusals : List ℕ
text_refusals = 10 ∷ 11 ∷ 13 ∷ 12 ∷ 2 ∷ 6 ∷ []

-- Below, `none` are the sizes that are all 0, `before` is what the buffers held, and `next` is what comes of the words and the list of
-- a table.
module _ {Sizes Buffers : Type 0} where
  -- "On refusal all sizes .. are 0 .., and no buffer has changed."
  unfoldable pub refused_text : Sizes → Buffers → Verdict → Outcome Sizes Buffers
  refused_text none before v = record { answer = refused v none; buffers = before }

  module _ (lim : Limits) (none : Sizes) (before : Buffers) (next : List ℕ → List ℕ → Outcome Sizes Buffers) where
    -- 2, 6; then what comes of the file's table.
    unfoldable pub of_table : File → Outcome Sizes Buffers
    of_table f = unless_refused (size_verdict lim (table_words f)) none before (next (table_words f) (table_list f))

    -- 11, 13, 12 before these.
    unfoldable pub of_file : File → Outcome Sizes Buffers
    of_file f = unless_refused (name_verdict f) none before (of_table f)

    -- What comes of a text.
    pub data FromText (text : List ℕ) : Outcome Sizes Buffers → Type 0 where
      -- "10 length, at 0"
      too_long : lim.bytes < length text → FromText text (refused_text none before (refusal 10 0))
      -- "or spelling"
      misspelled : length text ≤ lim.bytes → (p : ℕ) → SpellingFault lim.names text p → FromText text (refused_text none before (refusal 10 p))
      spelled : length text ≤ lim.bytes → (f : File) → Spells lim.names text f → FromText text (of_file f)

    -- Nothing else comes of it.
    abbrev pub OnlyFromText : List ℕ → Outcome Sizes Buffers → Type 0
    OnlyFromText text o = (p : Outcome Sizes Buffers) → FromText text p → p ≡ o

    -- An outcome of the text, and no other. Every text has one, within any limits that allow a name (`every_text`, qcir_reader's
    -- proofs/Unique.antt).
    pub record OneOutcome (text : List ℕ) : Type 0 where
      pub result : Outcome Sizes Buffers
      pub from_text : FromText text result
      pub only : OnlyFromText text result
