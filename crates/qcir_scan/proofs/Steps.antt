-- One byte: what the code's variables and arrays hold after it.
-- Assumes nothing.
use mathlib.Core.Bool.{true, false}
use mathlib.Core.List.{List, [], ◌∷◌, ◌++◌}
use mathlib.Core.Path.{◌≡◌, refl, sym, ◌∙◌, ap, subst}
use Prim.Native.Nat.{ℕ, zero, suc, ◌+◌, ◌*◌, ◌-◌, ◌/◌, ◌%◌, ◌≤◌, ◌<◌}
use native.Mathlib.Nat.{mul-add-mod_self_left, mul-add-div, mod-eq_of_lt, div-eq_of_lt}
use native.Mathlib.Numerals.{add-one}
use native.Mathlib.Omega.{arith}
use lib.Dec.{eqb, leb, ltb}
use lib.ListN.{length, get_or, set, take, drop, length-set}
use Rattle.std.proofs.lemmas.Grind.{common_steps}
use borrow.Author.Tests.{eqb-true, eqb-false, eq-eqb, ne_eqb, le-leb, lt-leb, ltb-true, ltb-false}
use Rattle.lists.specs.Choice.{pick, pick_yes, pick_no, Is, is_true, is_false, look, or_left, or_right, or_neither}
use Rattle.qcir.specs.Spelling.{is_digit}
use Rattle.qcir_tokens.specs.Tokens.{token}
use Rattle.qcir_tokens.specs.Held.{tokens_from}
use Rattle.qcir_spelling.specs.Machine.{dead, State, start, move, move_name, emit, step, run, is_dead}
use Rattle.qcir_scan.specs.declared.Progress.{Progress}
use Rattle.qcir_scan.specs.Places.{places, place_of, spare_of, spare}
use Rattle.qcir_scan.specs.Tables.{entry_at}
use Rattle.qcir_scan.specs.Held.{highest, state_of, Wide, Lives, Holds, InName, Leads, number_after, begin_after, count_after}
use Rattle.qcir_scan.proofs.Effects.{with_number, apply, step_effect}
use Rattle.qcir_scan.proofs.Rule.{effect_of, token_bytes, dead_number, entry_effect, next_low, next_spare, digit_value, further_digit, passed, stays}
use Rattle.qcir_scan.proofs.Runs.{next_run, alive_next}
use Rattle.qcir_scan.proofs.Tokens.{tokens_kept, tokens_more}

-- a state by its parts
state_is : (x : State) (q : Progress) (rs ns ps : List ℕ) → x.place ≡ place_of q.place → x.taken ≡ q.at → x.pending.number ≡ q.number → x.pending.position ≡ q.begin → x.tokens ≡ tokens_from rs ns ps 0 q.count → x ≡ state_of q rs ns ps
unfolding state_of
state_is x q rs ns ps p t n m k =
    λ i. record { place = p i; taken = t i; pending = record { number = n i; position = m i }; tokens = k i }

-- the first digit, by what an entry does
first_digit : (act : ℕ) → 24 < act → eqb (act - 24) 1 ≡ eqb act 25
first_digit act l = go (look (eqb act 25))
  where
    go : Is (eqb act 25) → eqb (act - 24) 1 ≡ eqb act 25
    go (is_true t) = let z : act ≡ 25 = eqb-true act 25 t in eq-eqb (act - 24) 1 (omega arith) ∙ sym t
    go (is_false t) =
        let z : act ≡ 25 → ⊥ = eqb-false act 25 t in ne_eqb (act - 24) 1 (λ y. z (omega arith)) ∙ sym t

module _ (text rs ns ps : List ℕ) (q : Progress) (h : Holds text rs ns ps q) where
  -- dead by the number of the place
  pub place_dead : is_dead (run highest start (take q.at text)).place ≡ eqb q.place 0
  unfolding state_of
  place_dead = ap (λ s. is_dead s.place) h.state ∙ dead_number q.place h.place_low

  -- all bytes so far were taken, unless it is dead
  pub lives_here : 0 < q.place → Lives text q.at
  lives_here p = go (look (ltb 0 q.at))
    where
      go : Is (ltb 0 q.at) → Lives text q.at
      go (is_true t) =
          let l : 0 < q.at = ltb-true 0 q.at t in
          let k : q.at - 1 + 1 ≡ q.at = omega arith in
          let w = h.within in
          let on : is_dead (run highest start (take q.at text)).place ≡ false = place_dead ∙ ne_eqb q.place 0 (λ z. omega arith) in
          let a = alive_next highest text (q.at - 1) (omega arith) (rw k on) in
          let b = h.lives in
          subst (Lives text) k (omega arith)
      go (is_false t) =
          let z : q.at ≡ q.at - 1 = omega (arith, ltb-false 0 q.at t) in subst (Lives text) (sym z) h.lives

module _ (text rs ns ps : List ℕ) (q : Progress) (h : Holds text rs ns ps q) (l : q.at < length text) (going : 0 < q.place) (long : length text ≤ 65536) (byte : get_or text q.at 0 < 256) where
  b : ℕ
  b = get_or text q.at 0

  e : ℕ
  e = entry_at q.place (get_or text q.at 0)

  s : State
  s = state_of q rs ns ps

  -- the state after the byte
  next_state : run highest start (take (q.at + 1) text) ≡ apply highest s b (effect_of e)
  unfolding b e s step state_of
  next_state =
      next_run highest text q.at l
      ∙ ap (λ x. step highest x b) h.state
      ∙ step_effect highest s b (place_of q.place)
      ∙ ap (apply highest s b) (entry_effect q.place h.place_low b byte)

  act : ℕ
  act = e / 256

  lives_on : Lives text (q.at + 1 - 1)
  lives_on = let k : q.at ≡ q.at + 1 - 1 = omega arith in subst (Lives text) k (lives_here text rs ns ps q h going)

  rs' : List ℕ
  rs' = set rs q.count act

  ns' : List ℕ
  ns' = set ns q.count q.number

  ps' : List ℕ
  ps' = set ps q.count q.begin

  in_room : q.count < 32768
  in_room = let r = h.room in omega arith

  kept : tokens_from rs' ns' ps' 0 q.count ≡ tokens_from rs ns ps 0 q.count
  unfolding rs' ns' ps'
  kept = tokens_kept rs ns ps q.count act q.number q.begin 0 q.count (omega arith)

  more : tokens_from rs' ns' ps' 0 (q.count + 1) ≡ tokens_from rs ns ps 0 q.count ++ (token act (record { number = q.number; position = q.begin }) ∷ [])
  unfolding rs' ns' ps'
  more =
      let w = h.wide in
      let r = in_room in
      tokens_more rs ns ps q.count act q.number q.begin (omega (arith, w.roles_wide)) (omega (arith, w.numbers_wide)) (omega (arith, w.positions_wide))

  wide' : Wide rs' ns' ps'
  unfolding rs' ns' ps'
  wide' =
      let w = h.wide in
      record { roles_wide = length-set rs q.count act ∙ w.roles_wide; numbers_wide = length-set ns q.count q.number ∙ w.numbers_wide; positions_wide = length-set ps q.count q.begin ∙ w.positions_wide }

  -- an entry that does nothing, or ends a name
  module _ (a : act ≤ 24) where
    on : Progress
    on = record { at = q.at + 1; place = e % 256; number = q.number; begin = q.begin; count = count_after act q.count }

    tokens_after : Is (eqb act 0) → pick (eqb act 0) (tokens_from rs ns ps 0 q.count) (tokens_from rs ns ps 0 q.count ++ (token act (record { number = q.number; position = q.begin }) ∷ [])) ≡ tokens_from rs' ns' ps' 0 (count_after act q.count)
    unfolding count_after
    tokens_after (is_true t) =
        pick_yes _ _ _ t ∙ sym kept ∙ ap (tokens_from rs' ns' ps' 0) (sym (pick_yes (eqb act 0) q.count (q.count + 1) t))
    tokens_after (is_false t) =
        pick_no _ _ _ t ∙ sym more ∙ ap (tokens_from rs' ns' ps' 0) (sym (pick_no (eqb act 0) q.count (q.count + 1) t))

    emitting : apply highest s b (effect_of e) ≡ emit s (place_of (e % 256)) act
    unfolding apply effect_of act
    emitting =
        pick_yes _ _ _ (eq-eqb (e / 256 - 24) 0 (omega arith))
        ∙ ap (emit s (place_of (e % 256))) (pick_yes (leb (e / 256) 24) (e / 256) 0 (le-leb (e / 256) 24 a))

    on_state : apply highest s b (effect_of e) ≡ state_of on rs' ns' ps'
    unfolding emit s state_of on
    on_state =
        emitting
        ∙ state_is (emit s (place_of (e % 256)) act) on rs' ns' ps' refl (sym (add-one q.at)) refl refl (tokens_after (look (eqb act 0)))

    counted_bytes : Is (eqb act 0) → 2 * count_after act q.count ≡ 2 * q.count + token_bytes e
    unfolding count_after token_bytes act
    counted_bytes (is_true t) =
        let x : count_after act q.count ≡ q.count = pick_yes _ _ _ t in
        let y : token_bytes e ≡ 0 = pick_yes _ _ _ (or_left (eqb act 0) (leb 25 act) t) in omega arith
    counted_bytes (is_false t) =
        let x : count_after act q.count ≡ q.count + 1 = pick_no _ _ _ t in
        let y : token_bytes e ≡ 2 = pick_no _ _ _ (or_neither (eqb act 0) (leb 25 act) t (lt-leb 25 act (omega arith))) in omega arith

    went_on : Holds text rs' ns' ps' on
    unfolding on e
    went_on =
        let r = h.room in
        let c = counted_bytes (look (eqb act 0)) in
        let m = next_spare q.place h.place_low (get_or text q.at 0) byte in
        record { state = next_state ∙ on_state; lives = lives_on; within = omega arith; place_low = next_low q.place h.place_low (get_or text q.at 0) byte; number_low = h.number_low; begin_low = h.begin_low; room = omega arith; wide = wide' }

  -- an entry that does nothing leaves the arrays as they are
  module _ (z : act ≡ 0) where
    idle : Progress
    idle = record { at = q.at + 1; place = e % 256; number = q.number; begin = q.begin; count = q.count }

    idle_state : apply highest s b (effect_of e) ≡ state_of idle rs ns ps
    unfolding emit s state_of idle
    idle_state =
        emitting (omega arith)
        ∙ state_is (emit s (place_of (e % 256)) act) idle rs ns ps refl (sym (add-one q.at)) refl refl (pick_yes _ _ _ (eq-eqb act 0 z))

    went_idle : Holds text rs ns ps idle
    unfolding idle e
    went_idle =
        let r = h.room in
        let m = next_spare q.place h.place_low (get_or text q.at 0) byte in
        record { state = next_state ∙ idle_state; lives = lives_on; within = omega arith; place_low = next_low q.place h.place_low (get_or text q.at 0) byte; number_low = h.number_low; begin_low = h.begin_low; room = omega arith; wide = h.wide }

  -- an entry that begins a name, or goes on with it
  module _ (d : 24 < act) where
    n : ℕ
    n = number_after act q.number (b % 16)

    into : Progress
    into = record { at = q.at + 1; place = e % 256; number = n; begin = begin_after act q.begin q.at; count = q.count }

    over : Progress
    over = record { at = q.at + 1; place = 0; number = q.number; begin = q.begin; count = q.count }

    number_is : pick (eqb (act - 24) 1) (b - 48) (10 * q.number + (b - 48)) ≡ n
    unfolding n number_after b act e
    number_is =
        let v : get_or text q.at 0 % 16 ≡ get_or text q.at 0 - 48 = digit_value q.place h.place_low (get_or text q.at 0) byte d in
        ap (λ t. pick t (b - 48) (10 * q.number + (b - 48))) (first_digit act d)
        ∙ ap (λ x. pick (eqb act 25) x (10 * q.number + x)) (sym v)

    begin_is : pick (eqb (act - 24) 1) q.at q.begin ≡ begin_after act q.begin q.at
    unfolding begin_after
    begin_is = ap (λ t. pick t q.at q.begin) (first_digit act d)

    numbering : apply highest s b (effect_of e) ≡ with_number highest s (place_of (e % 256)) n (begin_after act q.begin q.at)
    unfolding apply effect_of act s state_of
    numbering =
        pick_no _ _ _ (ne_eqb (e / 256 - 24) 0 (λ z. omega arith))
        ∙ ap (λ x. with_number highest s (place_of (e % 256)) x (pick (eqb (e / 256 - 24) 1) q.at q.begin)) number_is
        ∙ ap (λ x. with_number highest s (place_of (e % 256)) n x) begin_is

    into_state : n ≤ highest → apply highest s b (effect_of e) ≡ state_of into rs ns ps
    unfolding with_number move_name s state_of into
    into_state a =
        numbering ∙ pick_yes _ _ _ (le-leb n highest a)
        ∙ state_is (move_name s (place_of (e % 256)) (record { number = n; position = begin_after act q.begin q.at })) into rs ns ps refl (sym (add-one q.at)) refl refl refl

    over_state : highest < n → apply highest s b (effect_of e) ≡ state_of over rs ns ps
    unfolding with_number move s state_of place_of places over
    over_state a =
        numbering ∙ pick_no _ _ _ (lt-leb n highest a)
        ∙ state_is (move s dead) over rs ns ps refl (sym (add-one q.at)) refl refl refl

    begin_below : Is (eqb act 25) → begin_after act q.begin q.at < 65536
    unfolding begin_after
    begin_below (is_true t) = let z : begin_after act q.begin q.at ≡ q.at = pick_yes _ _ _ t in omega arith
    begin_below (is_false t) =
        let z : begin_after act q.begin q.at ≡ q.begin = pick_no _ _ _ t in let y = h.begin_low in omega arith

    went_into : n ≤ highest → Holds text rs ns ps into
    unfolding into e token_bytes act
    went_into a =
        let r = h.room in
        let m = next_spare q.place h.place_low (get_or text q.at 0) byte in
        let z : token_bytes e ≡ 0 = pick_yes _ _ _ (or_right (eqb act 0) (leb 25 act) (le-leb 25 act d)) in
        record { state = next_state ∙ into_state a; lives = lives_on; within = omega arith; place_low = next_low q.place h.place_low (get_or text q.at 0) byte; number_low = a; begin_low = begin_below (look (eqb act 25)); room = omega arith; wide = h.wide }

    went_over : highest < n → Holds text rs ns ps over
    unfolding spare spare_of place_of places over
    went_over a =
        let r = h.room in
        record { state = next_state ∙ over_state a; lives = lives_on; within = omega arith; place_low = omega arith; number_low = h.number_low; begin_low = h.begin_low; room = omega arith; wide = h.wide }

  module _ (entry : ℕ) (r : entry ≡ entry_at q.place (get_or text q.at 0)) where
    -- what the code holds after a byte that belongs to no name
    pub after_byte : {xs ys zs : List ℕ} {k : ℕ} → entry / 256 ≤ 24 → xs ≡ set rs q.count (entry / 256) → ys ≡ set ns q.count q.number → zs ≡ set ps q.count q.begin → k ≡ count_after (entry / 256) q.count → Holds text xs ys zs (record { at = q.at + 1; place = entry % 256; number = q.number; begin = q.begin; count = k })
    unfolding rs' ns' ps' act e on
    after_byte a xs_are ys_are zs_are k_is = rw (xs_are, ys_are, zs_are, k_is, r) (went_on (rw r at a))

    module _ {m : ℕ} (d : 24 < entry / 256) (m_is : m ≡ number_after (entry / 256) q.number (get_or text q.at 0 % 16)) where
      -- after a digit of a name
      pub after_digit : {g : ℕ} → g ≡ begin_after (entry / 256) q.begin q.at → m ≤ highest → Holds text rs ns ps (record { at = q.at + 1; place = entry % 256; number = m; begin = g; count = q.count })
      unfolding n act e b into
      after_digit g_is a = rw (g_is, m_is, r) (went_into (rw r at d) (rw (m_is, r) at a))

      -- after one that makes it too high
      pub after_too_high : highest < m → Holds text rs ns ps (record { at = q.at + 1; place = 0; number = q.number; begin = q.begin; count = q.count })
      unfolding n act e b over
      after_too_high a = went_over (rw r at d) (rw (m_is, r) at a)

  -- a further digit
  module _ (inside : InName q.place) (t : is_digit (get_or text q.at 0) ≡ true) where
    same_name : 6656 + q.place ≡ entry_at q.place (get_or text q.at 0)
    same_name = sym (further_digit q.place h.place_low (get_or text q.at 0) byte inside t)

    goes_on : (6656 + q.place) / 256 ≡ 26
    goes_on =
        let i = inside.last in
        let z : q.place / 256 ≡ 0 = div-eq_of_lt (omega arith) in
        let y : (256 * 26 + q.place) / 256 ≡ 26 + q.place / 256 = mul-add-div (omega arith) 26 q.place in omega arith

    same_place : (6656 + q.place) % 256 ≡ q.place
    same_place = let i = inside.last in mul-add-mod_self_left 256 26 q.place ∙ mod-eq_of_lt (omega arith)

    module _ {m : ℕ} (m_is : m ≡ 10 * q.number + get_or text q.at 0 % 16) where
      number_on : m ≡ number_after ((6656 + q.place) / 256) q.number (get_or text q.at 0 % 16)
      unfolding number_after
      number_on = m_is ∙ sym (pick_no _ _ _ (ap (λ x. eqb x 25) goes_on))

      begin_on : q.begin ≡ begin_after ((6656 + q.place) / 256) q.begin q.at
      unfolding begin_after
      begin_on = sym (pick_no _ _ _ (ap (λ x. eqb x 25) goes_on))

      above : 24 < (6656 + q.place) / 256
      above = let z = goes_on in omega arith

      pub further_on : m ≤ highest → Holds text rs ns ps (record { at = q.at + 1; place = q.place; number = m; begin = q.begin; count = q.count })
      further_on a =
          subst (λ x. Holds text rs ns ps (record { at = q.at + 1; place = x; number = m; begin = q.begin; count = q.count })) same_place
          (after_digit (6656 + q.place) same_name above number_on begin_on a)

      pub further_too_high : highest < m → Holds text rs ns ps (record { at = q.at + 1; place = 0; number = q.number; begin = q.begin; count = q.count })
      further_too_high a = after_too_high (6656 + q.place) same_name above number_on a

  -- a byte that leads to place p, and does nothing
  pub idles : {p : ℕ} → entry_at q.place (get_or text q.at 0) ≡ p → p < 115 → Holds text rs ns ps (record { at = q.at + 1; place = p; number = q.number; begin = q.begin; count = q.count })
  unfolding act e idle
  idles {p} r low =
      let z : entry_at q.place (get_or text q.at 0) / 256 ≡ 0 = ap (λ x. x / 256) r ∙ div-eq_of_lt (omega arith) in
      let y : entry_at q.place (get_or text q.at 0) % 256 ≡ p = ap (λ x. x % 256) r ∙ mod-eq_of_lt (omega arith) in
      subst (λ x. Holds text rs ns ps (record { at = q.at + 1; place = x; number = q.number; begin = q.begin; count = q.count })) y (went_idle z)

  -- a space between two signs, or a byte of a comment line
  pub passes : passed q.place (get_or text q.at 0) ≡ true → Holds text rs ns ps (record { at = q.at + 1; place = q.place; number = q.number; begin = q.begin; count = q.count })
  passes t = idles (stays q.place h.place_low (get_or text q.at 0) byte t) h.place_low

-- what is behind a position of a text
pub behind_length : (text : List ℕ) (at : ℕ) → length (take (length text - at) (drop at text)) ≡ length text - at
behind_length text at = grind (arith, common_steps)

pub behind_at : (text : List ℕ) (at k : ℕ) → at ≤ length text → get_or (take (length text - at) (drop at text)) k 0 ≡ get_or text (at + k) 0
behind_at text at k l = grind (arith, common_steps)

-- a run of such bytes
module _ (text rs ns ps : List ℕ) (q : Progress) (long : length text ≤ 65536) (bytes : (k : ℕ) → get_or text k 0 < 256) (going : 0 < q.place) where
  pub passes_run : (n : ℕ) → q.at + n ≤ length text → ((k : ℕ) → k < n → passed q.place (get_or text (q.at + k) 0) ≡ true) → Holds text rs ns ps q → Holds text rs ns ps (record { at = q.at + n; place = q.place; number = q.number; begin = q.begin; count = q.count })
  passes_run zero l f h =
      let e : q.at ≡ q.at + 0 = omega arith in
      subst (λ x. Holds text rs ns ps (record { at = x; place = q.place; number = q.number; begin = q.begin; count = q.count })) e h
  passes_run (suc n) l f h =
      let m : Progress = record { at = q.at + n; place = q.place; number = q.number; begin = q.begin; count = q.count } in
      let e : q.at + n + 1 ≡ q.at + suc n = omega arith in
      subst (λ x. Holds text rs ns ps (record { at = x; place = q.place; number = q.number; begin = q.begin; count = q.count })) e
      (passes text rs ns ps m (passes_run n (omega arith) (λ k a. f k (omega arith)) h) (omega arith) going long (bytes (q.at + n)) (f n (omega arith)))

-- two bytes
pub two_idle : (text rs ns ps : List ℕ) (q : Progress) → Holds text rs ns ps q → length text ≤ 65536 → (first second next : ℕ) → Leads q.place first second next → q.at + 2 ≤ length text → get_or text q.at 0 ≡ first → get_or text (q.at + 1) 0 ≡ second → Holds text rs ns ps (record { at = q.at + 2; place = next; number = q.number; begin = q.begin; count = q.count })
two_idle text rs ns ps q h long first second next leads l f g =
    let a = leads.first_low in
    let b = leads.second_low in
    let m : Progress = record { at = q.at + 1; place = entry_at q.place first; number = q.number; begin = q.begin; count = q.count } in
    let one : Holds text rs ns ps m = idles text rs ns ps q h (omega arith) leads.going long (omega arith) (ap (entry_at q.place) f) leads.middle_low in
    let two = idles text rs ns ps m one (omega arith) leads.middle long (omega arith) (ap (entry_at m.place) g ∙ leads.arrives) leads.next_low in
    let k : q.at + 1 + 1 ≡ q.at + 2 = omega arith in
    subst (λ x. Holds text rs ns ps (record { at = x; place = next; number = q.number; begin = q.begin; count = q.count })) k two
