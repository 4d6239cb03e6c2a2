-- What a list that was made promises, proved of every answer that the contract allows.
use mathlib.Core.Path.{◌≡◌, refl, sym, ap, ap₂, ◌∙◌}
use mathlib.Core.Logic.{⊎_elim, inl, inr, ◌≢◌, ◌⊎◌}
use mathlib.Core.List.{List, [], ◌∷◌, ◌++◌}
use Prim.Native.Nat.{ℕ, ◌+◌, ◌-◌, ◌*◌, ◌≤◌, ◌<◌}
use native.Mathlib.Decide.{ℕ_discrete}
use native.Mathlib.Omega.{arith}
use lib.ListN.{length, get_or, take, length-take}
use lib.Seq.{get_or-take, take_all}
use Rattle.numbers.specs.Lists.{at, each}
use Rattle.numbers.proofs.Lists.{each_eq}
use Rattle.numbers.proofs.Truth.{limits, le_or_lt}
use Rattle.rules.specs.Bounds.{max_slots}
use Rattle.rules.specs.Bus.{Table}
use Rattle.rules.specs.TableFile.{file_table}
use Rattle.rules.specs.Loads.{hyperperiod}
use Rattle.rules.specs.ElementList.{
  Entry,
  ElementList,
  move,
  list_header,
  entry_size,
  entry_numbers,
  list_numbers,
  list_bytes,
  slot_moves,
  element_moves,
  moves_list,
  Before,
  Rises,
  IsMove,
  BadWord,
}
use Rattle.rules.specs.Refusals.{Check, Answers, wrong_element, wrong_entry, bad_word, short_output, maker_checks}
use Rattle.rules.specs.Refusals.{list_file_checks, list_memory_checks}
use Rattle.rules.specs.Calls.{lent, Ask, one_ring_ask, ListMade}
use Rattle.rules.proofs.Answers.{
  None,
  Numbered,
  answered,
  none_left,
  none_right,
  numbered_join,
  none_join,
  single_none,
  none_single,
  single_numbered,
}
use Rattle.rules.proofs.Calls.{lent_take, call_none}
use Rattle.table.specs.Sound.{Sound}
use Rattle.lags.proofs.Intervals.{hyperperiod_positive}
use Rattle.lists.proofs.Heads.{Right, right_memory}
use Rattle.lists.proofs.RoundTrip.{right_alike, numbers_length, bytes_length, memory_back, bytes_pass}
use Rattle.lists.specs.Entries.{rank}
use Rattle.maker.specs.Finding.{word_checks}
use Rattle.maker.specs.Promises.{Exactly, MadeExactly, AllTwice, MadeFew, MadePasses, FirstWords}
use Rattle.maker.proofs.Finding.{judged_numbered, admitted_table}
use Rattle.maker.proofs.Order.{has, ascends, bounded, all, only, ordered}

-- ---- of the moves in words that aren't bad

module _ (t : Table) (e : ℕ) (ws : List ℕ) (S : Sound t) (one : t.rings ≡ 1)
    (clean : (s : ℕ) → s < hyperperiod t → BadWord t (at ws s) → ⊥) where
  abbrev made : ElementList
  made = moves_list t e ws

  abbrev xs : List Entry
  xs = element_moves t e ws

  is_move : (k : ℕ) → k < length xs → IsMove t e ws (made.entry k)
  is_move k l = has (IsMove t e ws) 0 (2 * hyperperiod t) xs (ordered t e ws S one clean) k l

  rises : (j k : ℕ) → j < k → k < length xs → rank (made.entry j) < rank (made.entry k)
  rises j k m l = ascends (IsMove t e ws) 0 (2 * hyperperiod t) xs (ordered t e ws S one clean) j k m l

  pub exactly : Exactly t e ws
  exactly = record { moves = is_move; all = all t e ws; once = once }
    where
      apart : (j k : ℕ) → j < k → k < length xs → made.entry j ≡ made.entry k → ⊥
      apart j k m l q = let z : ⊥ = omega (arith, rises j k m l, ap rank q) in z

      once : (j k : ℕ) → j < length xs → k < length xs → made.entry j ≡ made.entry k → j ≡ k
      once j k l m q =
          ⊎_elim (λ (h : j ≤ k). ⊎_elim (λ (g : k ≤ j). omega arith) (λ g. absurd (apart j k g m q)) (le_or_lt k j))
          (λ h. absurd (apart k j h l (sym q))) (le_or_lt j k)

  pub few : length xs ≤ 2 * hyperperiod t
  few = let z = bounded (IsMove t e ws) 0 (2 * hyperperiod t) xs (ordered t e ws S one clean) in omega (arith, z)

  way_small : (k : ℕ) → k < length xs → (made.entry k).way ≤ 1
  way_small k l = ⊎_elim (λ q. omega (arith, q.0)) (λ q. omega (arith, q.0)) (is_move k l).end

  in_order : (k : ℕ) → k < length xs → Rises made k
  in_order k l = go (ℕ_discrete k 0)
    where
      after : k ≢ 0 → Before (made.entry (k - 1)) (made.entry k)
      after z =
          let r : rank (made.entry (k - 1)) < rank (made.entry k) = rises (k - 1) k (omega arith) l in
          let w = way_small k l in
          ⊎_elim
          (λ (h : (made.entry k).slot ≤ (made.entry (k - 1)).slot).
          inr (omega (arith, r, w), omega (arith, r, w)))
          inl
          (le_or_lt (made.entry k).slot (made.entry (k - 1)).slot)

      go : Dec (k ≡ 0) → Rises made k
      go (yes z) = inl z
      go (no z) = inr (after z)

  pub right : (1 ≤ e) × (e ≤ t.elements) → hyperperiod t ≤ max_slots → Right made
  right (low, high) few = record {
    element_low = low;
    element_high = omega (arith, S.elements_high);
    hyper_low = hyperperiod_positive S;
    hyper_high = few;
    entry = wrong;
  }
    where
      wrong : (k : ℕ) → k < length xs → (wrong_entry made k).applies → ⊥
      wrong k l w =
          let m = is_move k l in
          ⊎_elim (λ h. let z : ⊥ = omega (arith, m.slot, h) in z)
          (λ v. ⊎_elim (λ h. let z : ⊥ = omega (arith, m.row, S.rows_high, h) in z)
          (λ u. ⊎_elim (λ h. let z : ⊥ = omega (arith, way_small k l, h) in z) (λ n. n (in_order k l)) u) v) w

-- ---- of a list that was made

module _ (a : Ask) (plan : List ℕ) (e room wants : ℕ) where
  abbrev checks : List Check
  checks = maker_checks a.checks a.table plan e room wants

  abbrev bad : List Check
  bad = each (hyperperiod a.table) (λ s. bad_word a.table plan s ∷ [])

  abbrev short : Check
  short = short_output ((length plan < hyperperiod a.table) ⊎ (room < wants))

  pub maker_numbered : Numbered a.checks → Numbered checks
  unfolding maker_checks Numbered
  maker_numbered N =
      numbered_join (word_checks a.checks a.table plan e) (short ∷ [])
      (numbered_join (a.checks ++ (wrong_element a.table e ∷ [])) bad
      (numbered_join a.checks (wrong_element a.table e ∷ []) N (omega arith))
      (single_numbered (bad_word a.table plan) (hyperperiod a.table) (λ s z. let y : ⊥ = omega arith in y)))
      (omega arith)

  pub maker_none : None a.checks → (1 ≤ e) × (e ≤ a.table.elements)
      → ((s : ℕ) → s < hyperperiod a.table → BadWord a.table (at plan s) → ⊥) → hyperperiod a.table ≤ length plan → wants ≤ room
      → None checks
  unfolding maker_checks None
  maker_none n there clean long enough =
      none_join (word_checks a.checks a.table plan e) (short ∷ [])
      (none_join (a.checks ++ (wrong_element a.table e ∷ [])) bad
      (none_join a.checks (wrong_element a.table e ∷ []) n (λ h. h there, tt))
      (single_none (bad_word a.table plan) (hyperperiod a.table) clean)) (
        ⊎_elim (λ (h : length plan < hyperperiod a.table). let z : ⊥ = omega arith in z)
            (λ (h : room < wants). let z : ⊥ = omega arith in z),
        tt,
      )

  module _ (n : None checks) where
    words_none : None (word_checks a.checks a.table plan e)
    unfolding maker_checks
    words_none = none_left (word_checks a.checks a.table plan e) (short ∷ []) n

    pub before_none : None a.checks
    before_none = none_left a.checks (wrong_element a.table e ∷ [])
        (none_left (a.checks ++ (wrong_element a.table e ∷ [])) bad words_none)

    pub element_there : (1 ≤ e) × (e ≤ a.table.elements)
    unfolding None
    element_there =
        limits e 1 a.table.elements
        (none_right a.checks (wrong_element a.table e ∷ [])
        (none_left (a.checks ++ (wrong_element a.table e ∷ [])) bad words_none)).0

    pub words_clean : (s : ℕ) → s < hyperperiod a.table → BadWord a.table (at plan s) → ⊥
    words_clean =
        none_single (bad_word a.table plan) (hyperperiod a.table)
        (none_right (a.checks ++ (wrong_element a.table e ∷ [])) bad words_none)

module _ (f plan : List ℕ) (e : ℕ) (form : ElementList → List ℕ) (was now : List ℕ) (p h k : ℕ)
    (M : ListMade (one_ring_ask f) plan e form was now 0 p h k) where
  abbrev t : Table
  t = file_table f

  abbrev wants : ℕ
  wants = length (form (moves_list t e plan))

  none : None (maker_checks (one_ring_ask f).checks t plan e (length was) wants)
  none = call_none (maker_numbered (one_ring_ask f) plan e (length was) wants (judged_numbered f)) M

  admitted : Sound t × (hyperperiod t ≤ max_slots) × (t.rings ≡ 1)
  admitted = admitted_table f plan e (before_none (one_ring_ask f) plan e (length was) wants none)

  clean_words : (s : ℕ) → s < hyperperiod t → BadWord t (at plan s) → ⊥
  clean_words = words_clean (one_ring_ask f) plan e (length was) wants none

  pub made_right : Right (moves_list t e plan)
  made_right =
      right t e plan admitted.0 admitted.2 clean_words (element_there (one_ring_ask f) plan e (length was) wants none) admitted.1

  pub made_moves : Exactly t e plan
  made_moves = exactly t e plan admitted.0 admitted.2 clean_words

pub made_exactly : MadeExactly
made_exactly f plan e form was now p h k M = made_moves f plan e form was now p h k M

pub made_few : MadeFew
made_few f plan e form was now p h k M =
    let d = M.done refl in
    let A = admitted f plan e form was now p h k M in
    let l = few (file_table f) e plan A.0 A.2 (clean_words f plan e form was now p h k M) in
    (omega (arith, d.0, d.1, l), omega (arith, d.0, A.1))

pub made_entries : (f plan : List ℕ) (e : ℕ) (form : ElementList → List ℕ) (was now : List ℕ) (n p h k : ℕ) → n ≡ 0
    → ListMade (one_ring_ask f) plan e form was now n p h k → k ≤ 2 * max_slots
made_entries f plan e form was now n p h k z M =
    let N : ListMade (one_ring_ask f) plan e form was now 0 p h k = rw z at M in
    let l = made_few f plan e form was now p h k N in
    omega (arith, l.0, l.1)

pub made_passes : MadePasses
made_passes = record { numbers = numbers; bytes = bytes }
  where
    numbers : (f plan : List ℕ) (e : ℕ) (was now : List ℕ) (p h k : ℕ) → ListMade (one_ring_ask f) plan e list_numbers was now 0 p h k
        → Answers (list_memory_checks e h (take (entry_numbers * k) now)) 0 0
    numbers f plan e was now p h k M =
        let l : ElementList = moves_list (file_table f) e plan in
        let d = M.done refl in
        let same : take (entry_numbers * k) now ≡ list_numbers l =
        ap₂ (λ (n : ℕ) (o : List ℕ). take (entry_numbers * n) o) d.1 d.2
        ∙ lent_take (list_numbers l) was (entry_numbers * l.entries) (numbers_length l) in
        let q = memory_back l in
        rw (same, d.0) (answered (list_memory_checks e l.hyper (list_numbers l))
        (right_memory e l.hyper (list_numbers l) (numbers_length l ∙ ap (λ (n : ℕ). entry_numbers * n) (sym q.entries))
        (right_alike q (made_right f plan e list_numbers was now p h k M))))

    bytes : (f plan : List ℕ) (e : ℕ) (was now : List ℕ) (p h k : ℕ) → ListMade (one_ring_ask f) plan e list_bytes was now 0 p h k
        → Answers (list_file_checks (take (list_header + entry_size * k) now)) 0 0
    bytes f plan e was now p h k M =
        let l : ElementList = moves_list (file_table f) e plan in
        let d = M.done refl in
        let same : take (list_header + entry_size * k) now ≡ list_bytes l =
        ap₂ (λ (n : ℕ) (o : List ℕ). take (list_header + entry_size * n) o) d.1 d.2
        ∙ lent_take (list_bytes l) was (list_header + entry_size * l.entries) (bytes_length l) in
        rw same (answered (list_file_checks (list_bytes l)) (bytes_pass l (made_right f plan e list_bytes was now p h k M)))

-- ---- all elements' lists

pub all_twice : AllTwice
all_twice t ws s i l m b = record {
  received = all t (t.second i) ws (move s i 0) (record { slot = l; row = m; moves = b; end = inl (refl, refl) });
  sent = all t (t.first i) ws (move s i 1) (record { slot = l; row = m; moves = b; end = inr (refl, refl) });
  only = λ e d h.
      ⊎_elim (λ q. inl (q.0, sym q.1)) (λ q. inr (q.0, sym q.1)) (only t e ws (move s i d) h).end;
}

-- ---- words past the first h

-- the last checks exchanged for others that are answered alike
exchanged : (cs ds es : List Check) (n p : ℕ) → (Answers ds n p → Answers es n p) → Answers (cs ++ ds) n p → Answers (cs ++ es) n p
unfolding Answers
exchanged [] ds es n p h q = h q
exchanged (c ∷ cs) ds es n p h q = ⊎_elim inl (λ w. inr (w.0, exchanged cs ds es n p h w.1)) q

module _ (a : Ask) (plan : List ℕ) (e : ℕ) where
  abbrev h : ℕ
  h = hyperperiod a.table

  abbrev front : List ℕ
  front = take h plan

  -- a plan of at most h words has no others
  whole : length plan ≤ h → front ≡ plan
  whole l = take_all h plan l

  module _ (l : h < length plan) where
    size : length front ≡ h
    size = let z = length-take h plan in omega (arith, z)

    word : (s : ℕ) → s < h → at front s ≡ at plan s
    word s m = get_or-take h plan s 0 m

    same_moves : element_moves a.table e front ≡ element_moves a.table e plan
    unfolding element_moves
    same_moves =
        each_eq h (λ s. slot_moves a.table e s (at front s)) (λ s. slot_moves a.table e s (at plan s))
        (λ s m. ap (slot_moves a.table e s) (word s m))

    same_list : moves_list a.table e front ≡ moves_list a.table e plan
    same_list = λ k. record {
      element = e;
      hyper = hyperperiod a.table;
      entries = length (same_moves k);
      entry = λ i. get_or (same_moves k) i (move 0 0 0);
    }

    same_words : word_checks a.checks a.table front e ≡ word_checks a.checks a.table plan e
    same_words =
        ap (λ (cs : List Check). a.checks ++ (wrong_element a.table e ∷ []) ++ cs)
        (each_eq h (λ s. bad_word a.table front s ∷ []) (λ s. bad_word a.table plan s ∷ [])
        (λ s m. ap (λ (w : ℕ). bad s w ∷ []) (word s m)))
      where
        bad : ℕ → ℕ → Check
        bad s w = record { number = 19; place = s; applies = BadWord a.table w }

    module _ (form : ElementList → List ℕ) (was now : List ℕ) (n p hyper k : ℕ) where
      abbrev cramped : List ℕ → Type 0
      cramped ws = length was < length (form (moves_list a.table e ws))

      abbrev last : List ℕ → List Check
      last ws = short_output ((length ws < h) ⊎ cramped ws) ∷ []

      fits : cramped front ≡ cramped plan
      fits = ap (λ (m : ElementList). length was < length (form m)) same_list

      answer : Answers (last plan) n p → Answers (last front) n p
      unfolding Answers
      answer q =
          ⊎_elim (λ w. inl (
            ⊎_elim (λ (b : length plan < h). absurd (let z : ⊥ = omega arith in z)) (λ c. inr (rw fits c)) w.0,
            w.1,
            w.2,
          ))
          (λ w. inr (
            (λ v. w.0 (⊎_elim (λ (b : length front < h). absurd (let z : ⊥ = omega (arith, size) in z)) (λ c. inr (rw fits at c))
                v)),
            w.1,
          )) q

      moved : ListMade a plan e form was now n p hyper k → ListMade a front e form was now n p hyper k
      unfolding maker_checks
      moved M = record {
        answers = rw same_words (exchanged (word_checks a.checks a.table plan e) (last plan) (last front) n p answer M.answers);
        done = λ z.
            let d = M.done z in
            (d.0, d.1 ∙ sym (ap length same_moves), d.2 ∙ ap (λ (l : ElementList). lent (form l) was) (sym same_list));
        refused = M.refused;
      }

pub first_words : FirstWords
first_words a plan e form was now n p hyper k M =
    ⊎_elim (λ l. rw (whole a plan e l) M) (λ l. moved a plan e l form was now n p hyper k M)
    (le_or_lt (length plan) (hyperperiod a.table))
