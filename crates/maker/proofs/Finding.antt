-- What is found of a table and a plan: 29, 19, and 17 for a short plan, or what the list is written from.
use mathlib.Core.Path.{◌≡◌, refl, ap, subst, ◌∙◌}
use mathlib.Core.Logic.{⊎_elim}
use Rattle.std.specs.Prelude.{Result, Ok, Err}
use Rattle.std.specs.Result.{IsOk}
use mathlib.Core.List.{List, [], ◌∷◌, ◌++◌, append_assoc}
use Prim.Native.Nat.{ℕ, ◌*◌, ◌≤◌, ◌<◌}
use native.Mathlib.Omega.{arith}
use lib.ListN.{length}
use Rattle.numbers.specs.Lists.{at, each}
use Rattle.numbers.proofs.Truth.{limits, le_or_lt}
use Rattle.rules.specs.Bounds.{max_slots}
use Rattle.rules.specs.Bus.{Table}
use Rattle.rules.specs.TableFile.{file_table}
use Rattle.rules.specs.Loads.{hyperperiod}
use Rattle.rules.specs.ElementList.{element_moves, BadWord}
use Rattle.rules.specs.Refusals.{Check, Answers, wrong_element, bad_word, short_output}
use Rattle.rules.specs.Refusals.{header_checks, file_checks, pasted_checks, given_checks, verdict_checks}
use Rattle.rules.specs.Calls.{one_ring_ask}
use Rattle.rules.proofs.Answers.{
  None,
  Numbered,
  applied,
  passed,
  done,
  stopped,
  joined,
  answered,
  none_of,
  none_left,
  none_right,
  none_join,
  numbered_join,
  single_none,
  none_single,
  single_numbered,
  single_stopped,
}
use Rattle.table.specs.Sound.{Sound}
use Rattle.table.specs.Columns.{ByRow, table_of}
use Rattle.table.specs.Refusal.{number_of, number, place}
use Rattle.table.specs.declared.columns.Columns.{Columns}
use Rattle.table.specs.declared.refusals.Reason.TheVariants.{WrongMark}
use Rattle.table.specs.declared.refusals.Refusal.{Refusal}
use Rattle.table.proofs.Reasons.{not_done, refused_not}
use Rattle.decoding.specs.Decoded.{DecodesInto}
use Rattle.decoding.proofs.OneRing.{OtherMark, other_mark, own_mark, one_numbered, one_rest, one_rings}
use Rattle.ring.specs.Route.{row_segments}
use Rattle.verdict.specs.Analysed.{table_checks}
use Rattle.verdict.proofs.Bound.{verdict_numbered, verdict_split, admissible_of}
use Rattle.maker.specs.Words.{Segmented, LowestBad, ending_at, plan_moves, Clear, moves_of}
use Rattle.maker.specs.declared.moves.Picks.{Picks}
use Rattle.maker.proofs.Made.{plan_moves_lem, clean_clear}
use Rattle.maker.specs.declared.Source.{Source}
use Rattle.maker.specs.Finding.{word_checks, early_checks, Finds}

-- ---- the checks

module _ (t : Table) (plan : List ℕ) (e : ℕ) where
  abbrev bad : List Check
  bad = each (hyperperiod t) (λ s. bad_word t plan s ∷ [])

  abbrev brief : Check
  brief = short_output (length plan < hyperperiod t)

  -- those of cs, and then these
  pub after : (cs : List Check) → early_checks cs t plan e ≡ cs ++ early_checks [] t plan e
  after cs =
      ap (λ (r : List Check). r ++ (brief ∷ [])) (append_assoc cs (wrong_element t e ∷ []) bad)
      ∙ append_assoc cs ((wrong_element t e ∷ []) ++ bad) (brief ∷ [])

  pub early_numbered : (cs : List Check) → Numbered cs → Numbered (early_checks cs t plan e)
  unfolding Numbered
  early_numbered cs N =
      numbered_join (word_checks cs t plan e) (brief ∷ [])
      (numbered_join (cs ++ (wrong_element t e ∷ [])) bad
      (numbered_join cs (wrong_element t e ∷ []) N (omega arith))
      (single_numbered (bad_word t plan) (hyperperiod t) (λ s z. let y : ⊥ = omega arith in y)))
      (omega arith)

  -- 29
  pub no_element : (((1 ≤ e) × (e ≤ t.elements)) → ⊥) → Answers (early_checks [] t plan e) 29 0
  no_element h = applied (wrong_element t e) (bad ++ (brief ∷ [])) 29 0 h refl refl

  module _ (low : 1 ≤ e) (high : e ≤ t.elements) (s : ℕ) (L : LowestBad t plan (hyperperiod t) s) where
    there : (wrong_element t e).applies → ⊥
    there h = h (low, high)

    -- 19
    pub a_bad_word : s < hyperperiod t → Answers (early_checks [] t plan e) 19 s
    a_bad_word l =
        passed (wrong_element t e) (bad ++ (brief ∷ [])) 19 s there
        (stopped bad (brief ∷ []) 19 s (omega arith)
        (single_stopped (bad_word t plan) (hyperperiod t) s l (omega arith) L.none (L.bad l)))

    module _ (h : hyperperiod t ≤ s) where
      pub clean : (k : ℕ) → k < hyperperiod t → BadWord t (at plan k) → ⊥
      clean k l = L.none k (omega arith)

      words_none : None ((wrong_element t e ∷ []) ++ bad)
      unfolding None
      words_none = none_join (wrong_element t e ∷ []) bad (there, tt) (single_none (bad_word t plan) (hyperperiod t) clean)

      -- 17
      pub a_short_plan : length plan < hyperperiod t → Answers (early_checks [] t plan e) 17 0
      a_short_plan l = joined ((wrong_element t e ∷ []) ++ bad) (brief ∷ []) 17 0 words_none (applied brief [] 17 0 l refl refl)

      -- none
      pub no_fault : hyperperiod t ≤ length plan → Answers (early_checks [] t plan e) 0 0
      no_fault l =
          joined ((wrong_element t e ∷ []) ++ bad) (brief ∷ []) 0 0 words_none
          (passed brief [] 0 0 (λ (k : length plan < hyperperiod t). let z : ⊥ = omega arith in z) done)

  -- what holds where none applies
  module _ (a : None (early_checks [] t plan e)) where
    pub element_there : (1 ≤ e) × (e ≤ t.elements)
    unfolding None
    element_there = limits e 1 t.elements a.0

    pub words_clean : (s : ℕ) → s < hyperperiod t → BadWord t (at plan s) → ⊥
    unfolding None
    words_clean = none_single (bad_word t plan) (hyperperiod t) (none_left bad (brief ∷ []) a.1)

    pub plan_long : length plan < hyperperiod t → ⊥
    unfolding None
    plan_long = (none_right bad (brief ∷ []) a.1).0

-- ---- what the list is written from

pub found_refused : {t : Table} {plan : List ℕ} {e : ℕ} {cs : List Check} (r : Refusal)
    → Answers (early_checks cs t plan e) (number_of r.reason) r.place → Finds cs t plan e (Err r)
found_refused r A = record { answers = A; ready = tt }

pub found_none : (t : Table) (plan : List ℕ) (e : ℕ) → Answers (early_checks [] t plan e) 0 0 → None (early_checks [] t plan e)
unfolding Numbered
found_none t plan e a = none_of (early_checks [] t plan e) 0 (early_numbered t plan e [] tt) a

pub laid_of : {t : Table} (xs : List ℕ) → Sound t → t.rings ≡ 1
    → ByRow t.rows (λ i. row_segments t.elements (t.way i) (t.first i) (t.second i)) xs → Segmented t xs
laid_of xs S one B = record { way = λ i l. omega (arith, one, (S.row i l).way_known); row = B.row }

module _ {t : Table} (S : Sound t) (plan : List ℕ) (e : ℕ) where
  abbrev into : ℕ
  into = ending_at t.rows t.second e

  abbrev from : ℕ
  from = ending_at t.rows t.first e

  moves_of_element : plan_moves into from (hyperperiod t) plan ≡ element_moves t e plan
  unfolding element_moves
  moves_of_element = plan_moves_lem S e (hyperperiod t) plan

  pub clear_of : t.rings ≡ 1 → None (early_checks [] t plan e) → {p : Picks} → p.hyper ≡ hyperperiod t → p.hyper ≤ max_slots
      → p.into ≡ into → p.from ≡ from → Clear p plan
  clear_of one a h l i f =
      let long : hyperperiod t ≤ length plan = ⊎_elim (λ l. l) (λ l. absurd (plan_long t plan e a l)) (le_or_lt (hyperperiod t) (length plan)) in
      record {
        long = omega (arith, h, long);
        short = l;
        each = rw (h, i, f) (clean_clear S e one (hyperperiod t) plan (words_clean t plan e a));
      }

  pub found_ready : (r : Source) → t.rings ≡ 1 → Answers (early_checks [] t plan e) 0 0 → r.picks.hyper ≡ hyperperiod t
      → Clear r.picks plan → r.picks.into ≡ into → r.picks.from ≡ from → r.entries ≡ length (moves_of r.picks plan)
      → r.entries ≤ 2 * r.picks.hyper → Finds [] t plan e (Ok r)
  found_ready r one q h c i f n m =
      let same : moves_of r.picks plan ≡ element_moves t e plan = rw (h, i, f) moves_of_element in
      record {
        answers = q;
        ready = record {
          hyper = h;
          element_small = omega (arith, (element_there t plan e (found_none t plan e q)).1, S.elements_high);
          clear = c;
          moves = same;
          entries = n ∙ ap length same;
          few = omega (arith, c.short);
        };
      }

-- ---- of a file, after the verdict's checks with 2 for a table of two rings

abbrev judging : List ℕ → List Check
judging f = (one_ring_ask f).checks

pub judged_numbered : (f : List ℕ) → Numbered (judging f)
judged_numbered f = one_numbered f (verdict_checks f) (verdict_numbered f)

pub own_verdict : (f : List ℕ) → (OtherMark f → ⊥) → (n p : ℕ) → Answers (verdict_checks f) n p → Answers (judging f) n p
unfolding verdict_checks given_checks file_checks header_checks
own_verdict f own n p a = own_mark f _ own n p a

module _ (f : List ℕ) (plan : List ℕ) (e : ℕ) where
  abbrev t : Table
  t = file_table f

  -- one of these refuses
  pub verdict_stops : (r : Refusal) → Answers (judging f) (number_of r.reason) r.place → Finds (judging f) t plan e (Err r)
  verdict_stops r A =
      found_refused r
      (rw (after t plan e (judging f)) (stopped (judging f) (early_checks [] t plan e) (number_of r.reason) r.place (not_done r.reason) A))

  pub mark_stops : OtherMark f → Finds (judging f) t plan e (Err (record { reason = WrongMark; place = 0 }))
  mark_stops w = verdict_stops (record { reason = WrongMark; place = 0 }) (other_mark f (verdict_checks f) w)

  module _ (none : None (judging f)) where
    pub admitted_table : Sound t × (hyperperiod t ≤ max_slots) × (t.rings ≡ 1)
    admitted_table =
        let A = admissible_of f (one_rest f (verdict_checks f) none) in (A.sound, A.short, one_rings f (verdict_checks f) none)

    -- so it is decoded,
    pub admitted_decodes : {a : Result Unit Refusal} {c : Columns} → DecodesInto (file_checks f) t a c → IsOk a
    unfolding verdict_checks given_checks
    admitted_decodes {a = Ok _} D = refl
    admitted_decodes {a = Err r} D =
        let files : None (file_checks f) =
        none_left (file_checks f) (pasted_checks t)
        (none_left (given_checks f) (table_checks t) (rw (verdict_split f) at (one_rest f (verdict_checks f) none))) in
        refused_not (file_checks f) r (answered (file_checks f) files) D.answers

    -- its columns hold the table,
    pub admitted_columns : {a : Result Unit Refusal} {c : Columns} → DecodesInto (file_checks f) t a c → table_of c ≡ t
    admitted_columns {a = Ok _} D = D.passed.table
    admitted_columns {a = Err r} D = let z = admitted_decodes D in cc

    -- and what is found of it is found of the file's
    pub admitted_finds : {u : Table} → u ≡ t → (r : Result Source Refusal) → Finds [] u plan e r → Finds (judging f) t plan e r
    admitted_finds q r F =
        let G : Finds [] t plan e r = subst (λ (u : Table). Finds [] u plan e r) q F in
        record {
          answers = rw (after t plan e (judging f)) (joined (judging f) (early_checks [] t plan e) (number r) (place r) none G.answers);
          ready = G.ready;
        }
