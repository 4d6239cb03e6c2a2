-- A table as it is given: 1 to 9, then 18.
use mathlib.Core.Path.{◌≡◌, refl, sym, ap, ◌∙◌, subst}
use mathlib.Core.Logic.{◌≢◌, ⊎_elim}
use mathlib.Core.Bool.{Bool, false, ◌&&◌, and-false}
use mathlib.Core.List.{List}
use Prim.Native.Nat.{ℕ, ◌≤◌, ◌<◌}
use native.Mathlib.Omega.{arith}
use lib.Dec.{T, eqb, ltb, eqb→eq, ltb→lt, lt→ltb}
use Rattle.numbers.specs.Finite.{any, lowest}
use Rattle.numbers.specs.Word.{bit, word}
use Rattle.numbers.specs.Lists.{at}
use Rattle.numbers.proofs.Truth.{both, fst, snd, decide, along, same, eqb_of}
use Rattle.numbers.proofs.Finite.{any_of, any_eq, least, lowest_has, lowest_below}
use Rattle.numbers.proofs.Word.{bit_word}
use Rattle.rules.specs.Bounds.{max_elements, max_rows}
use Rattle.rules.specs.Bus.{Table, Labelled, pasted}
use Rattle.rules.specs.TableFile.{file_table}
use Rattle.rules.specs.Refusals.{Check, Answers, pasted_row, file_checks, pasted_checks, given_checks}
use Rattle.rules.proofs.Answers.{None, Numbered, stopped, joined, answered, none_of, none_left, none_join, numbered_join, answers_only}
use Rattle.rules.proofs.Answers.{single_none, single_numbered, single_stopped}
use Rattle.table.specs.Sound.{Sound, Passed}
use Rattle.table.specs.Columns.{table_of, Holds}
use Rattle.table.specs.Refusal.{number_of}
use Rattle.table.proofs.Reasons.{not_done}
use Rattle.table.specs.declared.refusals.Refusal.{Refusal}
use Rattle.table.specs.declared.columns.Columns.{Columns}
use Rattle.table.proofs.Faults.{file_numbered, passed_none}
use Rattle.sets.proofs.Sums.{without, other}
use Rattle.pasted.specs.Alike.{alike, Rowed}

-- ---- pasted rows

-- a row of the word that does not have p can be left out
pub left_out : (w j : ℕ) (p : ℕ → Bool) → j < 64 → p j ≡ false
    → any max_rows (λ k. bit (without w j) k && p k) ≡ any max_rows (λ k. bit w k && p k)
left_out w j p l e =
    any_eq max_rows (λ k. bit (without w j) k && p k) (λ k. bit w k && p k)
    (λ k m.
    ⊎_elim
    (λ (t : T (eqb k j)).
    let q : p k ≡ false = ap p (eqb→eq k j t) ∙ e in
    ap (◌&&◌ (bit (without w j) k)) q ∙ and-false (bit (without w j) k) ∙ sym (ap (◌&&◌ (bit w k)) q ∙ and-false (bit w k)))
    (λ f. ap (λ (b : Bool). b && p k) (other w j l k (λ z. f (eqb_of k j z))))
    (decide (eqb k j)))

-- of the earlier rows with row i's first end one has its second end, its period and its direction, or none
pub earlier_pasted : (t : Table) (w i : ℕ) → i ≤ max_rows → w ≡ word i (λ j. eqb (t.first j) (t.first i))
    → any max_rows (λ j. bit w j && alike t.period t.second t.way i j) ≡ pasted t i
unfolding pasted
earlier_pasted t w i few e =
    same _ _
    (λ h.
    let r = least max_rows (λ j. bit w j && alike t.period t.second t.way i j) h in
    let j = r.0 in
    let c = along (bits j) (fst (bit w j) (alike t.period t.second t.way i j) r.2) in
    let a = snd (bit w j) (alike t.period t.second t.way i j) r.2 in
    let sp = fst (S j && P j) (W j) a in
    any_of i _ j (ltb→lt j i (fst (ltb j i) (F j) c))
    (both (F j && S j && P j) (W j)
    (both (F j && S j) (P j) (both (F j) (S j) (snd (ltb j i) (F j) c) (fst (S j) (P j) sp)) (snd (S j) (P j) sp))
    (snd (S j && P j) (W j) a)))
    (λ h.
    let r = least i (λ j. F j && S j && P j && W j) h in
    let j = r.0 in
    let l : j < i = r.1 in
    let fsp = fst (F j && S j && P j) (W j) r.2 in
    let f = fst (F j && S j) (P j) fsp in
    any_of max_rows _ j (omega arith)
    (both (bit w j) (alike t.period t.second t.way i j)
    (along (sym (bits j)) (both (ltb j i) (F j) (lt→ltb j i l) (fst (F j) (S j) f)))
    (both (S j && P j) (W j) (both (S j) (P j) (snd (F j) (S j) f) (snd (F j && S j) (P j) fsp)) (snd (F j && S j && P j) (W j) r.2))))
  where
    F : ℕ → Bool
    F j = eqb (t.first j) (t.first i)

    S : ℕ → Bool
    S j = eqb (t.second j) (t.second i)

    P : ℕ → Bool
    P j = eqb (t.period j) (t.period i)

    W : ℕ → Bool
    W j = eqb (t.way j) (t.way i)

    bits : (j : ℕ) → bit w j ≡ (ltb j i && F j)
    bits j = ap (λ (v : ℕ). bit v j) e ∙ bit_word i (λ j. eqb (t.first j) (t.first i)) j

-- ---- 18

module _ (f : List ℕ) where
  abbrev t : Table
  t = file_table f

  pub given_numbered : Numbered (given_checks f)
  unfolding given_checks pasted_checks
  given_numbered =
      numbered_join (file_checks f) (pasted_checks t) (file_numbered f) (single_numbered (pasted_row t) t.rows (λ i. omega arith))

  pub given_passed : None (given_checks f) → Passed f
  unfolding given_checks
  given_passed a = passed_none f (none_left (file_checks f) (pasted_checks t) a)

  pub given_of : (p : ℕ) → Answers (given_checks f) 0 p → Passed f
  given_of p a = given_passed (none_of (given_checks f) p given_numbered a)

  -- 1 to 9 and 26 refuse
  pub given_stopped : (r : Refusal) → Answers (file_checks f) (number_of r.reason) r.place
      → Answers (given_checks f) (number_of r.reason) r.place
  unfolding given_checks
  given_stopped r A = stopped (file_checks f) (pasted_checks t) (number_of r.reason) r.place (not_done r.reason) A

  -- they do not, and the columns hold the table
  module _ (c : Columns) (A : Answers (file_checks f) 0 0) (H : Holds t c) where
    none : None (file_checks f)
    none = none_of (file_checks f) 0 (file_numbered f) A

    -- the ends are on the ring
    pub given_rowed : Rowed c
    given_rowed =
        let s : Sound (table_of c) = rw H.table (passed_none f none).sound in
        record { few = s.rows_high; start = λ i l. let row = s.row i l in omega arith }

    -- 18 decides
    pub given_rest : (n p : ℕ) → Answers (pasted_checks (table_of c)) n p → Answers (given_checks f) n p
    unfolding given_checks
    given_rest n p a = joined (file_checks f) (pasted_checks t) n p none (subst (λ (u : Table). Answers (pasted_checks u) n p) H.table a)

-- ---- 18 by the lowest pasted row

module _ (t : Table) (few : t.rows ≤ max_rows) (i : ℕ) (e : i ≡ lowest t.rows (pasted t)) where
  pub pasted_found : i < t.rows → Answers (pasted_checks t) 18 i
  unfolding pasted_checks
  pasted_found l =
      let m : lowest t.rows (pasted t) < t.rows = omega (arith, e) in
      single_stopped (pasted_row t) t.rows i l (omega arith) (λ j h. lowest_below t.rows (pasted t) j (omega (arith, e)))
      (rw e (lowest_has t.rows (pasted t) m))

  pub pasted_none : t.rows ≤ i → Answers (pasted_checks t) 0 0
  unfolding pasted_checks
  pasted_none l =
      answered (pasted_checks t) (single_none (pasted_row t) t.rows (λ j h. lowest_below t.rows (pasted t) j (omega (arith, e))))
