-- Refusals 13 and 14 of a table whose overlap sets are listed, and what holds of a table that gets no refusal.
--
--   NoneLight t        no row of the table is light
use mathlib.Core.Path.{◌≡◌, refl, sym, subst}
use mathlib.Core.Logic.{◌≢◌}
use mathlib.Core.Bool.{Bool}
use mathlib.Core.List.{List, [], ◌∷◌, ◌++◌, append_assoc}
use Prim.Native.Nat.{ℕ, ◌+◌, ◌≤◌, ◌<◌}
use native.Mathlib.Omega.{arith}
use lib.Dec.{T}
use lib.ListN.{length}
use Rattle.numbers.specs.Finite.{sum}
use Rattle.numbers.specs.Word.{bit}
use Rattle.numbers.specs.Lists.{at, each}
use Rattle.numbers.proofs.Finite.{sum_term}
use Rattle.rules.specs.Bus.{Table, overlap}
use Rattle.rules.specs.TableFile.{file_table}
use Rattle.rules.specs.Line.{HasCuts, OverlapSet, Sets, line_first, line_second}
use Rattle.rules.specs.Loads.{light, over}
use Rattle.rules.specs.Refusals.{Check, Answers, light_row, over_bound}
use Rattle.rules.specs.Refusals.{given_checks, line_checks, bound_checks, verdict_checks}
use Rattle.rules.proofs.Answers.{None, Numbered, stopped, joined, none_of, none_join, none_left, none_right, numbered_join}
use Rattle.rules.proofs.Sets.{sets_only, set_in}
use Rattle.table.specs.Sound.{Sound}
use Rattle.table.specs.Refusal.{number_of}
use Rattle.table.specs.declared.refusals.Refusal.{Refusal}
use Rattle.table.proofs.Reasons.{not_done}
use Rattle.pasted.proofs.AsGiven.{given_numbered, given_passed}
use Rattle.ring.proofs.OnLine.{line_ordered}
use Rattle.sets.proofs.List.{sets_to, sets_to_few, sets_are}
use Rattle.outline.proofs.Sets.{ring_list}
use Rattle.outline.specs.Outlined.{outline_checks}
use Rattle.outline.proofs.Outlined.{outline_numbered, none_line}
use Rattle.verdict.specs.Analysed.{table_checks}
use Rattle.lags.specs.Lags.{Admissible}
use Rattle.rules.proofs.Answers.{single_none, none_single, single_numbered, single_stopped}

-- the checks of 13, and those of 14
abbrev lights : Table → List Check
lights t = each t.rows (λ i. light_row t i ∷ [])

abbrev overs : Table → List Check
overs t = each t.rows (λ k. over_bound t k ∷ [])

abbrev pub NoneLight : Table → Type 0
NoneLight t = (i : ℕ) → i < t.rows → T (light t i) → ⊥

module _ (t : Table) where
  pub bound_numbered : Numbered (bound_checks t)
  unfolding bound_checks
  bound_numbered =
      numbered_join (lights t) (overs t) (single_numbered (light_row t) t.rows (λ i. omega arith))
      (single_numbered (over_bound t) t.rows (λ k. omega arith))

  pub light_refused : (i : ℕ) → i < t.rows → T (light t i) → ((j : ℕ) → j < i → T (light t j) → ⊥)
      → Answers (bound_checks t) (light_row t i).number i
  unfolding bound_checks
  light_refused i l h u =
      stopped (lights t) (overs t) _ i (omega arith) (single_stopped (light_row t) t.rows i l (omega arith) u h)

  module _ (some : 1 ≤ t.rows) (ws : List ℕ) (S : Sets t ws) where
    -- set k is within its bound: then 14 is not given for it, as no other list fits
    within : (k : ℕ) → (T (over t (bit (at ws k))) → ⊥) → (over_bound t k).applies → ⊥
    within k h w =
        let e : w.0 ≡ ws = sets_only some w.1 S in
        h (subst (λ (vs : List ℕ). T (over t (bit (at vs k)))) e w.3)

    pub over_refused : NoneLight t → (k : ℕ) → k < length ws → length ws ≤ t.rows → T (over t (bit (at ws k)))
        → ((j : ℕ) → j < k → T (over t (bit (at ws j))) → ⊥) → Answers (bound_checks t) (over_bound t k).number k
    unfolding bound_checks
    over_refused heavy k l few h u =
        joined (lights t) (overs t) _ k (single_none (light_row t) t.rows heavy)
        (single_stopped (over_bound t) t.rows k (omega arith) (omega arith) (λ j m. within j (u j m)) (ws, S, l, h))

    pub bound_none : NoneLight t → ((k : ℕ) → k < length ws → T (over t (bit (at ws k))) → ⊥) → None (bound_checks t)
    unfolding bound_checks
    bound_none heavy u =
        none_join (lights t) (overs t) (single_none (light_row t) t.rows heavy)
        (single_none (over_bound t) t.rows
        (λ k l w. let e : w.0 ≡ ws = sets_only some w.1 S in within k (u k (rw e at w.2)) w))

    -- where no listed set is over its bound, no overlap set is
    pub bounded : ((k : ℕ) → k < length ws → T (over t (bit (at ws k))) → ⊥)
        → (D : ℕ → Bool) → OverlapSet t.rows (overlap t) D → T (over t D) → ⊥
    bounded u D o h =
        let r = set_in S o in
        u r.0 r.1 (subst (λ (C : ℕ → Bool). T (over t C)) (sym r.2) h)

    pub none_heavy : None (bound_checks t) → NoneLight t
    unfolding bound_checks
    none_heavy a = none_single (light_row t) t.rows (none_left (lights t) (overs t) a)

    pub none_within : None (bound_checks t) → length ws ≤ t.rows → (k : ℕ) → k < length ws → T (over t (bit (at ws k))) → ⊥
    unfolding bound_checks
    none_within a few k l h =
        none_single (over_bound t) t.rows (none_right (lights t) (overs t) a) k (omega arith) (ws, S, l, h)

pub verdict_numbered : (f : List ℕ) → Numbered (verdict_checks f)
unfolding verdict_checks
verdict_numbered f =
    numbered_join (outline_checks f) (bound_checks (file_table f)) (outline_numbered f) (bound_numbered (file_table f))

-- ---- nothing is refused

pub sets_exist : (t : Table) → Sound t → HasCuts t → (ws : List ℕ) × Sets t ws × (length ws ≤ t.rows)
sets_exist t s c =
    let E = 1 + sum t.rows (line_second t) in
    let far : (i : ℕ) → i < t.rows → line_second t i < E = λ i l. omega (arith, sum_term t.rows (line_second t) i l) in
    let ws = sets_to t.rows (line_first t) (line_second t) E in (
      ws,
      ring_list t s c (line_first t) (line_second t) (λ i l. (refl, refl)) ws
          (sets_are t.rows (line_first t) (line_second t) (line_ordered t s c) s.rows_low E far),
      sets_to_few t.rows (line_first t) (line_second t) E,
    )

pub table_admissible : (t : Table) → Sound t → None (table_checks t) → Admissible t
table_admissible t s a =
    let n = none_right (line_checks t) (bound_checks t) a in
    let l = none_line t (none_left (line_checks t) (bound_checks t) a) in
    let e = sets_exist t s l.0 in
    record {
      sound = s;
      clear = l.0;
      short = l.1;
      heavy = none_heavy t s.rows_low e.0 e.1 n;
      bounded = bounded t s.rows_low e.0 e.1 (none_within t s.rows_low e.0 e.1 n e.2);
    }

-- none of 10 and 11 applies, and 13 and 14 give no refusal
pub table_none : (t : Table) → None (line_checks t) → Answers (bound_checks t) 0 0 → None (table_checks t)
table_none t n a = none_join (line_checks t) (bound_checks t) n (none_of (bound_checks t) 0 (bound_numbered t) a)

-- the verdict's checks are those of the table as it is given, then those of its line and bound
pub verdict_split : (f : List ℕ) → verdict_checks f ≡ given_checks f ++ table_checks (file_table f)
unfolding verdict_checks
verdict_split f = append_assoc (given_checks f) (line_checks (file_table f)) (bound_checks (file_table f))

-- a refusal by the first stands, and past them the second's does
pub given_stops : (f : List ℕ) (r : Refusal) → Answers (given_checks f) (number_of r.reason) r.place
    → Answers (verdict_checks f) (number_of r.reason) r.place
given_stops f r a =
    rw (verdict_split f) (stopped (given_checks f) (table_checks (file_table f)) (number_of r.reason) r.place (not_done r.reason) a)

pub given_passes : (f : List ℕ) → Answers (given_checks f) 0 0 → (n p : ℕ) → Answers (table_checks (file_table f)) n p
    → Answers (verdict_checks f) n p
given_passes f g n p a =
    rw (verdict_split f)
    (joined (given_checks f) (table_checks (file_table f)) n p (none_of (given_checks f) 0 (given_numbered f) g) a)

pub admissible_of : (f : List ℕ) → None (verdict_checks f) → Admissible (file_table f)
admissible_of f a =
    let n : None (given_checks f ++ table_checks (file_table f)) = rw (verdict_split f) at a in
    table_admissible (file_table f) (given_passed f (none_left (given_checks f) (table_checks (file_table f)) n)).sound
    (none_right (given_checks f) (table_checks (file_table f)) n)
