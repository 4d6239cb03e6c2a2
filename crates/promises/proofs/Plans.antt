-- A fresh planner's steps, joined: after k of them the words reach to where interval k starts, each row has moved in as many slots as its
-- total says, and at the start of every interval until then it has had its share.
use mathlib.Core.Path.{◌≡◌, refl, sym, ap, ap₂, ◌∙◌}
use mathlib.Core.Logic.{⊎_elim}
use mathlib.Core.List.{List, [], ◌++◌}
use Prim.Native.Nat.{ℕ, suc, ◌+◌, ◌-◌, ◌≤◌, ◌<◌}
use native.Mathlib.Nat.{eq-or-lt_of_le, le_of_suc-le-suc}
use native.Mathlib.Numerals.{add-one}
use native.Mathlib.Omega.{arith}
use lib.Dec.{T}
use lib.ListN.{length, length-append}
use Rattle.numbers.specs.Finite.{count}
use Rattle.numbers.proofs.Truth.{along, of_false, le_or_lt}
use Rattle.numbers.proofs.Finite.{count_none}
use Rattle.numbers.proofs.Word.{bit_zero}
use Rattle.rules.specs.Bus.{Table, overlap}
use Rattle.rules.specs.Loads.{start, end, intervals}
use Rattle.rules.specs.Interval.{moves}
use Rattle.rules.specs.Planner.{due, finished, Planner, fresh, Step, Run, none, more}
use Rattle.lags.specs.Lags.{Admissible, Steady, NotOff}
use Rattle.lags.proofs.Intervals.{intervals_positive, start_first, end_next, end_far, start_mono}
use Rattle.lags.proofs.Lags.{steady_eq, steady_fresh, steady_next}
use Rattle.lags.proofs.States.{next_due, next_finished, not_off_fresh, not_off_next}
use Rattle.promises.proofs.Counts.{moves_left, moves_right, count_left, count_joined}
use Rattle.promises.proofs.Words.{words_apart}

-- ws are the words of k steps, which hand back q
pub record Ran (t : Table) (k : ℕ) (q : Planner) (ws : List ℕ) : Type 0 where
  pub not_off : NotOff t q
  pub stage : k < intervals t → q.stage ≡ due k
  pub done : k ≡ intervals t → q.stage ≡ finished
  pub size : length ws ≡ start t k
  pub rows : (i s : ℕ) → T (moves ws i s) → i < t.rows
  pub apart : (i j s : ℕ) → T (overlap t i j) → T (moves ws i s) → T (moves ws j s) → i ≡ j
  pub totals : (i : ℕ) → i < t.rows → count (start t k) (moves ws i) ≡ q.totals i
  pub steady : (m : ℕ) → m ≤ k → Steady t (start t m) (λ i. count (start t m) (moves ws i))

module _ {t : Table} (A : Admissible t) where
  ran_none : Ran t 0 fresh []
  ran_none = record {
    not_off = not_off_fresh A;
    stage = λ l. refl;
    done = λ e. absurd (omega (arith, intervals_positive A.sound));
    size = sym (start_first A.sound);
    rows = λ i s m. absurd (still i s m);
    apart = λ i j s o m n. absurd (still i s m);
    totals = λ i l. count_none (start t 0) (moves [] i) (λ s m. still i s);
    steady = λ m l.
        let e : m ≡ 0 = omega arith in
        rw (e, start_first A.sound)
        (steady_eq t 0 (λ i. 0) (λ i. count 0 (moves [] i)) (λ i l. sym (count_none 0 (moves [] i) (λ s m. still i s))) (steady_fresh A));
  }
    where
      still : (i s : ℕ) → T (moves [] i s) → ⊥
      still i s = of_false (bit_zero i)

  ran_more : {k : ℕ} {p q : Planner} {vs ws : List ℕ} → k < intervals t → Ran t k p vs → Step t p q ws → Ran t (suc k) q (vs ++ ws)
  ran_more {k} {p} {q} {vs} {ws} l r s = record {
    not_off = not_off_next A r.not_off s;
    stage = λ m.
        let after : q.stage ≡ due (n + 1) = s.after ∙ next_due t n (omega (arith, is)) in
        after ∙ ap due (omega (arith, is));
    done = λ e. s.after ∙ next_finished t n (omega (arith, is));
    size = size;
    rows = λ i u m.
        ⊎_elim
        (λ a. s.words.rows i (u - length vs) (right i u a m))
        (λ a. r.rows i u (left i u a m))
        (le_or_lt (length vs) u);
    apart = λ i j u o m m'.
        ⊎_elim
        (λ a. words_apart A s.words i j (u - length vs) o (right i u a m) (right j u a m'))
        (λ a. r.apart i j u o (left i u a m) (left j u a m'))
        (le_or_lt (length vs) u);
    totals = totals;
    steady = λ m h. ⊎_elim (λ (e : m ≡ suc k). rw e here) (λ a. back m (le_of_suc-le-suc a)) (eq-or-lt_of_le h);
  }
    where
      n : ℕ
      n = s.interval

      is : n ≡ k
      is = let a = r.stage l in let b = s.is_due in cc

      starts : start t n ≡ start t k
      starts = ap (start t) is

      ends : end t n ≡ start t (suc k)
      ends = ap (end t) is ∙ end_next A.sound k ∙ ap (start t) (add-one k)

      long : start t n ≤ end t n
      long = omega (arith, end_far A.sound n (omega (arith, is)))

      size : length (vs ++ ws) ≡ start t (suc k)
      size = omega (arith, length-append vs ws, r.size, s.words.size, starts, ends, long)

      left : (i u : ℕ) → u < length vs → T (moves (vs ++ ws) i u) → T (moves vs i u)
      left i u a = along (moves_left vs ws i u a)

      right : (i u : ℕ) → length vs ≤ u → T (moves (vs ++ ws) i u) → T (moves ws i (u - length vs))
      right i u a = along (moves_right vs ws i u a)

      counted : (i : ℕ) → i < t.rows → count (end t n) (moves (vs ++ ws) i) ≡ p.totals i + s.loads i
      counted i h =
          let e : end t n ≡ length vs + (end t n - start t n) = omega (arith, r.size, starts, long) in
          ap (λ (m : ℕ). count m (moves (vs ++ ws) i)) e
          ∙ count_joined vs ws i (end t n - start t n)
          ∙ ap₂ ◌+◌ (ap (λ (m : ℕ). count m (moves vs i)) r.size ∙ r.totals i h) (s.placed i h)

      totals : (i : ℕ) → i < t.rows → count (start t (suc k)) (moves (vs ++ ws) i) ≡ q.totals i
      totals i h = ap (λ (m : ℕ). count m (moves (vs ++ ws) i)) (sym ends) ∙ counted i h ∙ sym (s.moved i h)

      here : Steady t (start t (suc k)) (λ i. count (start t (suc k)) (moves (vs ++ ws) i))
      here =
          rw (← ends)
          (steady_eq t (end t n) (λ i. p.totals i + s.loads i) (λ i. count (end t n) (moves (vs ++ ws) i))
          (λ i h. sym (counted i h)) (steady_next s.greatest.qualify))

      back : (m : ℕ) → m ≤ k → Steady t (start t m) (λ i. count (start t m) (moves (vs ++ ws) i))
      back m h =
          steady_eq t (start t m) (λ i. count (start t m) (moves vs i)) (λ i. count (start t m) (moves (vs ++ ws) i))
          (λ i a. sym (count_left vs ws i (start t m) (omega (arith, r.size, start_mono A.sound m k h (omega arith))))) (r.steady m h)

  pub ran : {k : ℕ} {q : Planner} {ws : List ℕ} → k ≤ intervals t → Run t k q ws → Ran t k q ws
  ran h none = ran_none
  ran h (more {k} r s) = ran_more h (ran (omega arith) r) s
