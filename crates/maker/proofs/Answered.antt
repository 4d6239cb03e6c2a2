-- What the maker answers, from what is found of a table and a plan; and that only one answer fits.
use mathlib.Core.Path.{◌≡◌, refl, sym, ap, ◌∙◌}
use mathlib.Core.Logic.{inl, inr, ⊎_elim, ◌≢◌, ◌⊎◌}
use mathlib.Core.List.{List, [], ◌∷◌, ◌++◌}
use Prim.Native.Nat.{ℕ, suc, ◌+◌, ◌≤◌, ◌<◌}
use native.Mathlib.Omega.{arith}
use lib.ListN.{length, get_or}
use Rattle.numbers.specs.Lists.{each}
use Rattle.numbers.proofs.Lists.{each_eq, each_join}
use Rattle.rules.specs.Bus.{Table}
use Rattle.rules.specs.Loads.{hyperperiod}
use Rattle.rules.specs.ElementList.{Entry, ElementList, move, in_memory, in_file, file_head, list_numbers, list_bytes, element_moves, moves_list}
use Rattle.rules.specs.Refusals.{Check, Answers, short_output, maker_checks}
use Rattle.rules.specs.Calls.{lent, Ask, ListMade}
use Rattle.rules.proofs.Answers.{
  None,
  Numbered,
  applied,
  passed,
  done,
  stopped,
  joined,
  none_of,
  none_left,
  none_right,
  answers_split,
}
use Rattle.rules.proofs.Calls.{call_only}
use Rattle.std.specs.Prelude.{Result, Ok, Err}
use Rattle.table.specs.Refusal.{number_of, number, place}
use Rattle.table.specs.declared.refusals.Reason.TheVariants.{ShortOutput}
use Rattle.table.specs.declared.refusals.Refusal.{Refusal}
use Rattle.table.proofs.Reasons.{not_done}
use Rattle.maker.specs.Words.{flat}
use Rattle.maker.specs.declared.Source.{Source}
use Rattle.maker.specs.declared.Making.{Making}
use Rattle.maker.specs.Finding.{word_checks, early_checks, Finds, Fits, hyper_of, entries_of}
use Rattle.maker.proofs.Finding.{early_numbered}

-- ---- the list's numbers and bytes, entry by entry

pub flat_each : (g : Entry → List ℕ) (x : Entry) (xs : List Entry) → each (length xs) (λ k. g (get_or xs k x)) ≡ flat g xs
unfolding each flat
flat_each g x [] = refl
flat_each g x (y ∷ xs) =
    let e : length (y ∷ xs) ≡ 1 + length xs = omega arith in
    ap (λ (n : ℕ). each n (λ k. g (get_or (y ∷ xs) k x))) e
    ∙ each_join 1 (length xs) (λ k. g (get_or (y ∷ xs) k x))
    ∙ ap (λ (r : List ℕ). g y ++ r)
    (each_eq (length xs) (λ j. g (get_or (y ∷ xs) (1 + j) x)) (λ j. g (get_or xs j x)) (λ j l. next j) ∙ flat_each g x xs)
  where
    next : (j : ℕ) → g (get_or (y ∷ xs) (1 + j) x) ≡ g (get_or xs j x)
    next j = let e : 1 + j ≡ suc j = omega arith in ap (λ (k : ℕ). g (get_or (y ∷ xs) k x)) e

module _ (t : Table) (e : ℕ) (plan : List ℕ) where
  pub numbers_are : flat in_memory (element_moves t e plan) ≡ list_numbers (moves_list t e plan)
  unfolding list_numbers
  numbers_are = sym (flat_each in_memory (move 0 0 0) (element_moves t e plan))

  pub bytes_are : file_head e (hyperperiod t) ++ flat in_file (element_moves t e plan) ≡ list_bytes (moves_list t e plan)
  unfolding list_bytes
  bytes_are = ap (λ (r : List ℕ). file_head e (hyperperiod t) ++ r) (sym (flat_each in_file (move 0 0 0) (element_moves t e plan)))

-- ---- the answer

module _ (a : Ask) (N : Numbered a.checks) (plan : List ℕ) (e room wants : ℕ) where
  abbrev t : Table
  t = a.table

  abbrev words : List Check
  words = word_checks a.checks t plan e

  abbrev early : List Check
  early = early_checks a.checks t plan e

  abbrev brief : Type 0
  brief = length plan < hyperperiod t

  abbrev cramped : Type 0
  cramped = room < wants

  abbrev last : List Check
  last = short_output (brief ⊎ cramped) ∷ []

  -- the maker's checks, with that of its output last
  split : maker_checks a.checks t plan e room wants ≡ words ++ last
  unfolding maker_checks
  split = refl

  late : (n p : ℕ) → n ≢ 0 → Answers (short_output brief ∷ []) n p → Answers last n p
  unfolding Answers
  late n p z q = ⊎_elim (λ w. inl (inl w.0, w.1, w.2)) (λ w. absurd (z w.1.0)) q

  -- a check before that of the output refuses
  pub fits_refused : (r : Refusal) → Finds a.checks t plan e (Err r) → Fits a plan e room wants (Err r)
  fits_refused r F =
      let n = number_of r.reason in
      let p = r.place in
      record {
        answers = rw split (⊎_elim
            (λ w. stopped words last n p (not_done r.reason) w)
            (λ w. joined words last n p w.0 (late n p (not_done r.reason) w.1))
            (answers_split words (short_output brief ∷ []) n p F.answers));
        ready = tt;
        enough = tt;
      }

  module _ {s : Source} (F : Finds a.checks t plan e (Ok s)) where
    none : None early
    none = none_of early 0 (early_numbered t plan e a.checks N) F.answers

    -- the output is too short
    pub fits_short : cramped → Fits a plan e room wants (Err (record { reason = ShortOutput; place = 0 }))
    fits_short l = record {
      answers = rw split (joined words last 17 0 (none_left words (short_output brief ∷ []) none)
          (applied (short_output (brief ⊎ cramped)) [] 17 0 (inr l) refl refl));
      ready = tt;
      enough = tt;
    }

    -- nothing refuses
    pub fits_all : wants ≤ room → Fits a plan e room wants (Ok s)
    unfolding None
    fits_all l =
        let long : brief → ⊥ = (none_right words (short_output brief ∷ []) none).0 in
        let wide : cramped → ⊥ = λ k. omega arith in
        record {
          answers = rw split (joined words last 0 0 (none_left words (short_output brief ∷ []) none)
              (passed (short_output (brief ⊎ cramped)) [] 0 0 (⊎_elim long wide) done));
          ready = F.ready;
          enough = l;
        }

-- ---- what is told of it

module _ (a : Ask) (plan : List ℕ) (e : ℕ) (form : ElementList → List ℕ) (was : List ℕ) {k : ℕ}
    (size : length (form (moves_list a.table e plan)) ≡ k) where
  abbrev Told : List ℕ → Result Making Refusal → Type 0
  Told now r = ListMade a plan e form was now (number r) (place r) (hyper_of r) (entries_of r)

  pub made_refused : (r : Refusal) → Fits a plan e (length was) k (Err r) → Told was (Err r)
  made_refused r F = rw size record {
    answers = F.answers;
    done = λ y. absurd (not_done r.reason y);
    refused = λ y. (refl, refl, refl);
  }

  pub made_done : {s : Source} → Fits a plan e (length was) k (Ok s) → (now : List ℕ) → now ≡ lent (form (moves_list a.table e plan)) was
      → Told now (Ok (record { hyper = s.picks.hyper; entries = s.entries }))
  made_done F now w = rw size record {
    answers = F.answers;
    done = λ y. (F.ready.hyper, F.ready.entries, w);
    refused = λ y. absurd (y refl);
  }

-- ---- only one answer fits

pub made_only : (a : Ask) (plan : List ℕ) (e : ℕ) (form : ElementList → List ℕ) (was now now' : List ℕ) (m n p q h h' k k' : ℕ)
    → ListMade a plan e form was now m p h k → ListMade a plan e form was now' n q h' k'
    → (m ≡ n) × (p ≡ q) × (h ≡ h') × (k ≡ k') × (now ≡ now')
made_only a plan e form was now now' m n p q h h' k k' c d =
    let z = call_only c d in
    let s : (h ≡ h') × (k ≡ k') × (now ≡ now') =
    ⊎_elim
    (λ w. (w.0.0 ∙ sym w.1.0, w.0.1 ∙ sym w.1.1, w.0.2 ∙ sym w.1.2))
    (λ w. (w.0.0 ∙ sym w.1.0, w.0.1 ∙ sym w.1.1, w.0.2 ∙ sym w.1.2))
    z.2 in
    (z.0, z.1, s.0, s.1, s.2)
