-- A live table's answers from what its checks find.
use mathlib.Core.Path.{◌≡◌, refl}
use mathlib.Core.Logic.{◌⊎◌, ⊎_elim, ◌≢◌}
use mathlib.Core.Bool.{not}
use mathlib.Core.List.{List, [], ◌∷◌, ◌++◌}
use Prim.Native.Nat.{ℕ, ◌≤◌, ◌<◌}
use native.Mathlib.Omega.{arith}
use lib.Dec.{T}
use Rattle.numbers.specs.Finite.{every}
use Rattle.numbers.specs.Lists.{at}
use Rattle.numbers.proofs.Truth.{decide, refuted, refutes}
use Rattle.numbers.proofs.Finite.{every_of, every_at, lowest_has, lowest_below}
use Rattle.rules.specs.Bounds.{max_elements, max_rows, max_slots}
use Rattle.rules.specs.Refusals.{Answers, Check, faults, wrong_elements}
use Rattle.rules.specs.Live as rules
use Rattle.rules.specs.Live.{InOrder, held, free, common, placed, repeated, add_checks, remove_checks}
use Rattle.rules.specs.Live.{places, empty, off_live, repeated_row, no_free_place, long_with, no_row_there}
use Rattle.rules.proofs.Answers.{None, applied, passed, done, stopped, joined}
use Rattle.std.specs.Prelude.{Result, Ok, Err}
use Rattle.table.specs.Refusal.{number_of}
use Rattle.table.specs.declared.refusals.Reason.{Reason}
use Rattle.table.specs.declared.refusals.Reason.TheVariants.{WrongElements, LongHyperperiod, OffState, PastedRow, NoFreePlace, NoRowThere}
use Rattle.table.specs.declared.refusals.Refusal.{Refusal}
use Rattle.table.proofs.Reasons.{not_done}
use Rattle.table.specs.Rows.{single}
use Rattle.time.proofs.Periods.{capped_some, capped_none}
use Rattle.live.specs.declared.Live.{Live}
use Rattle.live.specs.declared.Entry.{Entry}
use Rattle.live.specs.State.{live_of, entry_of, row_of, blank, PutIn}
use Rattle.live.specs.Answers.{Sized, NewAnswer, AddAnswer, RemoveAnswer}
use Rattle.live.proofs.Kept.{fewer_common}
use Rattle.live.proofs.State.{blank_is_lem, blank_sized, put_is, put_sized, put_common}
use Rattle.live.proofs.Order.{common_positive}

-- refused, with no place
abbrev pub refusal : {A : Type 0} → Reason → Result A Refusal
refusal r = Err (record { reason = r; place = 0 })

-- ---- a new one

pub new_refused : (M : ℕ) → (2 ≤ M → M ≤ max_elements → ⊥) → NewAnswer M (refusal WrongElements)
new_refused M h = record {
  made = record {
    answers = applied (wrong_elements (places (empty M))) [] 4 0 (λ w. h w.0 w.1) refl refl;
    done = λ z. absurd (let q : ⊥ = omega (arith, z) in q);
    refused = λ z. blank_is_lem 0 0;
  };
  size = blank_sized 0 0;
}

pub new_done : (M : ℕ) → 2 ≤ M → M ≤ max_elements → NewAnswer M (Ok (blank M 1))
new_done M l h = record {
  made = record {
    answers = passed (wrong_elements (places (empty M))) [] 0 0 (λ w. w (l, h)) done;
    done = λ z. blank_is_lem M 1;
    refused = λ z. absurd (z refl);
  };
  size = blank_sized M 1;
}

-- ---- the places

-- all places hold rows exactly if no lowest one is free
pub all_held : (l : rules.Live) → free l ≡ max_rows → T (every max_rows (held l))
all_held l e =
    every_of max_rows (held l)
    (λ i h. ⊎_elim (λ t. t) (λ n. absurd (lowest_below max_rows (λ i. not (held l i)) i (omega (arith, e)) (refuted (held l i) n)))
    (decide (held l i)))

pub some_free : (l : rules.Live) → free l < max_rows → T (every max_rows (held l)) → ⊥
some_free l h t =
    refutes (held l (free l)) (lowest_has max_rows (λ i. not (held l i)) h) (every_at max_rows (held l) t (free l) h)

-- ---- the denominator after a change

module _ {l r : Live} {k : ℕ} {row : Entry} (Z : Sized l) (h : k < max_rows) (P : PutIn l k row r) where
  pub put_long : r.denominator ≡ 0 → max_slots < common (placed (live_of l) k (entry_of row))
  put_long z = omega (arith, capped_none P.denominator z (common_positive (at r.period)), put_common Z h P)

  pub put_short : r.denominator ≢ 0 → common (placed (live_of l) k (entry_of row)) ≤ max_slots
  put_short n =
      let c = capped_some P.denominator n in
      omega (arith, c.0, c.1, put_common Z h P)

-- ---- an addition

module _ (l : Live) (row : Entry) where
  abbrev L : rules.Live
  L = live_of l

  abbrev e : rules.Entry
  e = entry_of row

  abbrev rest : List Check
  rest = repeated_row L e ∷ no_free_place L ∷ long_with L e ∷ []

  -- the answer of a refusal
  pub add_refused : (r : Reason) → Sized l → Answers (add_checks L e) (number_of r) 0 → AddAnswer l row l (refusal r)
  add_refused r Z a = record {
    added = record { answers = a; done = λ z. absurd (not_done r z); refused = λ z. (refl, refl) };
    same = refl;
    size = Z;
  }

  pub add_off : Sized l → (InOrder L → ⊥) → AddAnswer l row l (refusal OffState)
  add_off Z n = add_refused OffState Z (applied (off_live L) _ 15 0 n refl refl)

  module _ (Z : Sized l) (O : InOrder L) where
    in_order : (n p : ℕ) → Answers (faults (single l.elements 1 (row_of row)) 0 ++ rest) n p → Answers (add_checks L e) n p
    in_order n p a = passed (off_live L) _ n p (λ z. z O) a

    pub add_fault : (r : Reason) → Answers (faults (single l.elements 1 (row_of row)) 0) (number_of r) 0 → AddAnswer l row l (refusal r)
    add_fault r a =
        add_refused r Z
        (in_order (number_of r) 0 (stopped (faults (single l.elements 1 (row_of row)) 0) rest (number_of r) 0 (not_done r) a))

    module _ (N : None (faults (single l.elements 1 (row_of row)) 0)) where
      sound : (n p : ℕ) → Answers rest n p → Answers (add_checks L e) n p
      sound n p a = in_order n p (joined (faults (single l.elements 1 (row_of row)) 0) rest n p N a)

      pub add_repeated : T (repeated L e) → AddAnswer l row l (refusal PastedRow)
      add_repeated t = add_refused PastedRow Z (sound 18 0 (applied (repeated_row L e) _ 18 0 t refl refl))

      module _ (R : T (repeated L e) → ⊥) where
        pub add_full : free L ≡ max_rows → AddAnswer l row l (refusal NoFreePlace)
        add_full f =
            add_refused NoFreePlace Z
            (sound 24 0 (passed (repeated_row L e) _ 24 0 R (applied (no_free_place L) _ 24 0 (all_held L f) refl refl)))

        module _ (F : free L < max_rows) where
          pub add_long : max_slots < common (placed L (free L) e) → AddAnswer l row l (refusal LongHyperperiod)
          add_long t =
              add_refused LongHyperperiod Z
              (sound 11 0 (passed (repeated_row L e) _ 11 0 R
              (passed (no_free_place L) _ 11 0 (some_free L F) (applied (long_with L e) _ 11 0 t refl refl))))

          pub add_done : {r : Live} → common (placed L (free L) e) ≤ max_slots → PutIn l (free L) row r → AddAnswer l row r (Ok (free L))
          add_done {r} s P = record {
            added = record {
              answers = sound 0 0 (passed (repeated_row L e) _ 0 0 R (passed (no_free_place L) _ 0 0 (some_free L F)
                  (passed (long_with L e) _ 0 0 (λ z. omega (arith, z, s)) done)));
              done = λ z. (refl, put_is Z F P s);
              refused = λ z. absurd (z refl);
            };
            same = tt;
            size = put_sized Z F P;
          }

-- ---- a removal

module _ (l : Live) (k : ℕ) where
  pub remove_refused : (r : Reason) → Sized l → Answers (remove_checks (live_of l) k) (number_of r) 0 → RemoveAnswer l k l (refusal r)
  remove_refused r Z a = record {
    removed = record { answers = a; done = λ z. absurd (not_done r z); refused = λ z. refl };
    same = refl;
    size = Z;
  }

  pub remove_off : Sized l → (InOrder (live_of l) → ⊥) → RemoveAnswer l k l (refusal OffState)
  remove_off Z n = remove_refused OffState Z (applied (off_live (live_of l)) _ 15 0 n refl refl)

  module _ (Z : Sized l) (O : InOrder (live_of l)) where
    pub remove_none : (max_rows ≤ k) ⊎ (T (held (live_of l) k) → ⊥) → RemoveAnswer l k l (refusal NoRowThere)
    remove_none t =
        remove_refused NoRowThere Z
        (passed (off_live (live_of l)) _ 25 0 (λ z. z O) (applied (no_row_there (live_of l) k) _ 25 0 t refl refl))

    pub remove_done : {r : Live} → k < max_rows → T (held (live_of l) k)
        → PutIn l k (record { cost = 0; period = 0; first = 0; second = 0; label = 0 }) r → RemoveAnswer l k r (Ok tt)
    remove_done {r} h t P = record {
      removed = record {
        answers = passed (off_live (live_of l)) _ 0 0 (λ z. z O)
            (passed (no_row_there (live_of l) k) _ 0 0 (⊎_elim (λ z. omega (arith, z, h)) (λ n. n t)) done);
        done = λ z. put_is Z h P (omega (arith, fewer_common (at l.period) k, O.denominator, O.short));
        refused = λ z. absurd (z refl);
      };
      same = tt;
      size = put_sized Z h P;
    }
