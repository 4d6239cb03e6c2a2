-- What is read of a list file, as the program's lines.
use mathlib.Core.Path.{◌≡◌, sym, ap, subst, ◌∙◌}
use mathlib.Core.Logic.{⊎_elim, ◌≢◌}
use mathlib.Core.List.{List, [], ◌∷◌}
use Prim.Native.Nat.{ℕ, ◌+◌, ◌*◌, ◌≤◌, ◌<◌}
use native.Mathlib.Omega.{arith}
use lib.ListN.{length, take}
use lib.Seq.{get_or-take}
use Rattle.std.specs.Prelude.{Result}
use Rattle.numbers.specs.Lists.{at, each}
use Rattle.numbers.proofs.Lists.{each_eq}
use Rattle.rules.specs.Bounds.{max_slots}
use Rattle.rules.specs.ElementList.{ElementList, entry_numbers, file_list, memory_entry, list_numbers}
use Rattle.rules.specs.Refusals.{Answers, short_output, list_file_checks, list_reader_checks}
use Rattle.rules.specs.Calls.{ListRead}
use Rattle.rules.specs.Program.{list, element, hyper, entry, entry_lines, ListPrinted, refused, shown}
use Rattle.rules.proofs.Answers.{None, none_of, answered, answers_only, answers_split}
use Rattle.rules.proofs.Calls.{lent_take}
use Rattle.table.specs.Refusal.{number, place}
use Rattle.table.specs.declared.refusals.Refusal.{Refusal}
use Rattle.decimal.specs.Puts.{PutsLine}
use Rattle.lists.specs.declared.Head.{Head}
use Rattle.lists.specs.Entries.{element_of, hyper_of, entries_of}
use Rattle.lists.proofs.Entries.{entries_few}
use Rattle.lists.proofs.Heads.{file_numbered, file_right}
use Rattle.lists.proofs.RoundTrip.{memory_back, numbers_length}

-- the line of an answer
pub line_told : {A : Type 0} {a b : Result A Refusal} → a ≡ b → {n p : ℕ} → n ≡ number a → p ≡ place a → {was now : List ℕ} {at size : ℕ}
    → PutsLine (list n p) was at now size → PutsLine (list (number b) (place b)) was at now size
line_told {b = b} e {n} {p} x y {was} {now} {at} {size} P =
    let m : n ≡ number b = x ∙ ap number e in
    let q : p ≡ place b = y ∙ ap place e in
    subst (λ (u : ℕ × ℕ). PutsLine (list u.0 u.1) was at now size) (λ k. (m k, q k)) P

-- what was read, of the same answer
pub read_told : {a b : Result Head Refusal} → a ≡ b → (f was now : List ℕ)
    → ListRead f was now (number a) (place a) (element_of a) (hyper_of a) (entries_of a)
    → ListRead f was now (number b) (place b) (element_of b) (hyper_of b) (entries_of b)
read_told e f was now R =
    subst (λ (x : Result Head Refusal). ListRead f was now (number x) (place x) (element_of x) (hyper_of x) (entries_of x)) e R

module _ (f was now : List ℕ) (n p e h k : ℕ) (R : ListRead f was now n p e h k) (room : entry_numbers * (2 * max_slots) ≤ length was) where
  abbrev l : ElementList
  l = file_list f

  -- a list that passes has room
  fits : None (list_file_checks f) → l.entries ≤ 2 * max_slots
  fits a = let r = file_right f a in omega (arith, entries_few l l.entries r.entry, r.hyper_high)

  -- so 17 is never given
  pub read_answers : Answers (list_file_checks f) n p
  unfolding list_reader_checks Answers
  read_answers =
      ⊎_elim (λ a. a)
      (λ q.
      ⊎_elim (λ w. absurd (let z : ⊥ = omega (arith, w.0, fits q.0, room) in z))
      (λ w. let e = w.1 in rw (e.0, e.1) (answered (list_file_checks f) q.0)) q.1)
      (answers_split (list_file_checks f) (short_output (length was < entry_numbers * l.entries) ∷ []) n p R.answers)

  pub read_refused : n ≢ 0 → ListPrinted f (list n p ∷ [])
  read_refused z = refused n p read_answers z

  module _ (z : n ≡ 0) where
    none : None (list_file_checks f)
    none = none_of (list_file_checks f) p (file_numbered f) (rw z at read_answers)

    pub read_fits : k ≤ 2 * max_slots
    read_fits = omega (arith, fits none, (R.done z).2)

    numbers : (i : ℕ) → i < entry_numbers * l.entries → at now i ≡ at (list_numbers l) i
    numbers i m =
        sym (get_or-take (entry_numbers * l.entries) now i 0 m)
        ∙ ap (λ (xs : List ℕ). at xs i)
        (ap (take (entry_numbers * l.entries)) (R.done z).3 ∙ lent_take (list_numbers l) was (entry_numbers * l.entries)
        (numbers_length l))

    entries : (i : ℕ) → i < l.entries → memory_entry now i ≡ l.entry i
    entries i m =
        (λ j. record {
          slot = numbers (entry_numbers * i) (omega arith) j;
          row = numbers (entry_numbers * i + 1) (omega arith) j;
          way = numbers (entry_numbers * i + 2) (omega arith) j;
        })
        ∙ (memory_back l).entry i m

    lines : each k (λ i. entry (memory_entry now i) ∷ []) ≡ entry_lines l
    lines =
        ap (λ (m : ℕ). each m (λ i. entry (memory_entry now i) ∷ [])) (R.done z).2
        ∙ each_eq l.entries (λ i. entry (memory_entry now i) ∷ []) (λ i. entry (l.entry i) ∷ [])
        (λ i m. ap (λ x. entry x ∷ []) (entries i m))

    pub read_shown : ListPrinted f (list n p ∷ element e ∷ hyper h ∷ each k (λ i. entry (memory_entry now i) ∷ []))
    read_shown =
        let d = R.done z in
        let a = answers_only (list_file_checks f) n 0 p 0 read_answers (answered (list_file_checks f) none) in
        rw (a.0, a.1, d.0, d.1, lines) (shown (answered (list_file_checks f) none))
