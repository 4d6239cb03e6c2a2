-- What reader and writer of lists answer, from their checks; and that only one answer fits.
use mathlib.Core.Path.{◌≡◌, refl, sym, ◌∙◌}
use mathlib.Core.List.{List}
use Prim.Native.Nat.{ℕ, ◌+◌, ◌*◌, ◌<◌}
use lib.ListN.{length}
use mathlib.Core.Logic.{⊎_elim, ◌≢◌}
use Rattle.rules.specs.ElementList.{
  Entry,
  entry_numbers,
  list_header,
  entry_size,
  in_memory,
  in_file,
  file_list,
  memory_list,
  list_numbers,
  list_bytes,
}
use Rattle.rules.specs.Refusals.{Answers, list_file_checks, list_reader_checks, list_memory_checks, list_writer_checks}
use Rattle.rules.specs.Calls.{lent, ListRead, ListWritten}
use Rattle.rules.proofs.Answers.{None}
use Rattle.rules.proofs.Calls.{call_refused, call_short, call_done, call_only}
use Rattle.std.specs.Prelude.{Result, Ok, Err}
use Rattle.table.specs.Refusal.{number_of, number, place}
use Rattle.table.specs.declared.refusals.Reason.TheVariants.{ShortOutput}
use Rattle.table.specs.declared.refusals.Refusal.{Refusal}
use Rattle.table.proofs.Reasons.{not_done, refused_not, same_refusal}
use Rattle.lists.specs.Entries.{IsHead, IsEntry, entry_of, element_of, hyper_of, entries_of}
use Rattle.lists.specs.declared.Entry.{Entry as Place}
use Rattle.lists.specs.declared.Head.{Head}
use Rattle.lists.proofs.Heads.{file_numbered, memory_numbered}

-- the places of an entry
pub memory_entry_lem : {x : Entry} {r : Place} → IsEntry x r → in_memory (entry_of r) ≡ in_memory x
memory_entry_lem q = rw (q.slot, q.row, q.way)

pub file_entry_lem : {x : Entry} {r : Place} → IsEntry x r → in_file (entry_of r) ≡ in_file x
file_entry_lem q = rw (q.slot, q.row, q.way)

-- ---- the reader

module _ (f was : List ℕ) where
  abbrev short : Type 0
  short = length was < entry_numbers * (file_list f).entries

  -- r is what the reader answers, which leaves `now`
  abbrev pub Reads : List ℕ → Result Head Refusal → Type 0
  Reads now r = ListRead f was now (number r) (place r) (element_of r) (hyper_of r) (entries_of r)

  pub read_refused : (r : Refusal) → Answers (list_file_checks f) (number_of r.reason) r.place → Reads was (Err r)
  unfolding list_reader_checks
  read_refused r a = call_refused (list_file_checks f) short a (not_done r.reason) (refl, refl, refl, refl)

  pub read_short : None (list_file_checks f) → short → Reads was (Err (record { reason = ShortOutput; place = 0 }))
  unfolding list_reader_checks
  read_short a h = call_short (list_file_checks f) short a h (refl, refl, refl, refl)

  pub read_done : (now : List ℕ) (h : Head) → Answers (list_file_checks f) 0 0 → IsHead (file_list f) h → (short → ⊥)
      → now ≡ lent (list_numbers (file_list f)) was → Reads now (Ok h)
  unfolding list_reader_checks
  read_done now h a q s d =
      call_done (list_file_checks f) short (file_numbered f) a refl s (q.element, q.hyper, q.entries, d)

  -- as the function's result: only one fits
  pub reading_only : {now now' : List ℕ} {r s : Result Head Refusal} → Reads now r → Reads now' s → (r ≡ s) × (now ≡ now')
  reading_only {r = Ok h} {s = Ok k} c d =
      let x = c.done refl in
      let y = d.done refl in (
        λ i. Ok (record { element = (x.0 ∙ sym y.0) i; hyper = (x.1 ∙ sym y.1) i; entries = (x.2 ∙ sym y.2) i }),
        x.3 ∙ sym y.3,
      )
  reading_only {r = Ok h} {s = Err e} c d = refused_not (list_reader_checks f (length was)) e c.answers d.answers
  reading_only {r = Err e} {s = Ok h} c d = refused_not (list_reader_checks f (length was)) e d.answers c.answers
  reading_only {r = Err e} {s = Err g} c d = (
    same_refusal (list_reader_checks f (length was)) e g c.answers d.answers,
    (c.refused (not_done e.reason)).3 ∙ sym (d.refused (not_done g.reason)).3,
  )

-- in numbers: only one answer fits
pub read_only : (f was now now' : List ℕ) (m n p q e e' h h' k k' : ℕ) → ListRead f was now m p e h k → ListRead f was now' n q e' h' k'
    → (m ≡ n) × (p ≡ q) × (e ≡ e') × (h ≡ h') × (k ≡ k') × (now ≡ now')
read_only f was now now' m n p q e e' h h' k k' c d =
    let z = call_only c d in
    let s : (e ≡ e') × (h ≡ h') × (k ≡ k') × (now ≡ now') =
    ⊎_elim
    (λ w. (w.0.0 ∙ sym w.1.0, w.0.1 ∙ sym w.1.1, w.0.2 ∙ sym w.1.2, w.0.3 ∙ sym w.1.3))
    (λ w. (w.0.0 ∙ sym w.1.0, w.0.1 ∙ sym w.1.1, w.0.2 ∙ sym w.1.2, w.0.3 ∙ sym w.1.3))
    z.2 in
    (z.0, z.1, s.0, s.1, s.2, s.3)

-- ---- the writer

module _ (e h : ℕ) (xs was : List ℕ) where
  abbrev cramped : Type 0
  cramped = length was < list_header + entry_size * (memory_list e h xs).entries

  -- a is what the writer answers, which leaves `now`
  abbrev pub Writes : List ℕ → Result Unit Refusal → Type 0
  Writes now a = ListWritten e h xs was now (number a) (place a)

  pub written_refused : (r : Refusal) → Answers (list_memory_checks e h xs) (number_of r.reason) r.place → Writes was (Err r)
  unfolding list_writer_checks
  written_refused r a = call_refused (list_memory_checks e h xs) cramped a (not_done r.reason) refl

  pub written_short : None (list_memory_checks e h xs) → cramped → Writes was (Err (record { reason = ShortOutput; place = 0 }))
  unfolding list_writer_checks
  written_short a z = call_short (list_memory_checks e h xs) cramped a z refl

  pub written_done : (now : List ℕ) → Answers (list_memory_checks e h xs) 0 0 → (cramped → ⊥)
      → now ≡ lent (list_bytes (memory_list e h xs)) was → Writes now (Ok tt)
  unfolding list_writer_checks
  written_done now a s d = call_done (list_memory_checks e h xs) cramped (memory_numbered e h xs) a refl s d

  -- as the function's result: only one fits
  pub writing_only : {now now' : List ℕ} {a b : Result Unit Refusal} → Writes now a → Writes now' b → (a ≡ b) × (now ≡ now')
  writing_only {a = Ok _} {b = Ok _} c d = (refl, c.done refl ∙ sym (d.done refl))
  writing_only {a = Ok _} {b = Err r} c d = refused_not (list_writer_checks e h xs (length was)) r c.answers d.answers
  writing_only {a = Err r} {b = Ok _} c d = refused_not (list_writer_checks e h xs (length was)) r d.answers c.answers
  writing_only {a = Err r} {b = Err s} c d = (
    same_refusal (list_writer_checks e h xs (length was)) r s c.answers d.answers,
    c.refused (not_done r.reason) ∙ sym (d.refused (not_done s.reason)),
  )

-- in numbers: only one answer fits
pub written_only : (e h : ℕ) (xs was now now' : List ℕ) (m n p q : ℕ) → ListWritten e h xs was now m p → ListWritten e h xs was now' n q
    → (m ≡ n) × (p ≡ q) × (now ≡ now')
written_only e h xs was now now' m n p q c d =
    let z = call_only c d in
    (z.0, z.1, ⊎_elim (λ w. w.0 ∙ sym w.1) (λ w. w.0 ∙ sym w.1) z.2)
