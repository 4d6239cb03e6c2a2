-- What the program writes, from what the readers and the writers answered. There is room for the rows of every table, so 17 is never given.
use mathlib.Core.Path.{◌≡◌, refl, sym, ap, subst, ◌∙◌}
use mathlib.Core.Logic.{⊎_elim, ◌≢◌}
use mathlib.Core.List.{List, [], ◌∷◌, ◌++◌}
use Prim.Native.Nat.{ℕ, ◌+◌, ◌*◌, ◌≤◌, ◌<◌}
use native.Mathlib.Omega.{arith}
use lib.ListN.{length, take, length-take}
use Rattle.rules.specs.Bounds.{max_rows}
use Rattle.rules.specs.TableFile.{header_size, row_size, row_numbers, rings_of, mark_of, file_table}
use Rattle.rules.specs.Text.{text_of}
use Rattle.rules.specs.Refusals.{Check, Answers, short_output, file_checks, reader_checks}
use Rattle.rules.specs.Calls.{Read, Written}
use Rattle.rules.proofs.Answers.{None, none_of, answered, answers_split}
use Rattle.std.specs.Prelude.{Result, Ok, Err}
use Rattle.std.specs.Result.{result_unwrap_or}
use Rattle.table.specs.Refusal.{number, place}
use Rattle.table.specs.declared.refusals.Refusal.{Refusal}
use Rattle.text_writer.specs.Lines.{size_in}
use Rattle.table.proofs.Faults.{file_numbered, passed_none}
use Rattle.round_trip.proofs.RoundTrip.{Bytes}
use Rattle.grammar.specs.TableText.{text_rings, text_table, text_checks, text_reader_checks, line_at, column_at, TextRead}
use Rattle.grammar.specs.TableText.{TextWritten}
use Rattle.decimal.specs.Puts.{Puts}
use Rattle.grammar.specs.Reports.{fault, refusal, FileOf, TextOf, longest_text, Made, refused, made}
use Rattle.text_reader.proofs.Texts.{text_numbered}
use Rattle.text_trip.proofs.Sounds.{text_rings_lem, text_sound}
use Rattle.text_trip.proofs.Sizes.{file_short}
use Rattle.text_trip.proofs.RoundTrip.{read_then_filed, file_then_said}

-- where there is room, the last check is never the answer
roomy : (cs : List Check) (A : Type 0) (n p : ℕ) → (None cs → A → ⊥) → Answers (cs ++ (short_output A ∷ [])) n p → Answers cs n p
unfolding Answers
roomy cs A n p h a =
    ⊎_elim (λ b. b)
    (λ q. ⊎_elim (λ w. absurd (h q.0 w.0)) (λ w. let e = w.1 in rw (e.0, e.1) (answered cs q.0)) q.1)
    (answers_split cs (short_output A ∷ []) n p a)

-- the front of what was written
pub front : {P : List ℕ → Type 0} {was now : List ℕ} {next : ℕ} (size : ℕ) (xs : List ℕ) → P (take size xs) → size ≤ longest_text
    → Puts (take size xs) was 0 now next → Made P was now next
front size xs a l Q =
    record { bytes = take size xs; allowed = a; puts = Q; fits = omega (arith, Q.after, length-take size xs) }

-- the size that the writer answers
size_told : (r : Result ℕ Refusal) → result_unwrap_or r 0 ≡ size_in r
size_told (Ok n) = refl
size_told (Err e) = refl

-- ---- a text

module _ (t was now : List ℕ) (n p : ℕ) (m : List ℕ) (v M k : ℕ) (R : TextRead t was now n p m v M k)
    (room : row_numbers * max_rows ≤ length was) where
  text_answers : Answers (text_checks t) n p
  unfolding text_reader_checks
  text_answers =
      roomy (text_checks t) (length was < row_numbers * (text_table t).rows) n p
      (λ a (l : length was < row_numbers * (text_table t).rows). let z : ⊥ = omega (arith, (text_sound t a).rows_high) in z) R.answers

  pub text_refused : (number line column : ℕ) → number ≡ n → n ≢ 0 → line ≡ line_at t p → column ≡ column_at t p
      → FileOf t (text_of (fault number line column))
  text_refused number line column d h e f =
      subst (FileOf t) (λ k. text_of (fault (sym d k) (sym e k) (sym f k))) (refused n p text_answers h)

  module _ (z : n ≡ 0) where
    none : None (text_checks t)
    none = none_of (text_checks t) p (text_numbered t) (rw z at text_answers)

    pub text_few : k ≤ max_rows
    text_few = omega (arith, (R.done z).3, (text_sound t none).rows_high)

    pub text_marked : 3 ≤ length m
    unfolding mark_of
    text_marked =
        let e : length m ≡ length (mark_of (text_rings t)) = ap length (R.done z).0 in
        ⊎_elim (λ w. omega (arith, e, ap (λ (r : ℕ). length (mark_of r)) w)) (λ w. omega (arith, e, ap (λ (r : ℕ). length (mark_of r)) w))
        (text_rings_lem t)

    pub text_made : (size : ℕ) (was' now' : List ℕ) (number place : ℕ) → size ≡ header_size + row_size (rings_of m) v * k
        → size ≤ length was' → Written m v M k (take (row_numbers * k) now) was' now' number place → FileOf t (take size now')
    text_made size was' now' number place e l W =
        let d = read_then_filed t was now p m v M k was' now' number place (rw z at R) (omega (arith, e, l)) W in
        subst (FileOf t) (sym d.2 ∙ ap (λ (j : ℕ). take j now') (sym e)) (made (answered (text_checks t) none))

-- ---- a file

module _ (f was now : List ℕ) (n p : ℕ) (m : List ℕ) (v M k : ℕ) (R : Read f was now n p m v M k)
    (room : row_numbers * max_rows ≤ length was) where
  file_answers : Answers (file_checks f) n p
  unfolding reader_checks
  file_answers =
      roomy (file_checks f) (length was < row_numbers * (file_table f).rows) n p
      (λ a (l : length was < row_numbers * (file_table f).rows). let z : ⊥ = omega (arith, (passed_none f a).sound.rows_high) in z)
      R.answers

  pub file_refused : (number : ℕ) → number ≡ n → n ≢ 0 → TextOf f (text_of (refusal number p))
  file_refused number e h = subst (λ (m : ℕ). TextOf f (text_of (refusal m p))) (sym e) (refused n p file_answers h)

  module _ (z : n ≡ 0) where
    passes : None (file_checks f)
    passes = none_of (file_checks f) p (file_numbered f) (rw z at file_answers)

    pub file_few : k ≤ max_rows
    file_few = omega (arith, (R.done z).3, (passed_none f passes).sound.rows_high)

    file_made : (was' now' : List ℕ) (number place size : ℕ) → Bytes f → longest_text ≤ length was'
        → TextWritten m v M k (take (row_numbers * k) now) was' now' number place size
        → (size ≤ longest_text) × TextOf f (take size now')
    file_made was' now' number place size b l W =
        let s = file_short f b passes in
        let d = file_then_said f was now p m v M k was' now' number place size (rw z at R) (omega (arith, s)) W in
        (omega (arith, s, d.2), subst (TextOf f) (sym d.3) (made (answered (file_checks f) passes)))

    -- the size that the writer answers is that of the text
    pub file_told : (was' now' : List ℕ) (r : Result ℕ Refusal) (size : ℕ) → size ≡ result_unwrap_or r 0 → Bytes f → longest_text ≤ length was'
        → TextWritten m v M k (take (row_numbers * k) now) was' now' (number r) (place r) (size_in r)
        → (size ≤ longest_text) × TextOf f (take size now')
    file_told was' now' r size e b l W =
        let q : size ≡ size_in r = e ∙ size_told r in
        let d = file_made was' now' (number r) (place r) (size_in r) b l W in
        (omega (arith, q, d.0), subst (λ (j : ℕ). TextOf f (take j now')) (sym q) d.1)
