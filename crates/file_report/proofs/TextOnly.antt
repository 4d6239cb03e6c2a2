-- Only one answer fits a text, or a file.
use mathlib.Core.Path.{◌≡◌, refl, sym, ap, ap₂, ◌∙◌}
use mathlib.Core.List.{List}
use Prim.Native.Nat.{ℕ, ◌+◌}
use lib.ListN.{length}
use lib.Seq.{sets}
use Rattle.rules.specs.Refusals.{file_checks}
use Rattle.rules.specs.Text.{text_of}
use Rattle.rules.proofs.Answers.{answers_only}
use Rattle.grammar.specs.TableText.{line_at, column_at, text_checks}
use Rattle.grammar.specs.Reports.{fault, refusal, FileOf, TextOf, Made, refused, made}

file_only : {t xs ys : List ℕ} → FileOf t xs → FileOf t ys → xs ≡ ys
file_only {t} (refused m p a x) (refused n q b y) =
    let e = answers_only (text_checks t) m n p q a b in
    ap₂ (λ (i j : ℕ). text_of (fault i (line_at t j) (column_at t j))) e.0 e.1
file_only {t} (refused m p a x) (made b) = absurd (x (answers_only (text_checks t) m 0 p 0 a b).0)
file_only {t} (made a) (refused n q b y) = absurd (y (answers_only (text_checks t) n 0 q 0 b a).0)
file_only (made a) (made b) = refl

text_only : {f xs ys : List ℕ} → TextOf f xs → TextOf f ys → xs ≡ ys
text_only {f} (refused m p a x) (refused n q b y) =
    let e = answers_only (file_checks f) m n p q a b in
    ap₂ (λ (i j : ℕ). text_of (refusal i j)) e.0 e.1
text_only {f} (refused m p a x) (made b) = absurd (x (answers_only (file_checks f) m 0 p 0 a b).0)
text_only {f} (made a) (refused n q b y) = absurd (y (answers_only (file_checks f) n 0 q 0 b a).0)
text_only (made a) (made b) = refl

made_only : {P : List ℕ → Type 0} {was now then : List ℕ} {m n : ℕ} → ((xs ys : List ℕ) → P xs → P ys → xs ≡ ys) → Made P was now m
    → Made P was then n → (now ≡ then) × (m ≡ n)
made_only {was = was} one A B =
    let e = one A.bytes B.bytes A.allowed B.allowed in (
      A.puts.holds ∙ ap (λ (xs : List ℕ). sets was 0 xs) e ∙ sym B.puts.holds,
      A.puts.after ∙ ap (λ (xs : List ℕ). 0 + length xs) e ∙ sym B.puts.after,
    )

pub make_only : (t : List ℕ) {was now then : List ℕ} {m n : ℕ} → Made (FileOf t) was now m → Made (FileOf t) was then n
    → (now ≡ then) × (m ≡ n)
make_only t A B = made_only (λ xs ys a b. file_only a b) A B

pub show_only : (f : List ℕ) {was now then : List ℕ} {m n : ℕ} → Made (TextOf f) was now m → Made (TextOf f) was then n
    → (now ≡ then) × (m ≡ n)
show_only f A B = made_only (λ xs ys a b. text_only a b) A B
