-- What is promised of live tables (#109). The proofs stand in proofs/Kept and proofs/Only.
--
--   StaysInOrder     new, and a call on a live table in order, leave one in order
--   SumsAfresh        after any calls, refused ones among them, denominator and sums are those worked out afresh from the rows present
--   OneNew, OneAddition, OneRemoval   only one answer fits
use Rattle.std.specs.Prelude.{◌≡◌, ℕ, ◌<◌, Result}
use Rattle.rules.specs.Bounds.{max_elements}
use Rattle.rules.specs.Live.{Live, Entry, InOrder, Made, Added, Removed, Reached, common, sum_over}
use Rattle.table.specs.declared.refusals.Refusal.{Refusal}
use Rattle.live.specs.declared.Entry.{Entry as LiveEntry}
use Rattle.live.specs.declared.Live.{Live as LiveTable}
use Rattle.live.specs.Answers.{NewAnswer, AddAnswer, RemoveAnswer}

pub record StaysInOrder : Type 0 where
  pub made : (M : ℕ) (m : Live) → Made M m 0 0 → InOrder m
  pub added : (l m : Live) (e : Entry) (number place taken : ℕ) → InOrder l → Added l e m number place taken → InOrder m
  pub removed : (l m : Live) (k number place : ℕ) → InOrder l → Removed l k m number place → InOrder m

abbrev pub SumsAfresh : Type 0
SumsAfresh =
    (l : Live) → Reached l → (l.denominator ≡ common l) × ((s : ℕ) → s < max_elements → l.sum s ≡ sum_over (common l) l s)

abbrev pub OneNew : Type 0
OneNew = (M : ℕ) (r s : Result LiveTable Refusal) → NewAnswer M r → NewAnswer M s → r ≡ s

abbrev pub OneAddition : Type 0
OneAddition =
    (l : LiveTable) (e : LiveEntry) (m n : LiveTable) (r s : Result ℕ Refusal) → AddAnswer l e m r → AddAnswer l e n s → (m ≡ n) × (r ≡ s)

abbrev pub OneRemoval : Type 0
OneRemoval =
    (l : LiveTable) (k : ℕ) (m n : LiveTable) (r s : Result Unit Refusal) → RemoveAnswer l k m r → RemoveAnswer l k n s
    → (m ≡ n) × (r ≡ s)
