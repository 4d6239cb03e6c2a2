-- Where a table of one ring alone is taken (#112): another mark gets 2, after 1, and a table that passes has one ring.
--
--   OtherMark f    file f has a header, with another mark than that of one ring
use mathlib.Core.Path.{◌≡◌, refl}
use mathlib.Core.Logic.{◌≢◌, ⊎_elim, inl, inr}
use mathlib.Core.List.{List, ◌∷◌}
use Prim.Native.Nat.{ℕ, ◌≤◌, ◌<◌}
use native.Mathlib.Omega.{arith}
use lib.ListN.{length}
use Rattle.rules.specs.TableFile.{table_mark, header_size, mark, file_rings}
use Rattle.rules.specs.Refusals.{Check, Answers, short_file, one_ring_checks}
use Rattle.rules.proofs.Answers.{None, Numbered, applied, passed}
use Rattle.table.proofs.Faults.{mark_right, rings_one}

abbrev pub OtherMark : List ℕ → Type 0
OtherMark f = (header_size ≤ length f) × (mark f ≢ table_mark)

module _ (f : List ℕ) where
  -- whatever comes after
  pub other_mark : (cs : List Check) → OtherMark f → Answers (one_ring_checks f cs) 2 0
  other_mark cs w =
      passed _ _ 2 0 (λ (l : length f < header_size). let z : ⊥ = omega (arith, w.0) in z) (applied _ _ 2 0 w.1 refl refl)

  -- any other file is answered as it is where both marks are taken: there, too, 1 comes first
  pub own_mark : (cs : List Check) → (OtherMark f → ⊥) → (n p : ℕ) → Answers (short_file f ∷ cs) n p
      → Answers (one_ring_checks f (short_file f ∷ cs)) n p
  unfolding Answers
  own_mark cs own n p a =
      ⊎_elim (λ w. inl w)
      (λ w.
      let l : header_size ≤ length f = omega (arith, w.0) in
      inr (w.0, inr (λ h. own (l, h), a)))
      a

  module _ (cs : List Check) where
    pub one_numbered : Numbered cs → Numbered (one_ring_checks f cs)
    unfolding Numbered
    one_numbered N = (omega arith, (omega arith, N))

    module _ (none : None (one_ring_checks f cs)) where
      pub one_rest : None cs
      unfolding None
      one_rest = none.1.1

      pub one_rings : file_rings f ≡ 1
      unfolding None
      one_rings = rings_one f (mark_right f (let l = none.0 in omega (arith, l)) none.1.0)
