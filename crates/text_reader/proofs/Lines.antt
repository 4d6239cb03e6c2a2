-- What is refused of one line, step by step: its fields, the heading, a row.
use mathlib.Core.Path.{◌≡◌, refl, sym, ap, subst, ◌∙◌}
use mathlib.Core.Logic.{inl, inr, ⊎_elim, ◌≢◌}
use mathlib.Core.Bool.{Bool, true, false, ◌&&◌, cond}
use mathlib.Core.List.{List, [], ◌∷◌, ◌++◌}
use Prim.Native.Nat.{ℕ, suc, ◌+◌, ◌-◌, ◌≤◌, ◌<◌}
use native.Mathlib.Nat.{add-zero}
use native.Mathlib.Omega.{arith}
use lib.Dec.{leb}
use lib.ListN.{length, take, drop, set, length-set}
use lib.Seq.{get_or-take, get_or-drop, get_or-set_same, get_or-set_other}
use Rattle.numbers.specs.Lists.{at, each}
use Rattle.numbers.proofs.Finite.{below}
use Rattle.rules.specs.Bounds.{max_rows}
use Rattle.rules.specs.Bus.{Labelled}
use Rattle.rules.specs.TableFile.{way_in, label_in}
use Rattle.rules.specs.Refusals.{Check, Answers, faults, refuse, wrong_elements}
use Rattle.rules.proofs.Answers.{None, Numbered, applied, passed, done, stopped, joined, answered, none_of, none_next}
use Rattle.rules.proofs.Answers.{stopped_at}
use Rattle.rules.proofs.Answers.{numbered_join, numbered_each, answers_only}
use Rattle.table.specs.declared.Row.{Row}
use Rattle.table.specs.Rows.{IsRow, single, sized}
use Rattle.table.proofs.Faults.{row_found, row_clean}
use Rattle.grammar.specs.TableText.{Part, field, last, number, placed, no_heading, missing_field, spare_field, number_checks}
use Rattle.grammar.specs.TableText.{row_table, needed}
use Rattle.grammar.specs.TableText.{heading_checks, form_checks, value_checks, text_row_checks}
use Rattle.text_reader.specs.declared.fields.Span.{Span}
use Rattle.std.specs.Prelude.{Result, Ok, Err}
use Rattle.text_reader.specs.Faults.{number_of}
use Rattle.text_reader.specs.declared.faults.Fault.{Fault}
use Rattle.text_reader.proofs.Wrongs.{not_done}
use Rattle.text_reader.specs.Walk.{spanned, IsField, IsCell}
use Rattle.text_reader.specs.Reading.{IsRowOf, in_ring, blame}

-- ---- a field

pub field_start : {l : Part} {k : ℕ} {r : Span} → IsField l k r → l.start + r.start ≡ (field l k).start
field_start f = sym (ap (λ (q : Part). q.start) f.is)

pub field_cell : {l : Part} {k : ℕ} {r : Span} {c : Result ℕ Fault} → IsField l k r → IsCell (spanned l r) c → IsCell (field l k) c
field_cell {c = c} f h = subst (λ (q : Part). IsCell q c) (sym f.is) h

-- the first byte of the first field
pub first_none : {l : Part} {r : Span} → IsField l 0 r → r.start ≡ r.end → at (field l 0).bytes 0 ≡ 0
first_none {l} {r} f e =
    let z : r.end - r.start ≡ 0 = omega (arith, e) in
    ap (λ (q : Part). at q.bytes 0) f.is ∙ ap (λ (j : ℕ). at (take j (drop r.start l.bytes)) 0) z

pub first_byte : {l : Part} {r : Span} → IsField l 0 r → r.start < r.end → at (field l 0).bytes 0 ≡ at l.bytes r.start
first_byte {l} {r} f g =
    ap (λ (q : Part). at q.bytes 0) f.is ∙ get_or-take (r.end - r.start) (drop r.start l.bytes) 0 0 (omega arith)
    ∙ get_or-drop r.start l.bytes 0 0 ∙ ap (at l.bytes) (add-zero r.start)

pub empty_of : (xs : List ℕ) → (xs ≢ [] → ⊥) → xs ≡ []
empty_of [] h = refl
empty_of (x ∷ xs) h = absurd (h (λ e. let z : suc (length xs) ≡ 0 = ap length e in let w : ⊥ = omega (arith, z) in w))

-- ---- no refusal has the number 0

pub numbers_numbered : (q : Part) → Numbered (number_checks q)
unfolding Numbered
numbers_numbered q = omega arith

pub shape_numbered : (a b : Part) → Numbered (missing_field a ∷ spare_field b ∷ [])
unfolding Numbered
shape_numbered a b = omega arith

-- ---- the form of a line

module _ (a b : Part) where
  pub shape_missing : (n p : ℕ) → n ≡ 37 → p ≡ a.start → (a.bytes ≢ [] → ⊥) → Answers (missing_field a ∷ spare_field b ∷ []) n p
  shape_missing n p e q h = applied (missing_field a) (spare_field b ∷ []) n p (empty_of a.bytes h) e q

  pub shape_spare : (n p : ℕ) → n ≡ 38 → p ≡ b.start → a.bytes ≢ [] → b.bytes ≢ [] → Answers (missing_field a ∷ spare_field b ∷ []) n p
  shape_spare n p e q h g =
      passed (missing_field a) (spare_field b ∷ []) n p h (applied (spare_field b) [] n p g e q)

  pub shape_right : a.bytes ≢ [] → (b.bytes ≢ [] → ⊥) → Answers (missing_field a ∷ spare_field b ∷ []) 0 0
  shape_right h g = passed (missing_field a) (spare_field b ∷ []) 0 0 h (passed (spare_field b) [] 0 0 g done)

-- ---- the heading

module _ (l : Part) where
  abbrev shape : List Check
  shape = missing_field (field l 1) ∷ spare_field (field l 2) ∷ []

  abbrev size : Check
  size = placed (field l 1).start (wrong_elements (row_table 1 (number (field l 1)) l))

  pub heading_none : (n p : ℕ) → n ≡ 36 → p ≡ (field l 0).start → (no_heading l).applies → Answers (heading_checks l) n p
  unfolding heading_checks
  heading_none n p e q h = applied (no_heading l) _ n p h e q

  module _ (word : (no_heading l).applies → ⊥) where
    pub heading_cell : (n p : ℕ) → n ≢ 0 → Answers (number_checks (field l 1)) n p → Answers (heading_checks l) n p
    unfolding heading_checks
    heading_cell n p h a = passed (no_heading l) _ n p word (stopped (number_checks (field l 1)) (shape ++ (size ∷ [])) n p h a)

    module _ (cell : None (number_checks (field l 1))) where
      pub heading_shape : (n p : ℕ) → n ≢ 0 → Answers shape n p → Answers (heading_checks l) n p
      unfolding heading_checks
      heading_shape n p h a =
          passed (no_heading l) _ n p word
          (joined (number_checks (field l 1)) (shape ++ (size ∷ [])) n p cell (stopped shape (size ∷ []) n p h a))

      pub heading_rest : (n p : ℕ) → None shape → Answers (size ∷ []) n p → Answers (heading_checks l) n p
      unfolding heading_checks
      heading_rest n p s a =
          passed (no_heading l) _ n p word
          (joined (number_checks (field l 1)) (shape ++ (size ∷ [])) n p cell (joined shape (size ∷ []) n p s a))

      -- the number x in its field is too small or too large, or it is neither
      module _ (form : None (missing_field (field l 1) ∷ spare_field (field l 2) ∷ [])) (x : ℕ) (e : x ≡ number (field l 1)) where
        pub heading_wrong : (n p : ℕ) → n ≡ 4 → p ≡ (field l 1).start → (wrong_elements (sized x 1)).applies
            → Answers (heading_checks l) n p
        heading_wrong n p a b w =
            heading_rest n p form
            (applied size [] n p (subst (λ (y : ℕ). (wrong_elements (sized y 1)).applies) e w) a b)

        pub heading_right : ((wrong_elements (sized x 1)).applies → ⊥) → Answers (heading_checks l) 0 0
        heading_right w =
            heading_rest 0 0 form
            (passed size [] 0 0 (λ h. w (subst (λ (y : ℕ). (wrong_elements (sized y 1)).applies) (sym e) h)) done)

-- ---- the first cells of a row

-- fields below k hold the numbers of xs
pub record Celled (l : Part) (k : ℕ) (xs : List ℕ) : Type 0 where
  pub few : k ≤ 4
  pub size : length xs ≡ 4
  pub none : None (each k (λ j. number_checks (field l j)))
  pub value : (j : ℕ) → j < k → at xs j ≡ number (field l j)

pub celled_start : (l : Part) (xs : List ℕ) → length xs ≡ 4 → Celled l 0 xs
unfolding each None
celled_start l xs e = record { few = omega arith; size = e; none = tt; value = λ j m. absurd (let z : ⊥ = omega arith in z) }

module _ {l : Part} {k : ℕ} {xs : List ℕ} (C : Celled l k xs) (room : k < 4) where
  pub celled_next : (v : ℕ) → IsCell (field l k) (Ok v) → Celled l (k + 1) (set xs k v)
  celled_next v h = record {
    few = omega arith;
    size = length-set xs k v ∙ C.size;
    none =
        none_next (λ j. number_checks (field l j)) k C.none
        (none_of (number_checks (field l k)) 0 (numbers_numbered (field l k)) h.answers);
    value = λ j m.
        ⊎_elim
        (λ (q : j ≡ k). rw q (get_or-set_same xs k v 0 (omega (arith, C.size)) ∙ h.value))
        (λ (g : j < k). get_or-set_other xs k j v 0 (λ z. let w : ⊥ = omega (arith, z, g) in w) ∙ C.value j g)
        (below (let g : j < suc k = omega arith in g));
  }

  pub celled_stop : (f : Fault) → IsCell (field l k) (Err f) → Answers (each 4 (λ j. number_checks (field l j))) (number_of f.wrong) f.place
  celled_stop f h = stopped_at (λ j. number_checks (field l j)) 4 k (number_of f.wrong) f.place room (not_done f.wrong) C.none h.answers

pub celled_all : {l : Part} {k : ℕ} {xs : List ℕ} → Celled l k xs → 4 ≤ k
    → None (each 4 (λ j. number_checks (field l j))) × ((j : ℕ) → j < 4 → at xs j ≡ number (field l j))
celled_all {l} {k} {xs} C g =
    let e : k ≡ 4 = omega (arith, C.few) in
    (rw e at C.none, λ j m. C.value j (omega arith))

-- ---- the form of a row

pub cells_numbered : (l : Part) → Numbered (each 4 (λ j. number_checks (field l j)))
cells_numbered l = numbered_each (λ j. number_checks (field l j)) 4 (λ j. numbers_numbered (field l j))

module _ (k : ℕ) (l : Part) where
  abbrev cells : List Check
  cells = each 4 (λ j. number_checks (field l j))

  abbrev ends : List Check
  ends = missing_field (field l (needed k)) ∷ spare_field (field l 5) ∷ []

  pub form_cells : (n p : ℕ) → n ≢ 0 → Answers (each 4 (λ j. number_checks (field l j))) n p → Answers (form_checks k l) n p
  unfolding form_checks
  form_cells n p h a = stopped cells (number_checks (last l) ++ ends) n p h a

  module _ (c : None (each 4 (λ j. number_checks (field l j)))) where
    pub form_last : (n p : ℕ) → n ≢ 0 → Answers (number_checks (last l)) n p → Answers (form_checks k l) n p
    unfolding form_checks
    form_last n p h a = joined cells (number_checks (last l) ++ ends) n p c (stopped (number_checks (last l)) ends n p h a)

    pub form_ends : (n p : ℕ) → None (number_checks (last l))
        → Answers (missing_field (field l (needed k)) ∷ spare_field (field l 5) ∷ []) n p → Answers (form_checks k l) n p
    unfolding form_checks
    form_ends n p a b = joined cells (number_checks (last l) ++ ends) n p c (joined (number_checks (last l)) ends n p a b)

  pub form_numbered : Numbered (form_checks k l)
  unfolding form_checks
  form_numbered =
      numbered_join cells (number_checks (last l) ++ ends) (cells_numbered l)
      (numbered_join (number_checks (last l)) ends (numbers_numbered (last l)) (shape_numbered (field l (needed k)) (field l 5)))

-- ---- 7 to 9 and 26

module _ (k M : ℕ) (l : Part) (r : Row) (q : IsRowOf l r) where
  abbrev t : Labelled
  t = record { table = row_table k M l; label = λ i. label_in k (number (last l)) }

  is_row : IsRow t 0 (in_ring k r)
  is_row = record {
    cost = q.cost;
    period = q.period;
    first = q.first;
    second = q.second;
    way = ap (way_in k) q.label;
    label = ap (label_in k) q.label;
  }

  pub values_right : Answers (faults (single M k (in_ring k r)) 0) 0 0 → None (value_checks k M l)
  unfolding value_checks None
  values_right a = let c = row_clean M k (in_ring k r) t 0 refl refl is_row a in (c.0, (c.1.0, (c.1.1.0, (c.1.1.1.0, tt))))

  end_place : (b : Bool) → (field l (cond b 3 2)).start ≡ (cond b (field l 3) (field l 2)).start
  end_place true = refl
  end_place false = refl

  pub values_wrong : (n : ℕ) → n ≢ 0 → Answers (faults (single M k (in_ring k r)) 0) n 0
      → Answers (value_checks k M l) n (field l (blame n M r.first)).start
  unfolding value_checks Answers
  values_wrong n h a =
      rw q.first
      (⊎_elim
      (λ w. inl (w.0, w.1, told w.1 ∙ end_place (leb 1 x && leb x M)))
      (λ v. inr (
        v.0,
        ⊎_elim
            (λ w. inl (w.0, w.1, told w.1))
            (λ u. inr (
              u.0,
              ⊎_elim
                  (λ w. inl (w.0, w.1, told w.1))
                  (λ s. inr (s.0, ⊎_elim (λ w. inl (w.0, w.1, told w.1)) (λ z. absurd (h z.1.0)) s.1))
                  u.1,
            ))
            v.1,
      ))
      (row_found M k n (in_ring k r) t 0 refl refl is_row h a))
    where
      x : ℕ
      x = number (field l 2)

      told : {m : ℕ} → n ≡ m → (field l (blame n M x)).start ≡ (field l (blame m M x)).start
      told e = ap (λ (j : ℕ). (field l (blame j M x)).start) e

pub values_numbered : (k M : ℕ) (l : Part) → Numbered (value_checks k M l)
unfolding value_checks Numbered
values_numbered k M l = omega arith

-- ---- a row

module _ (k M : ℕ) (l : Part) (i : ℕ) where
  abbrev many : Check
  many = refuse 5 (field l 0).start (max_rows ≤ i)

  pub row_many : (n p : ℕ) → max_rows ≤ i → n ≡ 5 → p ≡ (field l 0).start → Answers (text_row_checks k M l i) n p
  unfolding text_row_checks
  row_many n p h e q = applied many _ n p h e q

  module _ (few : i < max_rows) where
    fits : many.applies → ⊥
    fits h = let z : ⊥ = omega (arith, h) in z

    pub row_form : (n p : ℕ) → n ≢ 0 → Answers (form_checks k l) n p → Answers (text_row_checks k M l i) n p
    unfolding text_row_checks
    row_form n p h a = passed many _ n p fits (stopped (form_checks k l) (value_checks k M l) n p h a)

    pub row_values : (n p : ℕ) → None (form_checks k l) → Answers (value_checks k M l) n p → Answers (text_row_checks k M l i) n p
    unfolding text_row_checks
    row_values n p a b = passed many _ n p fits (joined (form_checks k l) (value_checks k M l) n p a b)

  pub row_numbered : Numbered (text_row_checks k M l i)
  unfolding text_row_checks Numbered
  row_numbered = (omega arith, numbered_join (form_checks k l) (value_checks k M l) (form_numbered k l) (values_numbered k M l))

  -- nothing is refused
  pub row_done : (n p m q : ℕ) → i < max_rows → n ≡ 0 → Answers (form_checks k l) n p → m ≡ 0 → Answers (value_checks k M l) m q
      → Answers (text_row_checks k M l i) n p
  row_done n p m q few e a z b =
      let c : None (form_checks k l) = none_of (form_checks k l) p (form_numbered k l) (rw e at a) in
      let d : None (value_checks k M l) = none_of (value_checks k M l) q (values_numbered k M l) (rw z at b) in
      let f = answers_only (form_checks k l) n 0 p 0 a (answered (form_checks k l) c) in
      rw (f.0, f.1) (row_values few 0 0 c (answered (value_checks k M l) d))
