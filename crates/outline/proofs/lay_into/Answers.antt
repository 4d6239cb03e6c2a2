-- Each refusal stands as its check gives it, and what is left is found.
use Rattle.std.proofs.Common.{◌≡◌, ◌+◌, ◌≤◌, ℕ, cond, ltb, refl, sym, ◌∙◌, arith}
use Rattle.rules.specs.Bus.{Table, clockwise, counterclockwise}
use Rattle.rules.specs.Line.{cut, HasCuts}
use Rattle.table.specs.Sound.{Sound}
use Rattle.ring.specs.Route.{Element}
use Rattle.ring.specs.Rows.{on_ring}
use Rattle.ring.proofs.Rows.{sound_routes, sound_one_way, laid_first, laid_second}
use Rattle.time.proofs.Periods.{clocks_timed, clocks_long}
use Rattle.outline.specs.Layout.{table_with}
use Rattle.outline.proofs.Outlined.{long_refused}
use Rattle.outline.proofs.Cuts.{cut_searched, uncut_refused, all_cut, cut_element, other_element, cut_board}
use Rattle.outline.proofs.Laying.{laid_found}
use Rattle.outline.proofs.lay_into.Goals as goal

module _ {t : Table} (s : Sound t) where
  -- what is searched for, on the rings that there are
  abbrev sought : ℕ → ℕ
  sought d = cond (ltb d t.rings) (cut (on_ring t.elements t.rows t.first t.second t.way) d) 1

  abbrev Found : ℕ → ℕ → Type 0
  Found d x = (x ≡ sought d) × (1 ≤ t.elements → x ≤ t.elements)

  none : (d : ℕ) → sought d ≡ t.elements + 1 → cut t d ≡ t.elements + 1
  none d e = sym (cut_searched s d refl) ∙ e

  high : {x : ℕ} → (1 ≤ t.elements → x ≤ t.elements) → x ≤ t.elements
  high l = l (omega (arith, s.elements_low))

  -- past the first check each ring has a cut
  module _ {x y : ℕ} (F : Found clockwise x) (G : Found counterclockwise y) where
    has_cuts : HasCuts t
    has_cuts = all_cut s (cut_searched s clockwise F.0) (cut_searched s counterclockwise G.0) (high F.1) (high G.1)

    has_cut : Element t.elements x
    has_cut = cut_element s (cut_searched s clockwise F.0) (cut_searched s counterclockwise G.0) (high F.1) (high G.1)

    has_other : Element t.elements y
    has_other = other_element s (cut_searched s clockwise F.0) (cut_searched s counterclockwise G.0) (high F.1) (high G.1)

pub returns-in_default : goal.returns-in_default
returns-in_default c cost s = record {
  answers =
      rw (c.at.ensures.0, c.at.ensures.1)
      (uncut_refused s clockwise (none s clockwise c.in_default.ensures) (λ e l. absurd (let z : ⊥ = omega arith in z)));
  found = tt;
  kept = refl;
}

pub returns-in_default-cut_on : goal.returns-in_default-cut_on
returns-in_default-cut_on c cost s =
    let t = table_with cost c.args.table.now in record {
      answers =
          rw (c.at-in_default-cut_on.ensures.0, c.at-in_default-cut_on.ensures.1)
          (uncut_refused s counterclockwise (none s counterclockwise c.in_default-cut_on.ensures)
          (λ e l.
          let z : e ≡ clockwise = omega arith in
          rw z (rw (cut_searched s clockwise c.in-Some.ensures.0) at (high s c.in-Some.ensures.1))));
      found = tt;
      kept = refl;
    }

pub returns-then-time-eq0 : goal.returns-then-time-eq0
returns-then-time-eq0 c cost s =
    let t = table_with cost c.args.table.now in
    rw c.from.ensures (record {
      answers =
          long_refused t (has_cuts s c.in-Some.ensures c.in-Some-cut_on.ensures) (clocks_long s c.of-time.ensures c.if-time-eq0.true);
      found = tt;
      kept = refl;
    })

pub board_cut-requires : goal.board_cut-requires
board_cut-requires c =
    let s = c.requires.1 in
    (s.rows_high, s.elements_high, has_cut s c.in-Some.ensures c.in-Some-cut_on.ensures)

pub board_cut-requires-2 : goal.board_cut-requires-2
board_cut-requires-2 c =
    let s = c.requires.1 in
    (s.rows_high, s.elements_high, has_other s c.in-Some.ensures c.in-Some-cut_on.ensures)

pub lay-requires : goal.lay-requires
lay-requires c =
    let s = c.requires.1 in (
      record { routes = sound_routes s; one_way = sound_one_way s },
      has_cut s c.in-Some.ensures c.in-Some-cut_on.ensures,
      has_other s c.in-Some.ensures c.in-Some-cut_on.ensures,
    )

pub returns : goal.returns
returns c cost s =
    let t = table_with cost c.args.table.now in
    let q = cut_searched s clockwise c.in-Some.ensures.0 in
    let o = cut_searched s counterclockwise c.in-Some-cut_on.ensures.0 in
    laid_found t
    (record {
      timed = clocks_timed s c.of-time.ensures c.if-time-eq0.false;
      clear = has_cuts s c.in-Some.ensures c.in-Some-cut_on.ensures;
      cut = cut_board s clockwise q c.board_cut.ensures;
      other = cut_board s counterclockwise o c.board_cut-2.ensures;
      top = refl;
      first = laid_first t (sound_routes s).ways q o c.lay.ensures;
      second = laid_second t (sound_routes s).ways q o c.lay.ensures;
    })
