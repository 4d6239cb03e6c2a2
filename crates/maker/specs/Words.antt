-- The moves of an element in a plan, by words.
--
--   ending_at n ends e  the word of the rows, of n, that end at element e
--   Segmented t xs     all rows run clockwise, as on one ring they do, and xs holds the segments of each row's route
--   picked x s d       an entry for each bit of the word x, in slot s and way d
--   word_moves a b s w  the moves in slot s, whose word is w, where a has the rows that come to the element and b those that leave it
--   plan_moves a b n ws the moves in the first n words of the plan ws
--   AtMostOne x        the word x has at most one bit
--   IsMove x s d r     the word x has one bit, and r is its entry in slot s and way d
--   OneEach a b n ws   each of the first n words has at most one of a and at most one of b
--   Clear p ws         the words that p picks from, of the plan ws, are there, and each has at most one move each way
--   moves_of p ws      the moves that p picks in the plan ws
--   flat g xs          g of each entry of xs, joined
--   PutMoves g xs p was now n m   the entries xs, n before them and m then, stand from place p on, each as g has it
--   LowestBad t ws n r r is the lowest of the first n slots whose word is bad, and n where none is
use Rattle.std.specs.Prelude.{◌≡◌, cond, List, [], ◌∷◌, ◌++◌, ℕ, ◌+◌, ◌≤◌, ◌<◌, T, eqb, length}
use Rattle.std.specs.Int.Bits.{bit_and}
use Rattle.std.proofs.lemmas.List.Edits.{sets}
use Rattle.numbers.specs.Word.{bit, word}
use Rattle.numbers.specs.Lists.{at, each}
use Rattle.rules.specs.Bounds.{max_rows, max_slots}
use Rattle.rules.specs.Bus.{Table, clockwise}
use Rattle.rules.specs.ElementList.{Entry, move, BadWord}
use Rattle.ring.specs.Route.{row_segments}
use Rattle.lists.specs.declared.Entry.{Entry as Place}
use Rattle.lists.specs.Entries.{entry_of}
use Rattle.maker.specs.declared.moves.Picks.{Picks}

abbrev pub ending_at : (n : ℕ) (ends : ℕ → ℕ) (e : ℕ) → ℕ
ending_at n ends e = word n (λ i. eqb (ends i) e)

pub record Segmented (t : Table) (xs : List ℕ) : Type 0 where
  pub way : (i : ℕ) → i < t.rows → t.way i ≡ clockwise
  pub row : (i : ℕ) → i < t.rows → at xs i ≡ row_segments t.elements (t.way i) (t.first i) (t.second i)

unfoldable pub picked : (x s d : ℕ) → List Entry
picked x s d = each max_rows (λ i. cond (bit x i) (move s i d ∷ []) [])

abbrev pub word_moves : (a b s w : ℕ) → List Entry
word_moves a b s w = picked (bit_and w a) s 0 ++ picked (bit_and w b) s 1

abbrev pub plan_moves : (a b n : ℕ) (ws : List ℕ) → List Entry
plan_moves a b n ws = each n (λ s. word_moves a b s (at ws s))

abbrev pub AtMostOne : ℕ → Type 0
AtMostOne x = (i j : ℕ) → T (bit x i) → T (bit x j) → i ≡ j

pub record IsMove (x s d : ℕ) (r : Place) : Type 0 where
  pub one : picked x s d ≡ entry_of r ∷ []
  pub row : r.row < max_rows
  pub way : r.way ≡ d

pub record OneEach (a b n : ℕ) (ws : List ℕ) : Type 0 where
  pub into : (s : ℕ) → s < n → AtMostOne (bit_and (at ws s) a)
  pub from : (s : ℕ) → s < n → AtMostOne (bit_and (at ws s) b)

pub record Clear (p : Picks) (ws : List ℕ) : Type 0 where
  pub long : p.hyper ≤ length ws
  pub short : p.hyper ≤ max_slots
  pub each : OneEach p.into p.from p.hyper ws

abbrev pub moves_of : Picks → List ℕ → List Entry
moves_of p ws = plan_moves p.into p.from p.hyper ws

unfoldable pub flat : (Entry → List ℕ) → List Entry → List ℕ
flat g [] = []
flat g (x ∷ xs) = g x ++ flat g xs

pub record PutMoves (g : Entry → List ℕ) (xs : List Entry) (p : ℕ) (was now : List ℕ) (n m : ℕ) : Type 0 where
  pub holds : now ≡ sets was p (flat g xs)
  pub count : m ≡ n + length xs

pub record LowestBad (t : Table) (ws : List ℕ) (n r : ℕ) : Type 0 where
  pub most : r ≤ n
  pub none : (s : ℕ) → s < r → BadWord t (at ws s) → ⊥
  pub bad : r < n → BadWord t (at ws r)
