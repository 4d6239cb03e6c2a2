-- #101, lists for each element: what a list is, as a file and in memory, and the list of an element's moves in a plan.
--
--   Entry                one move of an element: its slot, its row, and its way, 0 for receive or 1 for send
--   ElementList          the list of one element: how many slots the plan has, and entries numbered from 0
--   list_header           bytes before the first entry
--   entry_size            bytes an entry
--   entry_numbers         numbers an entry, in memory
--   file_list f           the list that a list file holds
--   memory_list e h xs    the list of element e and hyperperiod h whose entries a slice of numbers holds
--   list_numbers l        the numbers of all entries, in memory
--   list_bytes l          the file of a list
--   Rises l k            entry k comes after the one before it: in a later slot, or in the same slot a send after a receive
--   way_moves .. d        the moves of element e in slot s, whose word is w, in one way, d: the rows of w that end there
--   slot_moves t e s w    its moves in that slot: what it receives, then what it sends
--   element_moves t e ws  its moves in the first h words of the plan ws
--   moves_list t e ws     the list of these
--   IsMove t e ws x      entry x is one of these
--   BadWord t w          word w of a plan has two rows that overlap, or a bit past the last row
use Rattle.std.specs.Prelude.{◌≡◌, ◌⊎◌, ◌&&◌, cond, List, [], ◌∷◌, ◌++◌, ℕ, ◌+◌, ◌-◌, ◌*◌, ◌/◌, ◌≤◌, ◌<◌, T, eqb, length, get_or}
use Rattle.numbers.specs.Word.{bit}
use Rattle.numbers.specs.Lists.{at, each}
use Rattle.rules.specs.Bus.{Table, overlap}
use Rattle.rules.specs.TableFile.{read16, write16}
use Rattle.rules.specs.Loads.{hyperperiod}

pub record Entry : Type 0 where
  pub slot : ℕ
  pub row : ℕ
  pub way : ℕ

abbrev pub move : (slot row way : ℕ) → Entry
move slot row way = record { slot = slot; row = row; way = way }

pub record ElementList : Type 0 where
  pub element : ℕ
  pub hyper : ℕ
  pub entries : ℕ
  pub entry : ℕ → Entry

-- ---- the list file: "RBE", version, element (8 bits), hyperperiod (16), then the entries

abbrev pub list_mark : List ℕ
list_mark = 0x52 ∷ 0x42 ∷ 0x45 ∷ []

abbrev pub list_version : ℕ
list_version = 1

abbrev pub list_header : ℕ
list_header = 8

abbrev pub entry_size : ℕ
entry_size = 4

abbrev pub entry_numbers : ℕ
entry_numbers = 3

-- slot (16 bits), row (8), way (8)
abbrev pub file_entry : List ℕ → ℕ → Entry
file_entry f k =
    move (read16 f (list_header + entry_size * k)) (at f (list_header + entry_size * k + 2)) (at f (list_header + entry_size * k + 3))

abbrev pub file_list : List ℕ → ElementList
file_list f = record { element = at f 5; hyper = read16 f 6; entries = (length f - list_header) / entry_size; entry = file_entry f }

-- In memory an entry is three 16-bit numbers.
abbrev pub memory_entry : List ℕ → ℕ → Entry
memory_entry xs k = move (at xs (entry_numbers * k)) (at xs (entry_numbers * k + 1)) (at xs (entry_numbers * k + 2))

abbrev pub memory_list : (element hyper : ℕ) → List ℕ → ElementList
memory_list element hyper xs =
    record { element = element; hyper = hyper; entries = length xs / entry_numbers; entry = memory_entry xs }

abbrev pub in_memory : Entry → List ℕ
in_memory x = x.slot ∷ x.row ∷ x.way ∷ []

unfoldable pub list_numbers : ElementList → List ℕ
list_numbers l = each l.entries (λ k. in_memory (l.entry k))

abbrev pub file_head : (element hyper : ℕ) → List ℕ
file_head element hyper = list_mark ++ write16 list_version ++ (element ∷ []) ++ write16 hyper

abbrev pub in_file : Entry → List ℕ
in_file x = write16 x.slot ++ (x.row ∷ x.way ∷ [])

unfoldable pub list_bytes : ElementList → List ℕ
list_bytes l = file_head l.element l.hyper ++ each l.entries (λ k. in_file (l.entry k))

-- ---- the order of entries

abbrev pub Before : Entry → Entry → Type 0
Before x y = (x.slot < y.slot) ⊎ ((x.slot ≡ y.slot) × (x.way < y.way))

abbrev pub Rises : ElementList → ℕ → Type 0
Rises l k = (k ≡ 0) ⊎ Before (l.entry (k - 1)) (l.entry k)

-- ---- the element's moves

unfoldable pub way_moves : (rows : ℕ) (end : ℕ → ℕ) (e s w d : ℕ) → List Entry
way_moves rows end e s w d = each rows (λ i. cond (bit w i && eqb (end i) e) (move s i d ∷ []) [])

-- A row's first end sends, its second receives.
unfoldable pub slot_moves : Table → (e s w : ℕ) → List Entry
slot_moves t e s w = way_moves t.rows t.second e s w 0 ++ way_moves t.rows t.first e s w 1

unfoldable pub element_moves : Table → ℕ → List ℕ → List Entry
element_moves t e ws = each (hyperperiod t) (λ s. slot_moves t e s (at ws s))

abbrev pub moves_list : Table → ℕ → List ℕ → ElementList
moves_list t e ws = record {
  element = e;
  hyper = hyperperiod t;
  entries = length (element_moves t e ws);
  entry = λ k. get_or (element_moves t e ws) k (move 0 0 0);
}

-- Its row moves in its slot, and ends at the element where it is received, begins there where it is sent.
pub record IsMove (t : Table) (e : ℕ) (ws : List ℕ) (x : Entry) : Type 0 where
  pub slot : x.slot < hyperperiod t
  pub row : x.row < t.rows
  pub moves : T (bit (at ws x.slot) x.row)
  pub end : ((x.way ≡ 0) × (t.second x.row ≡ e)) ⊎ ((x.way ≡ 1) × (t.first x.row ≡ e))

abbrev pub BadWord : Table → ℕ → Type 0
BadWord t w =
    ((i : ℕ) × (t.rows ≤ i) × T (bit w i))
    ⊎ ((i : ℕ) × (j : ℕ) × (i < j) × (j < t.rows) × T (bit w i) × T (bit w j) × T (overlap t i j))
