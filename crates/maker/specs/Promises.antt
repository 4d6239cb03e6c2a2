-- What a list that was made promises (#101). The file holds statements only; proofs/Promises proves them of every answer that the contract
-- allows.
--
--   HasEntry l x           entry x stands in list l
--   Exactly t e ws         the list of element e has exactly its moves in the first h words of the plan ws, each once
--   Twice t ws s i         all elements' lists together have the move of row i in slot s twice: received once and sent once
--   AllTwice              this holds of every move
--   MadeExactly           a list that is made has exactly the element's moves
--   MadeFew               it has at most two entries a slot
--   MadePasses            a list that is made passes the list's own checks: as numbers, and as a file
--   FirstWords            only the plan's first h words are looked at
use Rattle.std.specs.Prelude.{◌≡◌, ◌⊎◌, List, ℕ, ◌+◌, ◌*◌, ◌≤◌, ◌<◌, T, take}
use Rattle.numbers.specs.Word.{bit}
use Rattle.numbers.specs.Lists.{at}
use Rattle.rules.specs.Bounds.{max_slots}
use Rattle.rules.specs.Bus.{Table}
use Rattle.rules.specs.TableFile.{file_table}
use Rattle.rules.specs.Loads.{hyperperiod}
use Rattle.rules.specs.ElementList.{
  Entry,
  ElementList,
  move,
  list_header,
  entry_size,
  entry_numbers,
  list_numbers,
  list_bytes,
  moves_list,
  IsMove,
}
use Rattle.rules.specs.Refusals.{Answers, list_file_checks, list_memory_checks}
use Rattle.rules.specs.Calls.{Ask, one_ring_ask, ListMade}

abbrev pub HasEntry : ElementList → Entry → Type 0
HasEntry l x = (k : ℕ) × (k < l.entries) × (l.entry k ≡ x)

pub record Exactly (t : Table) (e : ℕ) (ws : List ℕ) : Type 0 where
  pub moves : (k : ℕ) → k < (moves_list t e ws).entries → IsMove t e ws ((moves_list t e ws).entry k)
  pub all : (x : Entry) → IsMove t e ws x → HasEntry (moves_list t e ws) x
  pub once : (j k : ℕ) → j < (moves_list t e ws).entries → k < (moves_list t e ws).entries
      → (moves_list t e ws).entry j ≡ (moves_list t e ws).entry k → j ≡ k

-- Row i moves in slot s: its second end receives it and its first end sends it, and no other list has it.
pub record Twice (t : Table) (ws : List ℕ) (s i : ℕ) : Type 0 where
  pub received : HasEntry (moves_list t (t.second i) ws) (move s i 0)
  pub sent : HasEntry (moves_list t (t.first i) ws) (move s i 1)
  pub only : (e d : ℕ) → HasEntry (moves_list t e ws) (move s i d) → ((d ≡ 0) × (e ≡ t.second i)) ⊎ ((d ≡ 1) × (e ≡ t.first i))

abbrev pub MadeExactly : Type 0
MadeExactly = (f plan : List ℕ) (e : ℕ) (form : ElementList → List ℕ) (was now : List ℕ) (p h k : ℕ)
    → ListMade (one_ring_ask f) plan e form was now 0 p h k → Exactly (file_table f) e plan

abbrev pub AllTwice : Type 0
AllTwice = (t : Table) (ws : List ℕ) (s i : ℕ) → s < hyperperiod t → i < t.rows → T (bit (at ws s) i) → Twice t ws s i

abbrev pub MadeFew : Type 0
MadeFew = (f plan : List ℕ) (e : ℕ) (form : ElementList → List ℕ) (was now : List ℕ) (p h k : ℕ)
    → ListMade (one_ring_ask f) plan e form was now 0 p h k → (k ≤ 2 * h) × (h ≤ max_slots)

pub record MadePasses : Type 0 where
  pub numbers : (f plan : List ℕ) (e : ℕ) (was now : List ℕ) (p h k : ℕ) → ListMade (one_ring_ask f) plan e list_numbers was now 0 p h k
      → Answers (list_memory_checks e h (take (entry_numbers * k) now)) 0 0
  pub bytes : (f plan : List ℕ) (e : ℕ) (was now : List ℕ) (p h k : ℕ) → ListMade (one_ring_ask f) plan e list_bytes was now 0 p h k
      → Answers (list_file_checks (take (list_header + entry_size * k) now)) 0 0

abbrev pub FirstWords : Type 1
FirstWords = (a : Ask) (plan : List ℕ) (e : ℕ) (form : ElementList → List ℕ) (was now : List ℕ) (n p h k : ℕ)
    → ListMade a plan e form was now n p h k → ListMade a (take (hyperperiod a.table) plan) e form was now n p h k
