-- Document 01, "The program and one whole output": its lines as bytes. All numbers are decimal.
--
--   letters s      the bytes of a word
--   digit d        the byte of a digit
--   decimal n      the digits of n, with no 0 before them
--   Line           a word, and numbers
--   says s xs      the line of the word s and the numbers xs
--   fields xs      a space and a number, for each of xs
--   text_of l       a line's bytes: its word, its numbers, and a newline
--   text ls        the bytes of lines, in order
--
-- `decimal n` is the one text that is plain and has the value n (crate `decimal`, specs/Plain).
use Rattle.std.specs.Prelude.{List, [], ◌∷◌, ◌++◌, cond, ℕ, zero, suc, ◌+◌, ◌/◌, ◌%◌, ltb, length}
use Prim.Native.Char.{code}
use Prim.Native.String.{String, [] as empty, ◌∷◌ as ◌then◌}
use Rattle.numbers.specs.Lists.{at, each}

abbrev pub letters : String → List ℕ
letters empty = []
letters (c then s) = code c ∷ letters s

abbrev pub zero_byte : ℕ
zero_byte = 0x30

abbrev pub digit : ℕ → ℕ
digit d = zero_byte + d

-- the last k digits of n, fewer where n has fewer
unfoldable pub spell : ℕ → ℕ → List ℕ
spell zero n = []
spell (suc k) n = cond (ltb n 10) (digit n ∷ []) (spell k (n / 10) ++ (digit (n % 10) ∷ []))

-- no number has more digits than itself and one
unfoldable pub decimal : ℕ → List ℕ
decimal n = spell (suc n) n

pub record Line : Type 0 where
  pub word : List ℕ
  pub numbers : List ℕ

abbrev pub says : String → List ℕ → Line
says s xs = record { word = letters s; numbers = xs }

abbrev pub space : ℕ
space = 0x20

abbrev pub newline : ℕ
newline = 0x0A

abbrev pub fields : List ℕ → List ℕ
fields xs = each (length xs) (λ k. space ∷ decimal (at xs k))

abbrev pub text_of : Line → List ℕ
text_of l = l.word ++ (fields l.numbers ++ (newline ∷ []))

unfoldable pub text : List Line → List ℕ
text [] = []
text (l ∷ ls) = text_of l ++ text ls
