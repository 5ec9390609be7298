-- Many queries at once: rows of 12 bytes, and slots for the numbers of their answers.
--     long_at b at          the 4-byte number at a place, big-endian
--     query_at b at         the query in the 12 bytes at a place: source, destination, class and action, each big-endian, and the
--                          switch word last (request [6])
--     numbers_from l b k at   the numbers of the answers to k rows from a place on, on the image l
--     numbers l b          the numbers of the answers to the whole rows of b, one after the other, on the image l
--     rows_in b n           how many rows are answered where there are n slots: the whole rows, at most n
--     answered l b slots   the slots afterwards: the rows' numbers from the first slot on, and every other slot as it was
--     row_at b k            the 12 bytes of row k
--     query_bytes q         the 12 bytes of a query; QueryFits q: its fields are of 16 bits, its word of 32
-- What is claimed of them, and proved in proofs/.
--     QueryRead            a query is read back from its bytes; and one from bytes written out by hand, the word last
--     RowsAnswered         the slot of a row that is answered holds the number of the answer to it
--     SlotsStay            every other slot is as it was, and there are as many
--     RowsWhole            every whole row is answered where there are slots enough, else as many as there are slots
--     RowAlone             a row's number is that of its 12 bytes, whatever its place, the other rows and the slots
use Rattle.std.specs.Prelude.{ℕ, zero, suc, ◌+◌, ◌*◌, ◌/◌, ◌%◌, ◌<◌, ◌≤◌, min, ◌≡◌, List, [], ◌∷◌, ◌++◌, length, get_or, take, drop}
use Rattle.format.specs.Bytes.{word_at, put_word}
use Rattle.decision.specs.declared.Query.{Query}
use Rattle.decision.specs.Decide.{answer, query_of}
use Rattle.decision.specs.Numbers.{decision_code}

abbrev pub long_at : List ℕ → ℕ → ℕ
long_at b at = word_at b at * 65536 + word_at b (at + 2)

abbrev pub query_at : List ℕ → ℕ → Query
query_at b at = query_of (word_at b at) (word_at b (at + 2)) (word_at b (at + 4)) (word_at b (at + 6)) (long_at b (at + 8))

unfoldable pub numbers_from : List ℕ → List ℕ → ℕ → ℕ → List ℕ
numbers_from l b zero at = []
numbers_from l b (suc k) at = decision_code (answer l (query_at b at)) ∷ numbers_from l b k (at + 12)

unfoldable pub numbers : List ℕ → List ℕ → List ℕ
numbers l b = numbers_from l b (length b / 12) 0

abbrev pub rows_in : List ℕ → ℕ → ℕ
rows_in b n = min (length b / 12) n

unfoldable pub answered : List ℕ → List ℕ → List ℕ → List ℕ
answered l b slots = take (rows_in b (length slots)) (numbers l b) ++ drop (rows_in b (length slots)) slots

abbrev pub row_at : List ℕ → ℕ → List ℕ
row_at b k = take 12 (drop (12 * k) b)

unfoldable pub query_bytes : Query → List ℕ
query_bytes q =
    put_word q.source (put_word q.dest (put_word q.class (put_word q.action
    (put_word (q.switches / 65536) (put_word (q.switches % 65536) [])))))

pub record QueryFits (q : Query) : Type 0 where
  pub source : q.source < 65536
  pub dest : q.dest < 65536
  pub class : q.class < 65536
  pub action : q.action < 65536
  pub switches : q.switches < 4294967296

pub record QueryRead : Type 0 where
  pub back : (q : Query) → QueryFits q → query_at (query_bytes q) 0 ≡ q
  pub by_hand : query_at (0 ∷ 10 ∷ 128 ∷ 1 ∷ 0 ∷ 5 ∷ 1 ∷ 0 ∷ 128 ∷ 64 ∷ 32 ∷ 1 ∷ []) 0 ≡ query_of 10 0x8001 5 256 0x80402001

abbrev pub RowsAnswered : Type 0
RowsAnswered =
    (l b slots : List ℕ) (k : ℕ) → k < rows_in b (length slots)
    → get_or (answered l b slots) k 0 ≡ decision_code (answer l (query_at b (12 * k)))

abbrev pub SlotsStay : Type 0
SlotsStay =
    (l b slots : List ℕ)
    → (length (answered l b slots) ≡ length slots)
    × ((k : ℕ) → rows_in b (length slots) ≤ k → get_or (answered l b slots) k 0 ≡ get_or slots k 0)

abbrev pub RowsWhole : Type 0
RowsWhole = (b : List ℕ) (n : ℕ) → (length b / 12 ≤ n → rows_in b n ≡ length b / 12) × (n ≤ length b / 12 → rows_in b n ≡ n)

abbrev pub RowAlone : Type 0
RowAlone =
    (l b b' slots slots' : List ℕ) (k k' : ℕ) → k < rows_in b (length slots) → k' < rows_in b' (length slots')
    → row_at b k ≡ row_at b' k' → get_or (answered l b slots) k 0 ≡ get_or (answered l b' slots') k' 0
