-- Fields: unsigned and big-endian, one definition for every width. [Units and the sheet]
use Rattle.std.specs.Prelude.{
  ℕ,
  zero,
  suc,
  ◌+◌,
  ◌*◌,
  ◌/◌,
  ◌%◌,
  List,
  [],
  ◌∷◌,
  ◌++◌,
  length,
  get_or,
  take,
  drop,
}
use Rattle.rules.specs.Range.{listed}

-- The number in the w bytes of s from place at; a byte past the end counts as 0.
unfoldable pub big_endian : ℕ → List ℕ → ℕ → ℕ
big_endian zero s at = 0
big_endian (suc w) s at = big_endian w s at * 256 + get_or s (at + w) 0

-- The n bytes of s from place at on; a byte past the end counts as 0.
unfoldable pub bytes_from : List ℕ → ℕ → ℕ → List ℕ
bytes_from s at n = listed (λ i. get_or s (at + i) 0) n

-- v in w bytes.
unfoldable pub bytes_of : ℕ → ℕ → List ℕ
bytes_of zero v = []
bytes_of (suc w) v = bytes_of w (v / 256) ++ (v % 256 ∷ [])

-- A field to be written: its width in bytes, and the figure.
pub record Field : Type 0 where
  pub width : ℕ
  pub figure : ℕ

abbrev pub field : ℕ → ℕ → Field
field width figure = record { width = width; figure = figure }

-- Fields one after the other.
unfoldable pub laid : List Field → List ℕ
laid [] = []
laid (f ∷ fs) = bytes_of f.width f.figure ++ laid fs

-- The bytes that they take.
unfoldable pub width_of : List Field → ℕ
width_of [] = 0
width_of (f ∷ fs) = f.width + width_of fs

-- Records f 0, f 1, .., f (n - 1) one after the other.
unfoldable pub joined : (ℕ → List ℕ) → ℕ → List ℕ
joined f zero = []
joined f (suc n) = joined f n ++ f n

-- A buffer's bytes after p was written from its beginning: those past p are what they were.
unfoldable pub over : List ℕ → List ℕ → List ℕ
over p buffer = p ++ drop (length p) buffer

-- After p was written from a place on: all other bytes are what they were.
unfoldable pub over_at : ℕ → List ℕ → List ℕ → List ℕ
over_at at p buffer = take at buffer ++ over p (drop at buffer)
