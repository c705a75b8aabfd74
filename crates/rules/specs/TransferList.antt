-- The list of transfers: where each figure of it stands. No other definition knows a place in the list.
-- [Requests, 1]
use Rattle.std.specs.Prelude.{ℕ, ◌+◌, ◌-◌, ◌*◌, ◌/◌, List}
use Rattle.rules.specs.Fields.{big_endian}
-- An entry: the struct Transfer of src/lib.rt.
pub use Rattle.rules.specs.declared.Transfer.{Transfer}

-- The width of what stands before the entries: the length and the version.
abbrev pub list_front : ℕ
list_front = 5

-- The width of an entry.
abbrev pub entry_width : ℕ
entry_width = 7

-- The length of the whole list, itself included.
unfoldable pub list_length : List ℕ → ℕ
list_length l = big_endian 4 l 0

-- The version.
unfoldable pub list_version : List ℕ → ℕ
list_version l = big_endian 1 l 4

-- How many entries the length leaves room for.
unfoldable pub entries : List ℕ → ℕ
entries l = (list_length l - list_front) / entry_width

-- The entry whose figures begin at a place.
abbrev pub entry_of : List ℕ → ℕ → Transfer
entry_of l at =
    record {
      day = big_endian 1 l at;
      giver = big_endian 1 l (at + 1);
      taker = big_endian 1 l (at + 2);
      amount = big_endian 4 l (at + 3);
    }

-- Entry i.
unfoldable pub entry : List ℕ → ℕ → Transfer
entry l i = entry_of l (list_front + entry_width * i)
