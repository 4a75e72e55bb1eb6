-- The file (01, "The file"; 02, Wish 4): its versions, lengths, places and limits are named here, and nowhere else.
use Rattle.std.specs.Prelude.{ℕ, zero, suc, ◌+◌, ◌*◌, ◌-◌, ◌/◌, ◌%◌, ◌<◌, Bool, cond, ◌||◌, List, [], ◌∷◌, ◌++◌, leb, eqb, get_or, length, drop}
use Rattle.policy.specs.declared.entry.Entry.{Entry}
use Rattle.policy.specs.Box.{Range, range}

-- the versions: 1, and 2, whose records have a direction
abbrev pub is_version : ℕ → Bool
is_version v = eqb v 1 || eqb v 2

-- the version of merged and installed files
abbrev pub merged_version : ℕ
merged_version = 2

-- the bytes before the records: the length (2), the version (1), the number of entries (2)
abbrev pub head_size : ℕ
head_size = 5

-- the bytes of a record in a file of a version: 28 in version 1, 30 in version 2
abbrev pub record_size : ℕ → ℕ
record_size v = cond (eqb v 1) 28 30

-- how long a file of n entries is
abbrev pub file_size : ℕ → ℕ → ℕ
file_size v n = head_size + record_size v * n

-- the most entries of a filed list, and of any other
abbrev pub filed_limit : ℕ
filed_limit = 32

abbrev pub list_limit : ℕ
list_limit = 256

-- ---- from bytes

-- every byte of a slice is below 256
abbrev pub Bytes : List ℕ → Type 0
Bytes s = (i : ℕ) → get_or s i 0 < 256

-- the number of 2 or 4 bytes at a place, the highest byte first
abbrev pub number2 : List ℕ → ℕ → ℕ
number2 s at = get_or s at 0 * 256 + get_or s (at + 1) 0

abbrev pub number4 : List ℕ → ℕ → ℕ
number4 s at = ((get_or s at 0 * 256 + get_or s (at + 1) 0) * 256 + get_or s (at + 2) 0) * 256 + get_or s (at + 3) 0

-- 01's L, the version and n
abbrev pub length_in : List ℕ → ℕ
length_in s = number2 s 0

abbrev pub version_in : List ℕ → ℕ
version_in s = get_or s 2 0

abbrev pub count_in : List ℕ → ℕ
count_in s = number2 s 3

-- the ranges of the record at a place, with that of a direction and with an action set
abbrev pub entry_with : List ℕ → ℕ → Range → ℕ → Entry
entry_with s at d a = record {
  local_low = number4 s at;
  local_high = number4 s (at + 4);
  remote_low = number4 s (at + 8);
  remote_high = number4 s (at + 12);
  local_port_low = number2 s (at + 16);
  local_port_high = number2 s (at + 18);
  remote_port_low = number2 s (at + 20);
  remote_port_high = number2 s (at + 22);
  protocol_low = get_or s (at + 24) 0;
  protocol_high = get_or s (at + 25) 0;
  direction_low = d.low;
  direction_high = d.high;
  actions = a;
}

-- the direction of the record at a place: one of version 1 covers both
abbrev pub directions_at : ℕ → List ℕ → ℕ → Range
directions_at v s at = cond (eqb v 1) (range 0 1) (range (get_or s (at + 26) 0) (get_or s (at + 27) 0))

-- the record at a place, in a file of a version: its last two bytes are the action set
abbrev pub entry_at : ℕ → List ℕ → ℕ → Entry
entry_at v s at = entry_with s at (directions_at v s at) (number2 s (at + (record_size v - 2)))

-- the n entries from number i on, as a file of a version has them
abbrev pub entries_as : ℕ → List ℕ → ℕ → ℕ → List Entry
entries_as v s i zero = []
entries_as v s i (suc n) = entry_at v s (file_size v i) ∷ entries_as v s (i + 1) n

-- where record number i of a file starts; the length of a file that ends before it
abbrev pub place_in : List ℕ → ℕ → ℕ
place_in s i = file_size (version_in s) i

-- the n entries of a file from number i on
abbrev pub entries_from : List ℕ → ℕ → ℕ → List Entry
entries_from s i n = entries_as (version_in s) s i n

-- how many whole records there are behind the head
abbrev pub records_in : List ℕ → ℕ
records_in s = (length s - head_size) / record_size (version_in s)

-- the list that a file holds
abbrev pub list_in : List ℕ → List Entry
list_in s = entries_from s 0 (count_in s)

-- ---- to bytes

abbrev pub bytes2 : ℕ → List ℕ
bytes2 x = x / 256 % 256 ∷ x % 256 ∷ []

abbrev pub bytes4 : ℕ → List ℕ
bytes4 x = x / 16777216 % 256 ∷ x / 65536 % 256 ∷ x / 256 % 256 ∷ x % 256 ∷ []

-- the bytes of an entry's ranges, but for the direction
abbrev pub ranges_of : Entry → List ℕ
ranges_of e =
    bytes4 e.local_low ++ bytes4 e.local_high
    ++ bytes4 e.remote_low ++ bytes4 e.remote_high
    ++ bytes2 e.local_port_low ++ bytes2 e.local_port_high
    ++ bytes2 e.remote_port_low ++ bytes2 e.remote_port_high
    ++ e.protocol_low ∷ e.protocol_high ∷ []

-- an entry's record in a file of a version
abbrev pub record_of : ℕ → Entry → List ℕ
record_of v e = ranges_of e ++ (cond (eqb v 1) [] (e.direction_low ∷ e.direction_high ∷ []) ++ bytes2 e.actions)

abbrev pub records_of : ℕ → List Entry → List ℕ
records_of v [] = []
records_of v (e ∷ p) = record_of v e ++ records_of v p

-- a header's numbers as bytes: 4, 4, 2, 2, 1 and 1
abbrev pub header_bytes : List ℕ → List ℕ
header_bytes v = bytes4 (get_or v 0 0) ++ bytes4 (get_or v 1 0) ++ bytes2 (get_or v 2 0) ++ bytes2 (get_or v 3 0) ++ get_or v 4 0 ∷ get_or v 5 0 ∷ []

-- how many bytes a header has
abbrev pub header_size : ℕ
header_size = 14

-- a header put at the start of a buffer, if it has 14 bytes
abbrev pub header_put : List ℕ → List ℕ → List ℕ
header_put v buffer = cond (leb header_size (length buffer)) (header_bytes v ++ drop header_size buffer) buffer

-- the bytes before the records: L, the version and n
abbrev pub head_of : ℕ → ℕ → List ℕ
head_of v n = bytes2 (3 + record_size v * n) ++ v ∷ bytes2 n

-- a list's file of a version
abbrev pub file_of : ℕ → List Entry → List ℕ
file_of v p = head_of v (length p) ++ records_of v p
