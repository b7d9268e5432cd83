-- The book: a list of bytes for each handle row in use, fed each call and its answer. And the distances.
--   Book              a list for each row, or none
--   listed k i        the list of row i
--   list_of k i       the same, empty where there is none
--   enter k i xs      the book with the list xs for row i
--   strike k i        the book without a list for row i
--   joined k i j      the book with the list of row j appended to that of row i, and struck
--   fed m k c a       the book k after the call c was accepted with the answer a, where m is the memory as found
--   feed m k c a      the book k after the call c was answered a; a refusal leaves it
--   distance k c a    the distance of the call c, answered a, where k is the book before it
--   slid_by a         the bytes that an answer says slid
use Rattle.std.specs.Prelude.{ℕ, Bool, true, false, cond, List, [], ◌++◌, length, take, drop, Some, None, Option, slice_index_or, slice_set}
use Rattle.law.specs.Calls.{Call, opening, tally, with_capacity, from, len, capacity, read, split_off, split_to, split, truncate, advance, reserve, try_reclaim, extend, try_unsplit, unsplit, release}
use Rattle.law.specs.Calls.{Answer, Refused, Done, Made, Told, Tallied, Filled, Slid, Reclaimed, Unreclaimed, Joined, Declined}

abbrev pub Book : Type 0
Book = List (Option (List ℕ))

abbrev pub listed : Book → ℕ → Option (List ℕ)
listed k i = slice_index_or k i None

abbrev pub the_list : Option (List ℕ) → List ℕ
the_list (Some xs) = xs
the_list None = []

abbrev pub list_of : Book → ℕ → List ℕ
list_of k i = the_list (listed k i)

abbrev pub enter : Book → ℕ → List ℕ → Book
enter k i xs = slice_set k i (Some xs)

abbrev pub strike : Book → ℕ → Book
strike k i = slice_set k i None

abbrev pub accepted : Answer → Bool
accepted (Refused e) = false
accepted Done = true
accepted (Made i) = true
accepted (Told n) = true
accepted (Tallied x) = true
accepted (Filled xs) = true
accepted (Slid n) = true
accepted (Reclaimed n) = true
accepted Unreclaimed = true
accepted Joined = true
accepted Declined = true

-- the row of a new token; 64, which is no row, where there is none
abbrev pub new_row : Answer → ℕ
new_row (Refused e) = 64
new_row Done = 64
new_row (Made i) = i
new_row (Told n) = 64
new_row (Tallied x) = 64
new_row (Filled xs) = 64
new_row (Slid n) = 64
new_row (Reclaimed n) = 64
new_row Unreclaimed = 64
new_row Joined = 64
new_row Declined = 64

abbrev pub joined : Book → ℕ → ℕ → Book
joined k i j = strike (enter k i (list_of k i ++ list_of k j)) j

abbrev pub if_joined : Answer → Book → Book → Book
if_joined (Refused e) yes' no' = no'
if_joined Done yes' no' = no'
if_joined (Made i) yes' no' = no'
if_joined (Told n) yes' no' = no'
if_joined (Tallied x) yes' no' = no'
if_joined (Filled xs) yes' no' = no'
if_joined (Slid n) yes' no' = no'
if_joined (Reclaimed n) yes' no' = no'
if_joined Unreclaimed yes' no' = no'
if_joined Joined yes' no' = yes'
if_joined Declined yes' no' = no'

abbrev pub fed : List ℕ → Book → Call → Answer → Book
fed m k (opening number fixed limit) a = k
fed m k tally a = k
fed m k (with_capacity n) a = enter k (new_row a) []
fed m k (from xs) a = enter k (new_row a) xs
fed m k (len t) a = k
fed m k (capacity t) a = k
fed m k (read t at out) a = k
fed m k (split_off t at) a = enter (enter k t.row (take at (list_of k t.row))) (new_row a) (drop at (list_of k t.row))
fed m k (split_to t at) a = enter (enter k t.row (drop at (list_of k t.row))) (new_row a) (take at (list_of k t.row))
fed m k (split t) a = enter (enter k t.row []) (new_row a) (list_of k t.row)
fed m k (truncate t n) a = enter k t.row (take n (list_of k t.row))
fed m k (advance t n) a = enter k t.row (drop n (list_of k t.row))
fed m k (reserve t g n) a = k
fed m k (try_reclaim t n) a = k
fed m k (extend t g xs) a = enter k t.row (list_of k t.row ++ xs)
fed m k (try_unsplit t o) a = if_joined a (joined k t.row o.row) k
fed m k (unsplit t g o) a = joined k t.row o.row
fed m k (release t) a = strike k t.row

abbrev pub feed : List ℕ → Book → Call → Answer → Book
feed m k c a = cond (accepted a) (fed m k c a) k

abbrev pub way : Book → Call → ℕ
way k (opening number fixed limit) = 0
way k tally = 0
way k (with_capacity n) = 0
way k (from xs) = 0
way k (len t) = 0
way k (capacity t) = 0
way k (read t at out) = 0
way k (split_off t at) = at
way k (split_to t at) = at
way k (split t) = length (list_of k t.row)
way k (truncate t n) = 0
way k (advance t n) = n
way k (reserve t g n) = 0
way k (try_reclaim t n) = 0
way k (extend t g xs) = 0
way k (try_unsplit t o) = 0
way k (unsplit t g o) = 0
way k (release t) = 0

abbrev pub distance : Book → Call → Answer → ℕ
distance k c a = cond (accepted a) (way k c) 0

abbrev pub slid_by : Answer → ℕ
slid_by (Refused e) = 0
slid_by Done = 0
slid_by (Made i) = 0
slid_by (Told n) = 0
slid_by (Tallied x) = 0
slid_by (Filled xs) = 0
slid_by (Slid n) = n
slid_by (Reclaimed n) = n
slid_by Unreclaimed = 0
slid_by Joined = 0
slid_by Declined = 0
