-- Where a new block goes.
--   meets p n r              whether n bytes from p on have a position in common with the block of a row
--   clear p n rs             whether they have none in common with any block of the rows rs
--   end_of r                 where the block of a row ends, if there is one
--   fits_at limit rs p n     whether a block of n bytes fits at p, below the limit
--   lower limit rs n best p  the lower of the best place so far and p, if p fits
--   lowest_of limit rs n best ends   the lowest of the best place so far and the ends of the blocks in the last list
--   lowest_place start limit rs n    the lowest place from start on: start itself, or the end of a block
use Rattle.std.specs.Prelude.{ℕ, ◌+◌, Bool, true, false, if◌then◌else◌, ◌&&◌, List, [], ◌∷◌, Some, None, Option, nat_le, nat_lt}
use Rattle.rows.specs.declared.block.BlockRow.{BlockRow}
use Rattle.rows.specs.declared.block.BlockRow.TheVariants.{Free, Live}

abbrev pub meets : ℕ → ℕ → BlockRow → Bool
meets p n Free = false
meets p n (Live b) = nat_lt 0 n && (nat_lt 0 b.size && (nat_lt p (b.place + b.size) && nat_lt b.place (p + n)))

abbrev pub clear : ℕ → ℕ → List BlockRow → Bool
clear p n [] = true
clear p n (r ∷ rs) = if meets p n r then false else clear p n rs

abbrev pub end_of : BlockRow → Option ℕ
end_of Free = None
end_of (Live b) = Some (b.place + b.size)

abbrev pub fits_at : ℕ → List BlockRow → ℕ → ℕ → Bool
fits_at limit rs p n = nat_le (p + n) limit && clear p n rs

abbrev pub sooner : ℕ → Option ℕ → Bool
sooner p None = true
sooner p (Some q) = nat_lt p q

abbrev pub lower : ℕ → List BlockRow → ℕ → Option ℕ → ℕ → Option ℕ
lower limit rs n best p = if sooner p best && fits_at limit rs p n then Some p else best

abbrev pub lowest_of : ℕ → List BlockRow → ℕ → Option ℕ → List BlockRow → Option ℕ
lowest_of limit rs n best [] = best
lowest_of limit rs n best (Free ∷ ends) = lowest_of limit rs n best ends
lowest_of limit rs n best (Live b ∷ ends) = lowest_of limit rs n (lower limit rs n best (b.place + b.size)) ends

abbrev pub lowest_place : ℕ → ℕ → List BlockRow → ℕ → Option ℕ
lowest_place start limit rs n = lowest_of limit rs n (lower limit rs n None start) rs
