-- The names of collections: 1 to 64 of the letters `a` to `z`, `0` to `9`, `_` and `-`. They are the same in scripts and in
-- records.
use Rattle.std.specs.Prelude.{ℕ, Bool, ◌&&◌, ◌||◌, ◌==◌, nat_le, List, length}
use Rattle.std.specs.List.{list_all}

-- `a` to `z`, `0` to `9`, `_`, `-`
abbrev pub is_name_letter : ℕ → Bool
is_name_letter c = (nat_le 97 c && nat_le c 122) || ((nat_le 48 c && nat_le c 57) || (c == 95 || c == 45))

abbrev pub is_name : List ℕ → Bool
is_name text = (nat_le 1 (length text) && nat_le (length text) 64) && list_all is_name_letter text
