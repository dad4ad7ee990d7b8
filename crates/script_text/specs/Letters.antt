-- The letters and lengths of the words that name collections, keys and values in a script.
use Rattle.std.specs.Prelude.{ℕ, Bool, ◌&&◌, ◌||◌, ◌==◌, nat_le, List, length}
use Rattle.std.specs.List.{list_all}

-- `a` to `z`, `A` to `Z`, `0` to `9`, `_`, `-`, `.`, `/`
abbrev pub is_key_letter : ℕ → Bool
is_key_letter c =
    ((nat_le 97 c && nat_le c 122) || (nat_le 65 c && nat_le c 90))
    || ((nat_le 48 c && nat_le c 57) || ((c == 95 || c == 45) || (c == 46 || c == 47)))

-- a key has 1 to 128 of them
abbrev pub is_key_word : List ℕ → Bool
is_key_word text = (nat_le 1 (length text) && nat_le (length text) 128) && list_all is_key_letter text

-- a value has 1 to 1,024 of them
abbrev pub is_value_word : List ℕ → Bool
is_value_word text = (nat_le 1 (length text) && nat_le (length text) 1024) && list_all is_key_letter text
