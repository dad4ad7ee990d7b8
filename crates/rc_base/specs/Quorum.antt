-- The sizes of quorums among n members. A write quorum and a read quorum share a member: together they are n + 1.
use Rattle.std.specs.Prelude.{ℕ, ◌+◌, ◌/◌}

-- more than half
abbrev pub write_quorum : ℕ → ℕ
write_quorum n = n / 2 + 1

-- half, rounded up
abbrev pub read_quorum : ℕ → ℕ
read_quorum n = (n + 1) / 2
