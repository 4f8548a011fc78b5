-- The checksum FNV-1a of 64 bits.
use Rattle.std.specs.Prelude.{ℕ, ◌*◌, ◌%◌, ◌^◌, List, fold, bit_xor}

-- the checksum with one byte more
abbrev pub with_byte : ℕ → ℕ → ℕ
with_byte sum byte = bit_xor sum byte * 1099511628211 % 2 ^ 64

abbrev pub checksum_of : List ℕ → ℕ
checksum_of bytes = fold with_byte 14695981039346656037 bytes
