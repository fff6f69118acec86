-- A number read from its own bytes.
use Prim.Native.Nat.{ℕ, ◌/◌, ◌%◌, ◌^◌, ◌<◌}
use mathlib.Core.Path.{◌≡◌}
use native.Mathlib.Omega.{arith}
use Rattle.std.proofs.lemmas.Nat.{from_le_bytes-to_le_bytes_4}
use Rattle.little_endian.specs.Bytes.{byte}
use Rattle.little_endian.specs.Number.{le32, le64, bytes4, bytes8}

-- Of four bytes,
pub read_back_4 : (n : ℕ) → n < 2 ^ 32
    → le32 (byte (bytes4 n) 0) (byte (bytes4 n) 1) (byte (bytes4 n) 2) (byte (bytes4 n) 3) ≡ n
read_back_4 n h = omega (arith, from_le_bytes-to_le_bytes_4 n h)

-- and of eight.
pub read_back_8 : (n : ℕ) → n < 2 ^ 64
    → le64 (byte (bytes8 n) 0) (byte (bytes8 n) 1) (byte (bytes8 n) 2) (byte (bytes8 n) 3)
    (byte (bytes8 n) 4) (byte (bytes8 n) 5) (byte (bytes8 n) 6) (byte (bytes8 n) 7)
    ≡ n
read_back_8 n h =
    omega (arith, read_back_4 (n % 2 ^ 32) (omega arith), read_back_4 (n / 2 ^ 32) (omega arith))
