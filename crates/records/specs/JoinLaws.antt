-- Numbers in bytes, read, made and written one part behind the other.
use Rattle.std.specs.Prelude.{ℕ, zero, suc, ◌+◌, ◌*◌, ◌/◌, ◌^◌, List, [], ◌∷◌, ◌++◌, ◌≡◌, refl, length, set}
use Rattle.std.proofs.Common.{ap, zero-add, suc-add, mul_assoc, arith}
use Rattle.std.proofs.Math.Nat.{pow-succ', div-div-eq-div-mul}
use Rattle.model.specs.Sequence.{write_at}
use Rattle.records.specs.Little.{BYTE, little, bytes_of}

-- two parts are written as one
pub write_join : (room : List ℕ) (i j : ℕ) (a b : List ℕ) → i + length a ≡ j → write_at (write_at room i a) j b ≡ write_at room i (a ++ b)
write_join room i j [] b e = let z : j ≡ i = omega arith in rw z
write_join room i j (n ∷ ns) b e = write_join (set room i n) (i + 1) j ns b (omega arith)

pub length-bytes : (n number : ℕ) → length (bytes_of n number) ≡ n
length-bytes zero number = refl
length-bytes (suc n) number = ap suc (length-bytes n (number / BYTE))

-- two parts are read as one
pub read_join : (n m : ℕ) (bytes : List ℕ) (i j : ℕ) → i + n ≡ j → little n bytes i + BYTE ^ n * little m bytes j ≡ little (n + m) bytes i
read_join zero m bytes i j e = let z : j ≡ i = omega arith in rw (z, zero-add m) (omega arith)
read_join (suc n) m bytes i j e =
    let rest : little n bytes (i + 1) + BYTE ^ n * little m bytes j ≡ little (n + m) bytes (i + 1) = read_join n m bytes (i + 1) j (omega arith) in
    rw (suc-add n m, pow-succ' BYTE n, mul_assoc BYTE (BYTE ^ n) (little m bytes j)) (omega arith)

-- the bytes of a number in two parts
pub bytes_join : (n m number : ℕ) → bytes_of n number ++ bytes_of m (number / BYTE ^ n) ≡ bytes_of (n + m) number
bytes_join zero m number = let z : number / 1 ≡ number = omega arith in rw (z, zero-add m)
bytes_join (suc n) m number =
    rw (suc-add n m, pow-succ' BYTE n, ← div-div-eq-div-mul number BYTE (BYTE ^ n), bytes_join n m (number / BYTE))
