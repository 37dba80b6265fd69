-- What the library makes of eight bytes and of a number, in terms of as many of the bytes as a part has.
use Rattle.std.specs.Prelude.{ℕ, zero, suc, ◌+◌, ◌-◌, ◌/◌, ◌%◌, ◌^◌, ◌≤◌, ◌<◌, List, [], ◌∷◌, ◌++◌, ◌≡◌, refl, length, get_or, take, drop, set, replicate}
use Rattle.std.specs.Int.{w64, to_le_bytes, from_le_bytes, bytes_low_first}
use Rattle.std.proofs.Common.{ap, sym, ◌∙◌, arith, zero-add, length-take, length-drop, length-set, append_assoc, take-append-drop}
use Rattle.std.proofs.lemmas.List.{get_or-drop, get_or-take, get_or-replicate, take_at, take_more_set, drop-set-lt, drop-drop}
use Rattle.std.proofs.Math.Nat.{pow-suc, div-div-eq-div-mul}
use Rattle.model.specs.Sequence.{write_at}
use Rattle.records.specs.Little.{BYTE, little, bytes_of}
use Rattle.records.specs.JoinLaws.{length-bytes, read_join, bytes_join}
use Rattle.records.specs.LittleLaws.{little_same, little_left, little_right}

-- ---- read
from_le : (bytes : List ℕ) → from_le_bytes w64 bytes ≡ little 8 bytes 0
from_le bytes = omega arith

-- zeros behind a part add nothing
little_zeros : (n : ℕ) (zeros : List ℕ) (at : ℕ) → ((k : ℕ) → k < at + n → get_or zeros k 0 ≡ 0) → little n zeros at ≡ 0
little_zeros zero zeros at none = refl
little_zeros (suc n) zeros at none = omega (arith, none at (omega arith), little_zeros n zeros (at + 1) (λ k h. none k (omega arith)))

little_padded : (n m : ℕ) (part zeros : List ℕ) → length part ≡ n → ((k : ℕ) → k < m → get_or zeros k 0 ≡ 0) → little (n + m) (part ++ zeros) 0 ≡ little n part 0
little_padded n m part zeros size none =
    let front : little n (part ++ zeros) 0 ≡ little n part 0 = little_left n part zeros 0 (omega arith) in
    let place : length part + 0 ≡ n = omega arith in
    let back : little m (part ++ zeros) n ≡ 0 = rw place at (little_right m part zeros 0) ∙ little_zeros m zeros 0 (λ k h. none k (omega arith)) in
    sym (read_join n m (part ++ zeros) 0 n (zero-add n)) ∙ rw (front, back) (omega arith)

drop_zeros : (n m k : ℕ) → n + k < m → get_or (drop n (replicate {A = ℕ} m 0)) k 0 ≡ 0
drop_zeros n m k h = get_or-drop n (replicate m 0) k 0 ∙ get_or-replicate m (n + k) 0 0 h

-- what stands at a place, in the first of eight bytes
pub read_part : (n : ℕ) (bytes part zeros : List ℕ) (at number : ℕ) → n ≤ 8 → at + n ≤ length bytes → part ≡ take (at + n - at) (drop at bytes) →
    zeros ≡ drop n (replicate 8 0) → number ≡ from_le_bytes w64 (part ++ zeros) → number ≡ little n bytes at
read_part n bytes part zeros at number w h e o r =
    let z : at + n - at ≡ n = omega arith in
    let part-is : part ≡ take n (drop at bytes) = rw z at e in
    let size : length part ≡ n = rw part-is (simp (length-take, length-drop) (omega arith)) in
    let all : n + (8 - n) ≡ 8 = omega arith in
    let none : (k : ℕ) → k < 8 - n → get_or zeros k 0 ≡ 0 = λ k l. rw o (drop_zeros n 8 k (omega arith)) in
    let same = little_same n part bytes 0 at (λ k l. let y : 0 + k ≡ k = zero-add k in rw (y, part-is) (get_or-take n (drop at bytes) k 0 l ∙ get_or-drop at bytes k 0)) in
    r ∙ from_le (part ++ zeros) ∙ rw all at (little_padded n (8 - n) part zeros size none) ∙ same

-- ---- put
lowest : (i n number : ℕ) → bytes_low_first i n number ≡ bytes_of n (number / BYTE ^ i)
lowest i zero number = refl
lowest zero (suc n) number = let z : number / 1 ≡ number = omega arith in rw z (ap (λ ns. number % BYTE ∷ ns) (lowest 1 n number))
lowest (suc i) (suc n) number =
    let next : number / BYTE ^ suc i / BYTE ≡ number / BYTE ^ suc (suc i) = rw (pow-suc BYTE (suc i)) (div-div-eq-div-mul number (BYTE ^ suc i) BYTE) in
    rw next (ap (λ ns. number / BYTE ^ suc i % BYTE ∷ ns) (lowest (suc (suc i)) n number))

-- the first of the eight bytes of a number
take_bytes : (n m number : ℕ) → take n (bytes_of (n + m) number) ≡ bytes_of n number
take_bytes n m number = rw (← bytes_join n m number) (take_at (bytes_of n number) (bytes_of m (number / BYTE ^ n)) n (length-bytes n number))

-- numbers in the place of as many are written there
written_mid : (room : List ℕ) (i : ℕ) (ns : List ℕ) → i + length ns ≤ length room → take i room ++ (ns ++ drop (length ns) (drop i room)) ≡ write_at room i ns
written_mid room i [] h = take-append-drop i room
written_mid room i (n ∷ ns) h =
    let rest = written_mid (set room i n) (i + 1) ns (omega (arith, length-set room i n)) in
    let z : i + suc (length ns) ≡ i + 1 + length ns = omega arith in
    let inside : i < length room = omega arith in
    let before : i < i + 1 = omega arith in
    rw (drop-drop (suc (length ns)) i room, z)
    (rw (take_more_set room i n inside, append_assoc (take i room) (n ∷ []), drop-set-lt (i + 1) room i n, drop-drop (length ns) (i + 1) room) at rest)

pub put_part : (n : ℕ) (bytes part whole : List ℕ) (at number : ℕ) → n ≤ 8 → at + n ≤ length bytes → whole ≡ to_le_bytes w64 number → part ≡ take n whole →
    take at bytes ++ (part ++ drop (at + n - at) (drop at bytes)) ≡ write_at bytes at (bytes_of n number)
put_part n bytes part whole at number w h o e =
    let z : at + n - at ≡ n = omega arith in
    let all : n + (8 - n) ≡ 8 = omega arith in
    let y : number / 1 ≡ number = omega arith in
    let first : part ≡ bytes_of n number = rw (e, o, lowest 0 8 number, y) (rw all at (take_bytes n (8 - n) number)) in
    let size = length-bytes n number in
    rw (z, first) (rw size at (written_mid bytes at (bytes_of n number) (omega arith)))
